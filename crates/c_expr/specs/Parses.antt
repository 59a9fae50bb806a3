-- What reading an expression promises.
use Rattle.std.specs.Prelude.{ℕ, ◌≤◌, ◌<◌, List, Result, Ok, Err}
use Rattle.c_symbol.specs.declared.terminal.Terminal.{Terminal}
use Rattle.c_expr.specs.declared.state.SynFault.{SynFault}
use Rattle.c_expr.specs.declared.state.SynFault.TheVariants.{Syntax, Deep, NoMemory}
use Rattle.c_trees.specs.Expressions.{Tree}
use Rattle.c_expr.specs.Grammar.{Spells}

-- The answer is the tokens' tree, of height at most 64. Syntax comes where they have none, and Deep where they have one that is higher.
abbrev pub Parses : Result Tree SynFault → List Terminal → Type 0
Parses (Ok e) ts = (h : ℕ) × (h ≤ 64) × Spells ts e h
Parses (Err (Syntax _)) ts = (e : Tree) (h : ℕ) → Spells ts e h → ⊥
Parses (Err (Deep _)) ts = (e : Tree) × (h : ℕ) × (64 < h) × Spells ts e h
Parses (Err NoMemory) ts = Unit {0}
