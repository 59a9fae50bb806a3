-- What reading a unit promises.
use Rattle.std.specs.Prelude.{◌≡◌, ℕ, ◌≤◌, ◌<◌, List, Result, Ok, Err}
use Rattle.c_symbol.specs.declared.terminal.Terminal.{Terminal}
use Rattle.c_expr.specs.declared.state.SynFault.{SynFault}
use Rattle.c_expr.specs.declared.state.SynFault.TheVariants.{Syntax, Deep, NoMemory}
use Rattle.c_trees.specs.declared.unit.External.{External}
use Rattle.c_trees.specs.declared.unit.Unit.{Unit as UnitTree}
use Rattle.c_syntax.specs.Grammar.{IsUnit}

-- The answer is the tokens' unit, nested at most 64 deep. Syntax comes where they are none, and Deep where they are one that is nested more deeply.
abbrev pub Parses : Result UnitTree SynFault → List Terminal → Type 0
Parses (Ok u) ts = (h : ℕ) × (h ≤ 64) × IsUnit u.externals h ts
Parses (Err (Syntax _)) ts = (es : List External) (h : ℕ) → IsUnit es h ts → ⊥
Parses (Err (Deep _)) ts = (es : List External) × (h : ℕ) × (64 < h) × IsUnit es h ts
Parses (Err NoMemory) ts = Unit {0}

-- the tokens are one unit at most, which is nested at most 64 deep or deeper
abbrev pub OneUnit : Type 0
OneUnit = (ts : List Terminal) (a b : List External) (m n : ℕ) → m ≤ 64 → IsUnit a m ts → IsUnit b n ts → (a ≡ b) × (n ≤ 64)
