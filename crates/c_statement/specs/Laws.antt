-- What reading a block promises: the tokens that are read to its `}` are exactly those of the grammar.
use Rattle.std.specs.Prelude.{◌≡◌, ℕ, List, [], Option, Some}
use Rattle.c_symbol.specs.declared.terminal.Terminal.{Terminal}
use Rattle.c_declaration.specs.declared.built.Built.{Built}
use Rattle.c_declaration.specs.Grown.{cut}
use Rattle.c_statement.specs.declared.state.Mode.TheVariants.{Done}
use Rattle.c_statement.specs.declared.state.Reader.{Reader}
use Rattle.c_trees.specs.Statements.{StatementTree}
use Rattle.c_statement.specs.Grammar.{IsBlock}
use Rattle.c_statement.specs.Machine.{run, goes, start_block}

-- a block is read to its `}`
abbrev pub BlockEnds : Type 0
BlockEnds = (b : StatementTree) (h : ℕ) (ts : List Terminal) → IsBlock b h ts → run ts start_block ≡ goes (Done (cut b h)) []

-- and what is read is one
abbrev pub BlockIs : Type 0
BlockIs = (ts : List Terminal) (q : Reader) (a : Option (Built StatementTree)) → run ts start_block ≡ Some q → q.mode ≡ Done a
    → (b : StatementTree) × (h : ℕ) × IsBlock b h ts × (a ≡ cut b h)
