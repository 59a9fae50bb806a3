-- Trees of statements, without where they lie in memory. A block is written from the left: one more declaration or statement behind those before.
use Rattle.std.specs.Prelude.{ℕ, ◌+◌, List, [], ◌∷◌, Option}
use Rattle.c_lex.specs.declared.token.Place.{Place}
use Rattle.c_trees.specs.Expressions.{Tree}
use Rattle.c_trees.specs.declared.declaration.Local.{Local}
use Rattle.c_trees.specs.declared.statement.Head.{Head}

pub data StatementTree : Type 0 where
  Empty : Place → StatementTree
  Evaluate : Tree → StatementTree
  -- a block: its `{`, one declaration more, one statement more, and its `}`
  Begun : Place → StatementTree
  Declares : StatementTree → Local → StatementTree
  Also : StatementTree → StatementTree → StatementTree
  Closed : StatementTree → Place → StatementTree
  If : Place → Tree → StatementTree → StatementTree
  IfElse : Place → Tree → StatementTree → StatementTree → StatementTree
  -- a loop, a `switch` or a labeled statement: what stands before its statement, and that
  Headed : Head → StatementTree → StatementTree
  Do : Place → StatementTree → Tree → StatementTree
  Break : Place → StatementTree
  Continue : Place → StatementTree
  Return : Place → Option Tree → StatementTree

-- more than the depth of each part
abbrev pub depth : StatementTree → ℕ
depth (Empty _) = 0
depth (Evaluate _) = 0
depth (Begun _) = 0
depth (Declares a _) = depth a + 1
depth (Also a b) = depth a + depth b + 1
depth (Closed a _) = depth a + 1
depth (If _ _ a) = depth a + 1
depth (IfElse _ _ a b) = depth a + depth b + 1
depth (Headed _ a) = depth a + 1
depth (Do _ a _) = depth a + 1
depth (Break _) = 0
depth (Continue _) = 0
depth (Return _ _) = 0

-- a block with all of its declarations
abbrev pub with_locals : StatementTree → List Local → StatementTree
with_locals b [] = b
with_locals b (l ∷ ls) = with_locals (Declares b l) ls

-- a block with all of its statements
abbrev pub with_statements : StatementTree → List StatementTree → StatementTree
with_statements b [] = b
with_statements b (s ∷ ss) = with_statements (Also b s) ss
