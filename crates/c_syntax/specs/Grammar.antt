-- Which tokens are a translation unit (C90 6.7). The declarators, the initializers and the functions' bodies in it are trees of their own, and h is the
-- greatest height of one.
use Rattle.std.specs.Prelude.{ℕ, max, List, [], ◌∷◌, ◌++◌}
use Rattle.c_symbol.specs.declared.terminal.Terminal.{Terminal}
use Rattle.c_trees.specs.declared.declaration.Head.{Head}
use Rattle.c_trees.specs.declared.declaration.FunctionHead.{FunctionHead}
use Rattle.c_declaration.specs.Grammar.{IsHead, IsFunctionHead}
use Rattle.c_trees.specs.Statements.{StatementTree}
use Rattle.c_statement.specs.Grammar.{IsBlock}
use Rattle.c_trees.specs.declared.unit.External.{External}
use Rattle.c_trees.specs.declared.unit.External.TheVariants.{Declaration, Definition}

pub data IsExternal : External → ℕ → List Terminal → Type 0 where
  declaration : {d : Head} {h : ℕ} {ts : List Terminal} → IsHead d h ts → IsExternal (Declaration d) h ts
  definition : {d : FunctionHead} {x : StatementTree} {m n : ℕ} {us vs : List Terminal} → IsFunctionHead d m us → IsBlock x n vs → IsExternal (Definition d x) (max m n) (us ++ vs)

pub data IsUnit : List External → ℕ → List Terminal → Type 0 where
  first_external : {e : External} {h : ℕ} {ts : List Terminal} → IsExternal e h ts → IsUnit (e ∷ []) h ts
  next_external : {es : List External} {e : External} {m n : ℕ} {us vs : List Terminal} → IsUnit es m us → IsExternal e n vs → IsUnit (es ++ e ∷ []) (max m n) (us ++ vs)
