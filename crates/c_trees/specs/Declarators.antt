-- Trees of declarators and of parameters, without where they lie in memory. Each alternative of a declarator has the place of its first token.
use Rattle.std.specs.Prelude.{ℕ, ◌+◌, Bool, List, [], ◌∷◌, Option}
use Rattle.c_lex.specs.declared.token.Place.{Place}
use Rattle.c_trees.specs.declared.expression.Spec.{Spec}
use Rattle.c_trees.specs.Expressions.{Tree}

pub data DeclaratorTree : Type 0 where
  Name : Place → List ℕ → DeclaratorTree
  Parens : Place → DeclaratorTree → DeclaratorTree
  -- so many `*`, one at least, before a declarator that has none in front
  Pointers : Place → ℕ → DeclaratorTree → DeclaratorTree
  -- with its bound, where it has one
  Array : Place → DeclaratorTree → Option Tree → DeclaratorTree
  -- a function without parameters, and with one parameter more
  Function : Place → DeclaratorTree → DeclaratorTree
  Taking : DeclaratorTree → DeclaratorTree → DeclaratorTree
  -- a parameter: whether it has `register`, how its type begins, and its declarator
  Named : Place → Bool → Spec → DeclaratorTree → DeclaratorTree
  Unnamed : Place → Spec → Tree → DeclaratorTree

-- where a declarator or a parameter begins
abbrev pub begins : DeclaratorTree → Place
begins (Name at _) = at
begins (Parens at _) = at
begins (Pointers at _ _) = at
begins (Array at _ _) = at
begins (Function at _) = at
begins (Taking d _) = begins d
begins (Named at _ _ _) = at
begins (Unnamed at _ _) = at

-- more than the depth of each part
abbrev pub depth : DeclaratorTree → ℕ
depth (Name _ _) = 0
depth (Parens _ d) = depth d + 1
depth (Pointers _ _ d) = depth d + 1
depth (Array _ d _) = depth d + 1
depth (Function _ d) = depth d + 1
depth (Taking d p) = depth d + depth p + 1
depth (Named _ _ _ d) = depth d + 1
depth (Unnamed _ _ _) = 0

-- a function with all of its parameters
abbrev pub with_parameters : DeclaratorTree → List DeclaratorTree → DeclaratorTree
with_parameters d [] = d
with_parameters d (p ∷ ps) = with_parameters (Taking d p) ps
