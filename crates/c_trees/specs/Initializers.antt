-- Trees of initializers, without where they lie in memory.
use Rattle.std.specs.Prelude.{ℕ, ◌+◌, List, [], ◌∷◌}
use Rattle.c_lex.specs.declared.token.Place.{Place}
use Rattle.c_trees.specs.Expressions.{Tree}

pub data InitialTree : Type 0 where
  Value : Tree → InitialTree
  -- `{` and nothing yet, and one initializer more
  Braces : Place → InitialTree
  Item : InitialTree → InitialTree → InitialTree

-- more than the depth of each part
abbrev pub depth : InitialTree → ℕ
depth (Value _) = 0
depth (Braces _) = 0
depth (Item i j) = depth i + depth j + 1

-- a list in braces with all of its items
abbrev pub with_items : InitialTree → List InitialTree → InitialTree
with_items i [] = i
with_items i (j ∷ js) = with_items (Item i j) js
