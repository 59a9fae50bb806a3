-- Initializers that fill their objects.
use Rattle.std.specs.Prelude.{◌≡◌, ℕ, true, List, [], ◌∷◌}
use Rattle.c_trees.specs.Initializers.{InitialTree, Value, Braces, Item}
use Rattle.c_tree.specs.declared.types.StructDef.{StructDef}
use Rattle.c_tree.specs.declared.types.Member.{Member}
use Rattle.c_tree.specs.Layout.{members_of}
use Rattle.c_typing.specs.Plain.{plain, is_complete}

-- an expression, or a list in braces of initializers
abbrev mutual
  pub IsInitial : InitialTree → Type 0
  IsInitial (Value e) = Unit {0}
  IsInitial (Braces at) = Unit {0}
  IsInitial (Item i j) = IsList i × IsInitial j

  pub IsList : InitialTree → Type 0
  IsList (Value e) = ⊥
  IsList (Braces at) = Unit {0}
  IsList (Item i j) = IsList i × IsInitial j

abbrev pub AreComplete : List StructDef → List Member → Type 0
AreComplete defs [] = Unit {0}
AreComplete defs (m ∷ ms) = (is_complete defs (plain m.ctype) ≡ true) × AreComplete defs ms

-- the members of each struct are of complete types
abbrev pub AreWhole : List StructDef → Type 0
AreWhole defs = (s : ℕ) → AreComplete defs (members_of defs s)
