-- How many leaves types have.
use Rattle.std.specs.Prelude.{ℕ, zero, suc, ◌+◌, ◌*◌, List, [], ◌∷◌}
use Rattle.c_tree.specs.declared.types.StructDef.{StructDef}
use Rattle.c_tree.specs.declared.types.Member.{Member}
use Rattle.c_tree.specs.Layout.{members_of}
use Rattle.c_typing.specs.Plain.{Plain, Void, Array, Struct, plain}

abbrev pub leaves_of_members : (Plain → ℕ) → List Member → ℕ
leaves_of_members f [] = 0
leaves_of_members f (m ∷ ms) = f (plain m.ctype) + leaves_of_members f ms

-- how many leaves a type has that is at most so deep
abbrev pub leaf_count : List StructDef → (deep : ℕ) → Plain → ℕ
leaf_count defs zero t = 0
leaf_count defs (suc deep) Void = 0
leaf_count defs (suc deep) (Array t n) = n * leaf_count defs deep t
leaf_count defs (suc deep) (Struct s) = leaves_of_members (leaf_count defs deep) (members_of defs s)
leaf_count defs (suc deep) t = 1
