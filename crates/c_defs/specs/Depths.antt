-- How deep types are.
use Rattle.std.specs.Prelude.{ℕ, zero, suc, Bool, true, false, ◌&&◌, ◌||◌, List, [], ◌∷◌}
use Rattle.c_tree.specs.declared.types.StructDef.{StructDef}
use Rattle.c_tree.specs.declared.types.Member.{Member}
use Rattle.c_tree.specs.Layout.{members_of}
use Rattle.c_typing.specs.Plain.{Plain, Pointer, Array, Struct, plain, is_struct}

-- whether the types of a struct's members are so
abbrev pub are_within : (Plain → Bool) → List Member → Bool
are_within f [] = true
are_within f (m ∷ ms) = f (plain m.ctype) && are_within f ms

-- a type is at most so deep: a pointer to a struct is 1 deep, and another pointer, an array and a struct are one deeper than what they point to or hold
abbrev pub is_within : List StructDef → ℕ → Plain → Bool
is_within defs zero t = false
is_within defs (suc deep) (Pointer t) = is_struct t || is_within defs deep t
is_within defs (suc deep) (Array t n) = is_within defs deep t
is_within defs (suc deep) (Struct s) = are_within (is_within defs deep) (members_of defs s)
is_within defs (suc deep) _ = true

-- how deep a type may be
unfoldable pub deepest : ℕ
deepest = 64
