-- Types of C as plain trees (C90 6.1.2.5), and what the rules ask of them.
use Rattle.std.specs.Prelude.{ℕ, Bool, true, false, not, ◌&&◌, ◌||◌, ◌==◌, nat_le, List, [], ◌∷◌}
use Rattle.c_tree.specs.declared.types.CType.{CType}
use Rattle.c_tree.specs.declared.types.CType.TheVariants as ctype
use Rattle.c_tree.specs.declared.types.StructDef.{StructDef}
use Rattle.c_tree.specs.Layout.{members_of}

-- a type: as `CType`, without its boxes, so that equal types are equal
pub data Plain : Type 0 where
  Char : Plain
  Int : Plain
  Unsigned : Plain
  Void : Plain
  Pointer : (target : Plain) → Plain
  Array : (item : Plain) (bound : ℕ) → Plain
  Struct : (number : ℕ) → Plain

-- the type that a `CType` is
abbrev pub plain : CType → Plain
plain ctype.Char = Char
plain ctype.Int = Int
plain ctype.Unsigned = Unsigned
plain ctype.Void = Void
plain (ctype.Pointer' _ t) = Pointer (plain t)
plain (ctype.Array' _ t n) = Array (plain t) n
plain (ctype.Struct s) = Struct s

-- whether two types are the same (C90 6.1.2.6)
abbrev pub same : Plain → Plain → Bool
same Char Char = true
same Int Int = true
same Unsigned Unsigned = true
same Void Void = true
same (Pointer s) (Pointer t) = same s t
same (Array s m) (Array t n) = same s t && (m == n)
same (Struct m) (Struct n) = m == n
same _ _ = false

abbrev pub is_integer : Plain → Bool
is_integer Char = true
is_integer Int = true
is_integer Unsigned = true
is_integer _ = false

abbrev pub is_pointer : Plain → Bool
is_pointer (Pointer t) = true
is_pointer _ = false

-- integers and pointers (C90 6.1.2.5)
abbrev pub is_scalar : Plain → Bool
is_scalar t = is_integer t || is_pointer t

abbrev pub is_array : Plain → Bool
is_array (Array t n) = true
is_array _ = false

abbrev pub is_struct : Plain → Bool
is_struct (Struct s) = true
is_struct _ = false

abbrev pub is_void : Plain → Bool
is_void Void = true
is_void _ = false

abbrev pub is_empty : {A : Type 0} → List A → Bool
is_empty [] = true
is_empty (x ∷ xs) = false

-- A complete type is not `void`, its arrays have bounds, and its structs have members (C90 6.1.2.5).
abbrev pub is_complete : List StructDef → Plain → Bool
is_complete defs Void = false
is_complete defs (Array t n) = nat_le 1 n && is_complete defs t
is_complete defs (Struct s) = not (is_empty (members_of defs s))
is_complete defs _ = true

-- an array's value is a pointer to its first item (C90 6.2.2.1)
abbrev pub value_type : Plain → Plain
value_type (Array t n) = Pointer t
value_type t = t

-- the integral promotions (C90 6.2.1.1)
abbrev pub promoted : Plain → Plain
promoted Unsigned = Unsigned
promoted _ = Int

-- the usual arithmetic conversions (C90 6.2.1.5)
abbrev pub common : Plain → Plain → Plain
common Unsigned t = Unsigned
common s t = promoted t
