-- Structs at a place of a file, and those of the whole program: what is complete at the place stays as it is (C90 6.1.2.5, 6.5.2.3).
use Rattle.std.specs.Prelude.{◌≡◌, ◌≤◌, ◌<◌, ℕ, true, false, List, length, map}
use Rattle.std.specs.List.{AllByRecursion}
use Rattle.c_tree.specs.declared.types.StructDef.{StructDef}
use Rattle.c_tree.specs.declared.types.Member.{Member}
use Rattle.c_tree.specs.Layout.{members_of, struct_size_of}
use Rattle.c_typing.specs.Plain.{Plain, Pointer, Array, Struct, plain, is_empty, is_void, is_complete}
use Rattle.c_typing.specs.Values.{size_of}

abbrev pub ctype_of : Member → Plain
ctype_of m = plain m.ctype

module _ (defs : List StructDef) where
  -- 1, 2, 9. What is asked where a type is written of each type that it points to or holds, but for the structs themselves: an array has at most 1,048,576
  -- items of a complete type and as many bytes, no pointer points to `void`, and each struct is one of these (C90 6.5.4.1, 6.5.4.2).
  abbrev pub IsMade : Plain → Type 0
  IsMade (Pointer t) = IsMade t × (is_void t ≡ false)
  IsMade (Array t n) = IsMade t × (is_complete defs t ≡ true) × (n ≤ 1048576) × (size_of defs (Array t n) ≤ 1048576)
  IsMade (Struct s) = s < length defs
  IsMade _ = Unit {0}

  -- a member has a complete type
  abbrev pub IsHeld : Member → Type 0
  IsHeld m = IsMade (ctype_of m) × (is_complete defs (ctype_of m) ≡ true)

-- A struct that is complete before is so behind, with members of the same types and the same size. What is held by it is complete too.
pub record Grows (before behind : List StructDef) : Type 0 where
  pub count : length before ≤ length behind
  pub members : (s : ℕ) → is_empty (members_of before s) ≡ false → map ctype_of (members_of behind s) ≡ map ctype_of (members_of before s)
  pub size : (s : ℕ) → is_empty (members_of before s) ≡ false → struct_size_of behind s ≡ struct_size_of before s
  pub held : (s : ℕ) → AllByRecursion (IsHeld before) (members_of before s)
