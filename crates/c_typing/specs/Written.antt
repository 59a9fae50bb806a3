-- Types as they may be written, and types of objects (C90 6.1.2.5, 6.5.4).
use Rattle.std.specs.Prelude.{◌≡◌, ◌≤◌, ◌<◌, true, false, List, length}
use Rattle.c_tree.specs.declared.types.CType.{CType}
use Rattle.c_tree.specs.declared.types.CType.TheVariants.{Char, Int, Unsigned, Void, Pointer', Array', Struct}
use Rattle.c_tree.specs.declared.types.StructDef.{StructDef}
use Rattle.c_tree.specs.Layout.{size_of, struct_size_of, IsWithin}
use Rattle.c_typing.specs.Plain.{plain, is_void, is_complete}

module _ (defs : List StructDef) where
  -- 1, 2, 9. Of a written type and each that it points to or holds: it has at most 1,048,576 bytes as far as it is complete, an array has at most 1,048,576 items of a complete type, and no pointer points to `void` (C90 6.5.4.1, 6.5.4.2).
  abbrev pub IsFormed : CType → Type 0
  IsFormed Char = Unit {0}
  IsFormed Int = Unit {0}
  IsFormed Unsigned = Unit {0}
  IsFormed Void = Unit {0}
  IsFormed (Pointer' _ t) = IsFormed t × (is_void (plain t) ≡ false)
  IsFormed (Array' b t n) = IsFormed t × (is_complete defs (plain t) ≡ true) × (n ≤ 1048576) × (size_of defs (Array' b t n) ≤ 1048576)
  IsFormed (Struct s) = (s < length defs) × (struct_size_of defs s ≤ 1048576)

  -- 1. and its depth is at most 64
  abbrev pub IsWritten : CType → Type 0
  IsWritten t = IsWithin defs 64 t × IsFormed t

  -- A declared object's type is complete, which `void` is not (C90 6.5, 6.7).
  abbrev pub IsDeclared : CType → Type 0
  IsDeclared t = IsWritten t × (is_complete defs (plain t) ≡ true)
