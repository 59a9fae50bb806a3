-- The size of a type is that of its plain type.
use Rattle.std.proofs.Common.{◌≡◌, ◌*◌, List, refl, ap}
use Rattle.c_tree.specs.declared.types.CType.{CType}
use Rattle.c_tree.specs.declared.types.CType.TheVariants as ctype
use Rattle.c_tree.specs.declared.types.StructDef.{StructDef}
use Rattle.c_tree.specs.Layout as layout
use Rattle.c_typing.specs.Plain.{plain}
use Rattle.c_typing.specs.Values.{size_of}

pub size_of_plain : (defs : List StructDef) (t : CType) → layout.size_of defs t ≡ size_of defs (plain t)
size_of_plain defs ctype.Char = refl
size_of_plain defs ctype.Int = refl
size_of_plain defs ctype.Unsigned = refl
size_of_plain defs ctype.Void = refl
size_of_plain defs (ctype.Pointer' _ t) = refl
size_of_plain defs (ctype.Array' _ t n) = ap (λ k. n * k) (size_of_plain defs t)
size_of_plain defs (ctype.Struct s) = refl
