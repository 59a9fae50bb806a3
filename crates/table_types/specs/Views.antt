-- How the types of the code stand for those of the definitions.
use Rattle.std.specs.Prelude.{ℕ}
use Rattle.ps_store.specs.declared.object.StringId.{StringId}
use Rattle.ps_store.specs.declared.object.DictId.{DictId}
use Rattle.ps_store.specs.StoreState.{StoreState}
use Rattle.ps_store.specs.Store.{bytes_of}
use Rattle.table_model.specs.Types.{TypeKind, IntKind, UnsignedKind, CharKind, PointerKind, ArrayKind, StructKind, MemberRow}
use Rattle.table_types.specs.declared.kinds.TypeKind as code
use Rattle.table_types.specs.declared.kinds.TypeKind.TheVariants as code_kind

abbrev pub kind_of : code.TypeKind → TypeKind
kind_of code_kind.Int = IntKind
kind_of code_kind.Unsigned = UnsignedKind
kind_of code_kind.Char = CharKind
kind_of code_kind.Pointer = PointerKind
kind_of code_kind.Array = ArrayKind
kind_of code_kind.Struct = StructKind

abbrev pub row_of : StoreState → (name : StringId) → (at : ℕ) → (ctype : DictId) → MemberRow
row_of s name at t = record { name = bytes_of s name; at = at; ctype = t }
