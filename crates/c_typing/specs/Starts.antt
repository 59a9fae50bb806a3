-- What static objects hold at first (C90 6.5.7), as far as the rows of a program show it.
use Rattle.std.specs.Prelude.{◌≡◌, ℕ, suc, ◌+◌, ◌≤◌, ◌<◌, ◌^◌, List, [], ◌∷◌, length, map, sum, Option, Some, None, slice_get}
use Rattle.std.specs.Int.{next_multiple_of}
use Rattle.ldb_words.specs.declared.kinds.Kind.{Kind}
use Rattle.ldb_words.specs.declared.kinds.Kind.TheVariants.{Byte, Word, Address}
use Rattle.c_tree.specs.declared.types.Leaf.{Leaf}
use Rattle.c_tree.specs.declared.rows.Program.{Program}
use Rattle.c_tree.specs.declared.rows.ObjectRow.{ObjectRow}
use Rattle.c_tree.specs.declared.rows.Start.{Start}
use Rattle.c_tree.specs.declared.rows.Start.TheVariants.{Number, Object, Str}
use Rattle.c_tree.specs.Layout.{size_of, leaves_of}
use Rattle.c_operators.specs.Bits.{low_byte}
use Rattle.c_typing.specs.Written.{IsDeclared}

module _ (p : Program) where
  abbrev IsWithinObject : ℕ → Option ObjectRow → Type 0
  IsWithinObject offset None = ⊥
  IsWithinObject offset (Some row) = offset ≤ size_of p.defs row.ctype

  -- 11, 12. A `char` holds a number with its sign extended, an integer 32 bits, and a pointer null, a place in an object or its end, or a string.
  abbrev pub Starts : Kind → Start → Type 0
  Starts Byte (Number n) = low_byte n ≡ n
  Starts Word (Number n) = n < 2 ^ 32
  Starts Address (Number n) = n ≡ 0
  Starts Address (Object o i) = IsWithinObject i (slice_get p.objects o)
  Starts Address (Str k) = k < length p.strings
  Starts _ _ = ⊥

  -- 13. There is one start for each leaf.
  abbrev pub AreStarts : List Leaf → List Start → Type 0
  AreStarts [] [] = Unit {0}
  AreStarts (l ∷ ls) (x ∷ xs) = Starts l.kind x × AreStarts ls xs
  AreStarts _ _ = ⊥

  abbrev pub IsObject : ObjectRow → Type 0
  IsObject row = IsDeclared p.defs row.ctype × AreStarts (leaves_of p.defs row.ctype) row.start × (row.unit < length p.units)

  -- ---- how large the static data are

  abbrev object_room : ObjectRow → ℕ
  object_room row = next_multiple_of (size_of p.defs row.ctype) 4 + 4

  abbrev string_room : List ℕ → ℕ
  string_room s = next_multiple_of (suc (length s)) 4 + 4

  -- sizes rounded up to 4, and 4 more for each object, strings among them
  abbrev pub static_room : ℕ
  static_room = sum (map object_room p.objects) + sum (map string_room p.strings)
