-- How much room an object of a type and a string take among the static data: the size, rounded up to 4, and 4 more.
use Rattle.std.specs.Prelude.{ℕ, suc, ◌+◌, List, length}
use Rattle.std.specs.Int.{next_multiple_of}
use Rattle.c_tree.specs.declared.types.StructDef.{StructDef}
use Rattle.c_typing.specs.Plain.{Plain}
use Rattle.c_typing.specs.Values.{size_of}

abbrev pub room_for : ℕ → ℕ
room_for size = next_multiple_of size 4 + 4

abbrev pub room_of : List StructDef → Plain → ℕ
room_of defs t = room_for (size_of defs t)

abbrev pub text_room : List ℕ → ℕ
text_room text = room_for (suc (length text))
