-- How structs are copied, by hand for: struct { char c; int n; }, and struct { char t[3]; struct { char c; int n; } x[2]; }.
use Rattle.std.proofs.Common.{◌≡◌, [], ◌∷◌, refl}
use Rattle.ldb_words.specs.declared.kinds.Kind.TheVariants.{Byte, Word}
use Rattle.slot_ir.specs.declared.code.SlotCode.{SlotCode}
use Rattle.slot_ir.specs.declared.code.SlotItem.TheVariants as item
use Rattle.flat_ir.specs.declared.moves.MoveStep.TheVariants.{Leaf, Skip, Items, Again, Struct}
use Rattle.flat_gen.specs.Movers.{mover, movers}

abbrev two_structs : SlotCode
two_structs = record {
  functions = [];
  main = 0;
  objects = [];
  strings = [];
  structs =
      record {
        size = 8;
        members = record { at = 0; items = 1; item = item.Scalar Byte } ∷ record { at = 4; items = 1; item = item.Scalar Word } ∷ [];
        leaves = record { at = 0; kind = Byte } ∷ record { at = 4; kind = Word } ∷ [];
      }
      ∷ record {
        size = 20;
        members = record { at = 0; items = 3; item = item.Scalar Byte } ∷ record { at = 4; items = 2; item = item.Struct 0 } ∷ [];
        leaves = [];
      }
      ∷ [];
}

-- the three bytes behind `c`, and the one behind `t`, are gone past
their_copies : movers two_structs
    ≡ record { size = 8; ascending = Leaf Byte ∷ Skip 3 ∷ Leaf Word ∷ []; descending = Leaf Word ∷ Skip 4294967293 ∷ Leaf Byte ∷ [] }
    ∷ record {
      size = 20;
      ascending = Items 3 ∷ Leaf Byte ∷ Again ∷ Skip 1 ∷ Items 2 ∷ Struct 0 2 ∷ Again ∷ [];
      descending = Items 2 ∷ Struct 0 2 ∷ Again ∷ Skip 4294967295 ∷ Items 3 ∷ Leaf Byte ∷ Again ∷ [];
    }
    ∷ []
unfolding mover
their_copies = refl
