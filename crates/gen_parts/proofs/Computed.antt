-- What static objects are at first, by hand for: char c = 'a'; int x = 258; int *p = &x + 1; char *s = "q";
use Rattle.std.proofs.Common.{◌≡◌, [], ◌∷◌, false, refl}
use Rattle.std.specs.Prelude.{codes}
use Rattle.ldb_words.specs.declared.kinds.Order.TheVariants.{Little}
use Rattle.machine_state.specs.Regions.{zeros}
use Rattle.obj_file.specs.declared.object.Form.TheVariants.{Word}
use Rattle.slot_ir.specs.declared.code.SlotCode.{SlotCode}
use Rattle.slot_ir.specs.declared.code.SlotValue.TheVariants as value
use Rattle.gen_parts.specs.Names.{object_name}
use Rattle.gen_parts.specs.Statics.{object_bytes, program_statics, data_uses}

abbrev four_objects : SlotCode
four_objects = record {
  functions = [];
  main = 0;
  objects =
      record { name = codes "c"; size = 1; start = record { at = 0; width = 1; value = value.Number 97 } ∷ [] }
      ∷ record { name = codes "x"; size = 4; start = record { at = 0; width = 4; value = value.Number 258 } ∷ [] }
      ∷ record { name = codes "p"; size = 4; start = record { at = 0; width = 4; value = value.Object 1 4 } ∷ [] }
      ∷ record { name = codes "s"; size = 4; start = record { at = 0; width = 4; value = value.Str 0 } ∷ [] }
      ∷ [];
  strings = codes "q" ∷ [];
  structs = [];
}

on_mips : program_statics Little four_objects
    ≡ record { name = object_name 0; bytes = 0x61 ∷ [] }
    ∷ record { name = object_name 1; bytes = 2 ∷ 1 ∷ 0 ∷ 0 ∷ [] }
    ∷ record { name = object_name 2; bytes = 0 ∷ 0 ∷ 0 ∷ 0 ∷ [] }
    ∷ record { name = object_name 3; bytes = 0 ∷ 0 ∷ 0 ∷ 0 ∷ [] }
    ∷ record { name = object_name 4; bytes = 0x71 ∷ 0 ∷ [] }
    ∷ []
unfolding program_statics object_bytes zeros
on_mips = refl

their_uses : data_uses Little four_objects
    ≡ record { in_text = false; at = 5; form = Word; name = object_name 1; add = 4 }
    ∷ record { in_text = false; at = 9; form = Word; name = object_name 4; add = 0 }
    ∷ []
unfolding data_uses object_bytes zeros
their_uses = refl
