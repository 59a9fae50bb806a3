-- Words of placed objects as an assembler has them (llvm-mc, for mipsel and sparc).
use Rattle.std.proofs.Common.{◌≡◌, ℕ, List, [], ◌∷◌, true, false, refl}
use Rattle.std.specs.Prelude.{codes, drop}
use Rattle.ldb_words.specs.declared.kinds.Order.TheVariants.{Little, Big}
use Rattle.machine_state.specs.Regions.{words_bytes}
use Rattle.machine_state.specs.declared.layout.TheConstants.{MIPS, SPARC, TEXT}
use Rattle.obj_file.specs.declared.object.Form.TheVariants.{High, Low, Jump, Word}
use Rattle.obj_file.specs.declared.object.Object.{Object}
use Rattle.obj_placed.specs.Fields.{patched_word}
use Rattle.obj_placed.specs.Patched.{patched_at}
use Rattle.obj_placed.specs.Placed.{address_of, names_of, placed_text, placed_texts, placed_bytes, placed_statics}

-- lui $8, hi(s1 + 3); ori $8, $8, lo(s1 + 3); jal f0; j f0 + 8; and data of two objects, the second a pointer into the first
abbrev on_mips : Object
on_mips = record {
  target = MIPS;
  text = words_bytes Little (0x3c08_0000 ∷ 0x3508_0000 ∷ 0x0c00_0000 ∷ 0x0800_0000 ∷ []);
  names = record { name = codes "f0"; at = 8 } ∷ [];
  statics = record { name = codes "s0"; bytes = 1 ∷ 2 ∷ 3 ∷ [] } ∷ record { name = codes "s1"; bytes = 0 ∷ 0 ∷ 0 ∷ 0 ∷ [] } ∷ [];
  uses =
      record { in_text = true; at = 0; form = High; name = codes "s1"; add = 3 }
      ∷ record { in_text = true; at = 4; form = Low; name = codes "s1"; add = 3 }
      ∷ record { in_text = true; at = 8; form = Jump; name = codes "f0"; add = 0 }
      ∷ record { in_text = true; at = 12; form = Jump; name = codes "f0"; add = 8 }
      ∷ record { in_text = false; at = 3; form = Word; name = codes "s0"; add = 2 }
      ∷ [];
  functions = [];
}

abbrev mips_addresses : List ℕ
mips_addresses = 0x1000_0000 ∷ 0x1000_1234 ∷ []

mips_text : placed_text (address_of (names_of (on_mips ∷ []) mips_addresses)) TEXT on_mips
    ≡ words_bytes Little (0x3c08_1000 ∷ 0x3508_1237 ∷ 0x0c10_0002 ∷ 0x0810_0004 ∷ [])
unfolding placed_text names_of patched_at patched_word
mips_text = refl

-- the same object behind a text of four words: f0 and what it jumps to stand 16 bytes later
moved_text : drop 16 (placed_texts (address_of (names_of (record on_mips { names = [] } ∷ on_mips ∷ []) (0x1000_0000 ∷ 0x1000_0008 ∷ 0x1000_0010 ∷ 0x1000_1234 ∷ []))) TEXT (record on_mips { names = [] } ∷ on_mips ∷ []))
    ≡ words_bytes Little (0x3c08_1000 ∷ 0x3508_000b ∷ 0x0c10_0006 ∷ 0x0810_0008 ∷ [])
unfolding placed_text names_of patched_at patched_word
moved_text = refl

mips_statics : placed_statics (address_of (names_of (on_mips ∷ []) mips_addresses)) (on_mips ∷ []) ≡ (1 ∷ 2 ∷ 3 ∷ []) ∷ (0x02 ∷ 0x00 ∷ 0x00 ∷ 0x10 ∷ []) ∷ []
unfolding placed_bytes names_of patched_at patched_word
mips_statics = refl

-- sethi %hi(s0 + 3), %g1; or %g1, %lo(s0 + 3), %g1; call .+16; call .-4
abbrev on_sparc : Object
on_sparc = record {
  target = SPARC;
  text = words_bytes Big (0x0300_0000 ∷ 0x8210_6000 ∷ 0x4000_0000 ∷ 0x4000_0000 ∷ []);
  names = record { name = codes "f0"; at = 24 } ∷ record { name = codes "f1"; at = 8 } ∷ [];
  statics = record { name = codes "s0"; bytes = 0 ∷ 0 ∷ 0 ∷ 0 ∷ [] } ∷ [];
  uses =
      record { in_text = true; at = 0; form = High; name = codes "s0"; add = 3 }
      ∷ record { in_text = true; at = 4; form = Low; name = codes "s0"; add = 3 }
      ∷ record { in_text = true; at = 8; form = Jump; name = codes "f0"; add = 0 }
      ∷ record { in_text = true; at = 12; form = Jump; name = codes "f1"; add = 0 }
      ∷ record { in_text = false; at = 0; form = Word; name = codes "s0"; add = 1 }
      ∷ [];
  functions = [];
}

sparc_text : placed_text (address_of (names_of (on_sparc ∷ []) (0x1000_1234 ∷ []))) TEXT on_sparc
    ≡ words_bytes Big (0x0304_0004 ∷ 0x8210_6237 ∷ 0x4000_0004 ∷ 0x7fff_ffff ∷ [])
unfolding placed_text names_of patched_at patched_word
sparc_text = refl

sparc_statics : placed_statics (address_of (names_of (on_sparc ∷ []) (0x1000_1234 ∷ []))) (on_sparc ∷ []) ≡ (0x10 ∷ 0x00 ∷ 0x12 ∷ 0x35 ∷ []) ∷ []
unfolding placed_bytes names_of patched_at patched_word
sparc_statics = refl
