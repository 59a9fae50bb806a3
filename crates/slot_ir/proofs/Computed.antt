-- Two programs in slot code, run by the definitions.
use Rattle.std.proofs.Common.{◌≡◌, ℕ, List, [], ◌∷◌, Option, None, Some, false, refl}
use Rattle.std.specs.Prelude.{ℤ, pos, codes}
use Rattle.ldb_words.specs.declared.kinds.Kind.TheVariants.{Byte, Word}
use Rattle.c_store.specs.Store.{load, store, is_stale, moved}
use Rattle.c_store.specs.Frames.{made, left}
use Rattle.runs.specs.Runs.{Outcome, Reached, Breaks, after}
use Rattle.slot_ir.specs.declared.code.SlotCode.{SlotCode}
use Rattle.slot_ir.specs.declared.code.SlotLocal.{SlotLocal}
use Rattle.slot_ir.specs.declared.code.Home.TheVariants.{Block, Register}
use Rattle.slot_ir.specs.declared.code.Access.TheVariants as access
use Rattle.slot_ir.specs.declared.code.WordOp.TheVariants as word
use Rattle.slot_ir.specs.declared.code.SlotOp.TheVariants.{Const, TextAddress, LocalAddress, Load, Store, ReadRegister, Binary, Index, Jump, JumpIfZero, Call, Return, Stop, Zero, Leave, GetChar, PutChar, Exit}
use Rattle.slot_ir.specs.Operators.{binary, indexed}
use Rattle.slot_ir.specs.Slots.{SlotState, step}
use Rattle.slot_ir.specs.Begin.{begin, acted}

abbrev output_of : Outcome SlotState → List ℕ
output_of (Reached m) = m.state.here.world.output
output_of (Breaks w) = []

abbrev passed_of : Outcome SlotState → List ℕ
passed_of (Reached m) = m.passed
passed_of (Breaks w) = []

abbrev exit_of : Outcome SlotState → Option ℤ
exit_of (Reached m) = m.exit
exit_of (Breaks w) = None

abbrev a_word : SlotLocal
a_word = record { home = Block; access = access.Word; size = 4; leaves = record { at = 0; kind = Word } ∷ [] }

abbrev in_register : SlotLocal
in_register = record { home = Register 0; access = access.Word; size = 4; leaves = record { at = 0; kind = Word } ∷ [] }

-- int main(void) { int x = 3; while (x) { putchar("0123"[x]); x = x - 1; } return 7; }
abbrev counting : SlotCode
counting = record {
  functions = record {
    name = codes "main";
    params = 0;
    locals = a_word ∷ [];
    temporaries = 3;
    points = 0 ∷ 1 ∷ 2 ∷ 3 ∷ 4 ∷ 5 ∷ [];
    places = 0 ∷ 2 ∷ 6 ∷ 10 ∷ 17 ∷ 26 ∷ [];
    code =
        Stop 0 ∷ Zero 0
        ∷ Stop 1 ∷ LocalAddress 0 0 ∷ Const 1 3 ∷ Store 0 1 Word
        ∷ Stop 2 ∷ LocalAddress 0 0 ∷ Load 0 0 Word access.Word ∷ JumpIfZero 0 23
        ∷ Stop 3 ∷ TextAddress 0 0 ∷ LocalAddress 1 0 ∷ Load 1 1 Word access.Word ∷ Index 0 0 1 1 false false ∷ Load 0 0 Byte access.SignedByte ∷ PutChar 0
        ∷ Stop 4 ∷ LocalAddress 0 0 ∷ Load 1 0 Word access.Word ∷ Const 2 1 ∷ Binary 1 1 2 word.Subtract ∷ Jump 28
        ∷ Const 0 7 ∷ Jump 25
        ∷ Leave 1 ∷ Stop 5 ∷ Return 0
        ∷ Store 0 1 Word ∷ Jump 6 ∷ [];
  } ∷ [];
  main = 0;
  objects = [];
  strings = codes "0123" ∷ [];
  structs = [];
}

counting_prints : output_of (after SlotState (step counting) (acted []) 100 0 (begin counting [])) ≡ codes "321"
unfolding load store is_stale moved made left binary indexed
counting_prints = refl

counting_stops : passed_of (after SlotState (step counting) (acted []) 100 0 (begin counting [])) ≡ 0 ∷ 1 ∷ 2 ∷ 3 ∷ 4 ∷ 2 ∷ 3 ∷ 4 ∷ 2 ∷ 3 ∷ 4 ∷ 2 ∷ 5 ∷ []
unfolding load store is_stale moved made left binary indexed
counting_stops = refl

counting_exits : exit_of (after SlotState (step counting) (acted []) 100 0 (begin counting [])) ≡ Some (pos 7)
unfolding load store is_stale moved made left binary indexed
counting_exits = refl

-- int twice(register int x) { putchar(x); return x + x; }  int main(void) { exit(twice(getchar())); }
abbrev calling : SlotCode
calling = record {
  functions =
      record {
        name = codes "twice";
        params = 1;
        locals = in_register ∷ [];
        temporaries = 2;
        points = 0 ∷ 1 ∷ 2 ∷ [];
        places = 0 ∷ 3 ∷ 8 ∷ [];
        code = Stop 0 ∷ ReadRegister 0 0 Word access.Word ∷ PutChar 0 ∷ Stop 1 ∷ ReadRegister 0 0 Word access.Word ∷ ReadRegister 1 0 Word access.Word ∷ Binary 0 0 1 word.Add ∷ Leave 1 ∷ Stop 2 ∷ Return 0 ∷ [];
      }
      ∷ record {
        name = codes "main";
        params = 0;
        locals = [];
        temporaries = 1;
        points = 3 ∷ 4 ∷ [];
        places = 0 ∷ 1 ∷ [];
        code = Stop 3 ∷ Stop 4 ∷ GetChar 0 ∷ Call 0 0 1 ∷ Exit 0 ∷ [];
      } ∷ [];
  main = 1;
  objects = [];
  strings = [];
  structs = [];
}

calling_prints : output_of (after SlotState (step calling) (acted []) 30 0 (begin calling (33 ∷ []))) ≡ 33 ∷ []
unfolding load store is_stale made left binary
calling_prints = refl

calling_stops : passed_of (after SlotState (step calling) (acted []) 30 0 (begin calling (33 ∷ []))) ≡ 3 ∷ 4 ∷ 0 ∷ 1 ∷ 2 ∷ []
unfolding load store is_stale made left binary
calling_stops = refl

calling_exits : exit_of (after SlotState (step calling) (acted []) 30 0 (begin calling (33 ∷ []))) ≡ Some (pos 66)
unfolding load store is_stale made left binary
calling_exits = refl
