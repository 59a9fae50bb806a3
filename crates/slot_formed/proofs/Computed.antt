-- Slot code that is not well formed.
use Rattle.std.proofs.Common.{◌≡◌, [], ◌∷◌, ℕ, arith}
use Rattle.std.specs.Prelude.{codes}
use Rattle.ldb_words.specs.declared.kinds.Kind.TheVariants.{Word}
use Rattle.slot_ir.specs.declared.code.SlotCode.{SlotCode}
use Rattle.slot_ir.specs.declared.code.SlotLocal.{SlotLocal}
use Rattle.slot_ir.specs.declared.code.Home.TheVariants.{Register}
use Rattle.slot_ir.specs.declared.code.Access.TheVariants as access
use Rattle.slot_ir.specs.declared.code.WordOp.TheVariants as word
use Rattle.slot_ir.specs.declared.code.SlotOp.TheVariants.{ReadRegister, Binary, Jump, Call, Return, Stop, Leave, GetChar, PutChar, Exit}
use Rattle.slot_ir.specs.WellFormed.{IsWellFormed}

abbrev in_register : SlotLocal
in_register = record { home = Register 0; access = access.Word; size = 4; leaves = record { at = 0; kind = Word } ∷ [] }

-- int twice(register int x) { putchar(x); return x + x; }  int main(void) { exit(twice(getchar())); }, whose caller hands over so many arguments
abbrev calling : ℕ → SlotCode
calling arguments = record {
  functions =
      record {
        name = codes "twice";
        params = 1;
        locals = in_register ∷ [];
        temporaries = 2;
        points = 0 ∷ 1 ∷ 2 ∷ [];
        places = 0 ∷ 3 ∷ 8 ∷ [];
        code = Stop 0 ∷ ReadRegister 0 0 Word access.Word ∷ PutChar 0 ∷ Stop 1 ∷ ReadRegister 0 0 Word access.Word ∷ ReadRegister 1 0 Word access.Word ∷ Binary 0 0 1 word.Add ∷ Leave 1 ∷ Stop 2 ∷ Return 0 ∷ [];
      }
      ∷ record {
        name = codes "main";
        params = 0;
        locals = [];
        temporaries = 1;
        points = 3 ∷ 4 ∷ [];
        places = 0 ∷ 1 ∷ [];
        code = Stop 3 ∷ Stop 4 ∷ GetChar 0 ∷ Call 0 0 arguments ∷ Exit 0 ∷ Jump 4 ∷ [];
      } ∷ [];
  main = 1;
  objects = [];
  strings = [];
  structs = [];
}

-- a call without its argument is not
calling_none : IsWellFormed (calling 0) → ⊥
calling_none h = let e : 0 ≡ 1 = h.1.1.0.6.1.1.1.0.2.0 in omega (arith, e)
