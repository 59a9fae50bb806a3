-- Addresses, and two programs in flat code, by the definitions.
use Rattle.std.proofs.Common.{◌≡◌, ℕ, List, [], ◌∷◌, Option, None, Some, true, false, refl}
use Rattle.std.specs.Prelude.{ℤ, pos, codes, map}
use Rattle.ldb_words.specs.declared.kinds.Kind.TheVariants.{Byte, Word}
use Rattle.ldb_words.specs.declared.kinds.Order.TheVariants.{Little, Big}
use Rattle.c_store.specs.Store.{Object, Origin, Static, Auto}
use Rattle.runs.specs.Runs.{Outcome, Reached, Breaks, after}
use Rattle.slot_ir.specs.declared.code.SlotCode.{SlotCode}
use Rattle.slot_ir.specs.declared.code.SlotLocal.{SlotLocal}
use Rattle.slot_ir.specs.declared.code.Home.TheVariants.{Block, Register}
use Rattle.slot_ir.specs.declared.code.Access.TheVariants as access
use Rattle.slot_ir.specs.declared.code.WordOp.TheVariants as word
use Rattle.slot_ir.specs.declared.code.SlotOp.TheVariants.{Const, TextAddress, LocalAddress, Load, Store, ReadRegister, Binary, Index, Jump, JumpIfZero, Call, Return, Stop, Zero, Leave, Move, StaticAddress, Offset, GetChar, PutChar, Exit}
use Rattle.c_tree.specs.declared.types.Leaf.{Leaf}
use Rattle.flat_ir.specs.Memory.{Memory, overlaid, number_at, copied, opened, closed}
use Rattle.flat_ir.specs.Flat.{FlatState, Setting, step, begin, first_memory, on_word, scaled}
use Rattle.flat_ir.specs.declared.code.FlatCode.{FlatCode}
use Rattle.flat_gen.specs.Layout.{layout}
use Rattle.flat_gen.specs.Stack.{Activation, pointer_of}
use Rattle.flat_gen.specs.Locations.{InMemory, InRegister, location_of}
use Rattle.flat_gen.specs.Codes.{starts_of, function_code, flat_function}

abbrev output_of : Outcome FlatState → List ℕ
output_of (Reached m) = m.state.output
output_of (Breaks w) = []

abbrev passed_of : Outcome FlatState → List ℕ
passed_of (Reached m) = m.passed
passed_of (Breaks w) = []

abbrev exit_of : Outcome FlatState → Option ℤ
exit_of (Reached m) = m.exit
exit_of (Breaks w) = None

abbrev a_word : SlotLocal
a_word = record { home = Block; access = access.Word; size = 4; leaves = record { at = 0; kind = Word } ∷ [] }

abbrev in_register : SlotLocal
in_register = record { home = Register 0; access = access.Word; size = 4; leaves = record { at = 0; kind = Word } ∷ [] }

-- int main(void) { int x = 3; while (x) { putchar("0123"[x]); x = x - 1; } return 7; }
abbrev counting : SlotCode
counting = record {
  functions = record {
    name = codes "main";
    params = 0;
    locals = a_word ∷ [];
    temporaries = 3;
    points = 0 ∷ 1 ∷ 2 ∷ 3 ∷ 4 ∷ 5 ∷ [];
    places = 0 ∷ 2 ∷ 6 ∷ 10 ∷ 17 ∷ 26 ∷ [];
    code =
        Stop 0 ∷ Zero 0
        ∷ Stop 1 ∷ LocalAddress 0 0 ∷ Const 1 3 ∷ Store 0 1 Word
        ∷ Stop 2 ∷ LocalAddress 0 0 ∷ Load 0 0 Word access.Word ∷ JumpIfZero 0 23
        ∷ Stop 3 ∷ TextAddress 0 0 ∷ LocalAddress 1 0 ∷ Load 1 1 Word access.Word ∷ Index 0 0 1 1 false false ∷ Load 0 0 Byte access.SignedByte ∷ PutChar 0
        ∷ Stop 4 ∷ LocalAddress 0 0 ∷ Load 1 0 Word access.Word ∷ Const 2 1 ∷ Binary 1 1 2 word.Subtract ∷ Jump 28
        ∷ Const 0 7 ∷ Jump 25
        ∷ Leave 1 ∷ Stop 5 ∷ Return 0
        ∷ Store 0 1 Word ∷ Jump 6 ∷ [];
  } ∷ [];
  main = 0;
  objects = [];
  strings = codes "0123" ∷ [];
  structs = [];
}

-- int twice(register int x) { putchar(x); return x + x; }  int main(void) { exit(twice(getchar())); }
abbrev calling : SlotCode
calling = record {
  functions =
      record {
        name = codes "twice";
        params = 1;
        locals = in_register ∷ [];
        temporaries = 2;
        points = 0 ∷ 1 ∷ 2 ∷ [];
        places = 0 ∷ 3 ∷ 8 ∷ [];
        code = Stop 0 ∷ ReadRegister 0 0 Word access.Word ∷ PutChar 0 ∷ Stop 1 ∷ ReadRegister 0 0 Word access.Word ∷ ReadRegister 1 0 Word access.Word ∷ Binary 0 0 1 word.Add ∷ Leave 1 ∷ Stop 2 ∷ Return 0 ∷ [];
      }
      ∷ record {
        name = codes "main";
        params = 0;
        locals = a_word ∷ a_word ∷ [];
        temporaries = 1;
        points = 3 ∷ 4 ∷ [];
        places = 0 ∷ 1 ∷ [];
        code = Stop 3 ∷ Stop 4 ∷ GetChar 0 ∷ Call 0 0 1 ∷ Exit 0 ∷ [];
      } ∷ [];
  main = 1;
  objects = [];
  strings = [];
  structs = [];
}

abbrev mips : Setting
mips = record { order = Little; linkage = 100; addresses = 0x1000_0000 ∷ 0x1000_0010 ∷ []; structs = [] }

abbrev sparc : Setting
sparc = record { order = Big; linkage = 132; addresses = 0x1000_0000 ∷ 0x1000_0010 ∷ []; structs = [] }

abbrev flat_code : ℕ → SlotCode → FlatCode
flat_code linkage c = record { functions = map (flat_function linkage c) c.functions; main = c.main; movers = [] }

abbrev run : Setting → SlotCode → List ℕ → List ℕ → Outcome FlatState
run setting c statics input = after FlatState (step (flat_code setting.linkage c) setting) (λ i s. s) 200 0 (begin (flat_code setting.linkage c) setting statics input)

-- ---- addresses

abbrev activation : ℕ → ℕ → Activation
activation n f = record { number = n; function = f }

abbrev an_object : Origin → Object
an_object origin = record { origin = origin; live = true; size = 4; cells = [] }

-- the second static object
static_location : location_of 100 mips.addresses calling [] (an_object (Static 1)) ≡ Some (InMemory 0x1000_0010)
unfolding location_of
static_location = refl

-- `main` has 100 bytes, two locals of 8 and a temporary of 4, and 4 bytes more: 120. Its second local stands at 112.
local_location_0 : location_of 100 mips.addresses calling (activation 1 0 ∷ activation 0 1 ∷ []) (an_object (Auto 1 1 0)) ≡ Some (InMemory 0x7ffe_ff98)
unfolding location_of pointer_of layout
local_location_0 = refl

-- of two activations of `main` the inner one's first local
local_location_1 : location_of 100 mips.addresses calling (activation 2 0 ∷ activation 1 1 ∷ activation 0 1 ∷ []) (an_object (Auto 1 0 1)) ≡ Some (InMemory 0x7ffe_ff18)
unfolding location_of pointer_of layout
local_location_1 = refl

register_location : location_of 100 mips.addresses calling (activation 1 0 ∷ activation 0 1 ∷ []) (an_object (Auto 0 0 1)) ≡ Some (InRegister 1 0)
unfolding location_of
register_location = refl

-- ---- runs

counting_prints : output_of (run mips counting (codes "0123") []) ≡ codes "321"
unfolding overlaid number_at opened closed step begin first_memory on_word scaled layout starts_of function_code flat_function
counting_prints = refl

counting_stops : passed_of (run mips counting (codes "0123") []) ≡ 0 ∷ 1 ∷ 2 ∷ 3 ∷ 4 ∷ 2 ∷ 3 ∷ 4 ∷ 2 ∷ 3 ∷ 4 ∷ 2 ∷ 5 ∷ []
unfolding overlaid number_at opened closed step begin first_memory on_word scaled layout starts_of function_code flat_function
counting_stops = refl

counting_exits : exit_of (run sparc counting (codes "0123") []) ≡ Some (pos 7)
unfolding overlaid number_at opened closed step begin first_memory on_word scaled layout starts_of function_code flat_function
counting_exits = refl

calling_stops : passed_of (run mips calling [] (33 ∷ [])) ≡ 3 ∷ 4 ∷ 0 ∷ 1 ∷ 2 ∷ []
unfolding overlaid number_at opened closed step begin first_memory on_word scaled layout starts_of function_code flat_function
calling_stops = refl

calling_exits : exit_of (run sparc calling [] (33 ∷ [])) ≡ Some (pos 66)
unfolding overlaid number_at opened closed step begin first_memory on_word scaled layout starts_of function_code flat_function
calling_exits = refl

-- ---- copies: struct { char c; int x; } has padding between its leaves

abbrev padded : List Leaf
padded = record { at = 0; kind = Byte } ∷ record { at = 4; kind = Word } ∷ []

leaf_copied : (m : Memory) → copied padded m 32 64 37 ≡ m 69
unfolding copied
leaf_copied m = refl

padding_stays : (m : Memory) → copied padded m 32 64 33 ≡ m 33
unfolding copied
padding_stays m = refl

-- places that overlap: each byte is the one that stood there before
overlap_copied : (m : Memory) → copied padded m 32 28 36 ≡ m 32
unfolding copied
overlap_copied m = refl

-- ---- a copy and seven arguments in whole programs

-- struct { char c; int x; } s[2]; int main(void) { s[1] = s[0]; return s[1].x; }
abbrev copying : SlotCode
copying = record {
  functions = record {
    name = codes "main";
    params = 0;
    locals = [];
    temporaries = 2;
    points = 0 ∷ [];
    places = 0 ∷ [];
    code =
        Stop 0 ∷ StaticAddress 0 0 ∷ Offset 0 8 ∷ StaticAddress 1 0 ∷ Move 0 1 0
        ∷ StaticAddress 0 0 ∷ Offset 0 12 ∷ Load 0 0 Word access.Word ∷ Exit 0 ∷ [];
  } ∷ [];
  main = 0;
  objects = [];
  strings = [];
  structs = [];
}

abbrev with_struct : Setting → Setting
with_struct setting = record setting { structs = padded ∷ [] }

copying_exits : exit_of (run (with_struct mips) copying (1 ∷ 0 ∷ 0 ∷ 0 ∷ 42 ∷ 0 ∷ 0 ∷ 0 ∷ 2 ∷ 9 ∷ 9 ∷ 9 ∷ 3 ∷ 0 ∷ 0 ∷ 0 ∷ []) []) ≡ Some (pos 42)
unfolding overlaid number_at copied opened closed step begin first_memory on_word scaled layout starts_of function_code flat_function
copying_exits = refl

-- seven arguments, of which the last four are passed in the frame on one target and the last on the other
abbrev seven_words : List SlotLocal
seven_words = a_word ∷ a_word ∷ a_word ∷ a_word ∷ a_word ∷ a_word ∷ a_word ∷ []

-- int last(int a, int b, int c, int d, int e, int f, int g) { return g; }  int main(void) { exit(last(1, 2, 3, 4, 5, 6, 7)); }
abbrev passing : SlotCode
passing = record {
  functions =
      record {
        name = codes "last";
        params = 7;
        locals = seven_words;
        temporaries = 1;
        points = 0 ∷ 1 ∷ [];
        places = 0 ∷ 4 ∷ [];
        code = Stop 0 ∷ LocalAddress 0 6 ∷ Load 0 0 Word access.Word ∷ Leave 7 ∷ Stop 1 ∷ Return 0 ∷ [];
      }
      ∷ record {
        name = codes "main";
        params = 0;
        locals = [];
        temporaries = 7;
        points = 2 ∷ [];
        places = 0 ∷ [];
        code = Stop 2 ∷ Const 0 1 ∷ Const 1 2 ∷ Const 2 3 ∷ Const 3 4 ∷ Const 4 5 ∷ Const 5 6 ∷ Const 6 7 ∷ Call 0 0 7 ∷ Exit 0 ∷ [];
      } ∷ [];
  main = 1;
  objects = [];
  strings = [];
  structs = [];
}

passing_exits : exit_of (run mips passing [] []) ≡ Some (pos 7)
unfolding overlaid number_at opened closed step begin first_memory on_word scaled layout starts_of function_code flat_function
passing_exits = refl
