-- One state of slot code, machines of both targets that stand for it, and one that differs in a byte and does not.
use Rattle.std.specs.Prelude.{◌≡◌, ◌<◌, ◌↔◌, ℕ, pos, ◌+◌, List, [], ◌∷◌, ◌++◌, codes, true, length, drop, replicate, Some, None, Result, Ok, slice_get, slice_set}
use Rattle.std.proofs.Common.{refl, sym, ap, subst, ◌∙◌, arith, length-append}
use Rattle.std.proofs.lemmas.List.{drop-drop, drop_at}
use Rattle.ldb_words.specs.declared.kinds.Order.{Order}
use Rattle.ldb_words.specs.declared.kinds.Order.TheVariants.{Little, Big}
use Rattle.ldb_words.specs.declared.kinds.Kind.TheVariants.{Word}
use Rattle.ldb_words.specs.declared.event.Outside.{Outside}
use Rattle.machine_state.specs.Regions.{Regions, zeros, words_bytes}
use Rattle.machine_state.specs.State.{MachineState, no_facts}
use Rattle.machine_state.specs.declared.layout.TheConstants.{MIPS, SPARC, TEXT}
use Rattle.sparc_isa.specs.Windows.{place_of}
use Rattle.obj_file.specs.declared.object.Object.{Object}
use Rattle.obj_file.specs.declared.object.FunctionRow.{FunctionRow}
use Rattle.obj_file.specs.declared.object.LocalPlace.TheVariants.{Slot}
use Rattle.c_store.specs.Store.{Number, Static, Auto, Cell, Object as StoredObject}
use Rattle.slot_ir.specs.declared.code.SlotCode.{SlotCode}
use Rattle.slot_ir.specs.declared.code.SlotFunction.{SlotFunction}
use Rattle.slot_ir.specs.declared.code.Home.TheVariants.{Block}
use Rattle.slot_ir.specs.declared.code.Access.TheVariants as access
use Rattle.slot_ir.specs.declared.code.SlotOp.TheVariants.{Const, Zero, Leave, Stop, Return}
use Rattle.slot_ir.specs.Slots.{SlotState, no_temps}
use Rattle.machine_runs.specs.Watched.{watch}
use Rattle.flat_gen.specs.Layout.{layout}
use Rattle.flat_gen.specs.Stack.{pointer_of}
use Rattle.flat_gen.specs.Locations.{location_of}
use Rattle.object_meaning.specs.Changes.{Target, locations}
use Rattle.object_meaning.specs.Shown.{behaviour, LiesIn, LeafStands, IsAtPlace, Shows, Represents}
use Rattle.object_meaning.specs.Targets.{mips_target, sparc_target}
use Rattle.meaning_examples.proofs.Computing.{saving, watching, zeros_long, some_same, of_one, of_two}

-- ---- the state

-- int count = 7; int main(void) { int x; return 0; }
abbrev main : SlotFunction
main = record {
  name = codes "main";
  params = 0;
  locals = record { home = Block; access = access.Word; size = 4; leaves = record { at = 0; kind = Word } ∷ [] } ∷ [];
  temporaries = 1;
  points = 0 ∷ 1 ∷ [];
  places = 1 ∷ 4 ∷ [];
  code = Zero 0 ∷ Stop 0 ∷ Const 0 0 ∷ Leave 1 ∷ Stop 1 ∷ Return 0 ∷ [];
}

abbrev code : SlotCode
code = record { functions = main ∷ []; main = 0; objects = record { name = codes "count"; size = 4; start = [] } ∷ []; strings = []; structs = [] }

abbrev a_cell : ℕ → Cell
a_cell n = record { at = 0; kind = Word; value = Number n }

abbrev count : StoredObject
count = record { origin = Static 0; live = true; size = 4; cells = a_cell 7 ∷ [] }

abbrev x : StoredObject
x = record { origin = Auto 0 0 0; live = true; size = 4; cells = a_cell 300 ∷ [] }

-- behind the first stopping point, where `x` was assigned 300
abbrev state : SlotState
state = record {
  here = record {
    world = record { objects = count ∷ x ∷ []; input = 9 ∷ []; output = codes "a" };
    activation = record { number = 0; function = 0; locals = record { local = 0; object = 1 } ∷ []; point = Some 0 };
  };
  temps = no_temps;
  pc = 2;
  result_at = 0;
  outer = [];
}

-- ---- the object's rows

abbrev row : Target → FunctionRow
row t = record {
  name = codes "main";
  entry = 16;
  end = 56;
  frame = (layout t.linkage main).frame;
  saved = t.saved_by (layout t.linkage main).frame;
  points = 32 ∷ 44 ∷ [];
  locals = Slot (pos 0) ∷ [];
}

abbrev object : Target → Object
object t = record { target = t.number; text = []; names = []; statics = []; uses = []; functions = row t ∷ [] }

abbrev addresses : List ℕ
addresses = 0x1000_0000 ∷ []

-- ---- the stack: zeros up to the word at 0x7ffe_ff70, nine words behind it, and then `x`

abbrev stack : List ℕ → List ℕ
stack tail = zeros 0xf_ff70 ++ tail

abbrev memory : Order → (count x link : ℕ) → Regions
memory order count x link = record {
  text_bytes = [];
  data_bytes = words_bytes order (count ∷ []);
  stack_bytes = stack (words_bytes order (link ∷ 0 ∷ 0 ∷ 0 ∷ 0 ∷ 0 ∷ 0 ∷ 0 ∷ 0 ∷ 0 ∷ x ∷ []));
  context_bytes = [];
}

stack_long : (n : ℕ) (tail : List ℕ) → length (zeros n ++ tail) ≡ n + length tail
stack_long n tail = length-append (zeros n) tail ∙ ap (λ k. k + length tail) (zeros_long n)

at_link : (tail : List ℕ) → drop 0xf_ff70 (stack tail) ≡ tail
at_link tail = drop_at (zeros 0xf_ff70) tail 0xf_ff70 (zeros_long 0xf_ff70)

at_x : (tail : List ℕ) → drop 0xf_ff98 (stack tail) ≡ drop 40 tail
at_x tail = sym (drop-drop 40 0xf_ff70 (stack tail)) ∙ ap (drop 40) (at_link tail)

-- ---- the place: behind the no-op of the first point

abbrev pc : ℕ
pc = TEXT + 36

first_point : (a : ℕ) → Some 32 ≡ Some a → (TEXT + a < pc ↔ 1 < 2)
first_point a e = subst (λ a. TEXT + a < pc ↔ 1 < 2) (some_same 32 a e) (λ h. omega arith, λ h. omega arith)

second_point : (a : ℕ) → Some 44 ≡ Some a → (TEXT + a < pc ↔ 4 < 2)
second_point a e = subst (λ a. TEXT + a < pc ↔ 4 < 2) (some_same 44 a e) (λ h. absurd (omega (arith, h)), λ h. absurd (omega (arith, h)))

place : (t : Target) → IsAtPlace t code (object t) addresses 0 2 pc
place t = record {
  row = row t;
  fn = main;
  is_row = refl;
  is_fn = refl;
  inside = (omega arith, omega arith);
  points = λ j at a e. of_two (λ j at. (a : ℕ) → slice_get (32 ∷ 44 ∷ []) j ≡ Some a → (TEXT + a < pc ↔ at < 2)) 1 4 first_point second_point j at e a;
}

-- `main` was called from no row
from_no_row : (t : Target) (f : ℕ) (r : FunctionRow) → slice_get (row t ∷ []) f ≡ Some r → LiesIn r TEXT → ⊥
from_no_row t f r e = of_one (λ r. LiesIn r TEXT → ⊥) (row t) (λ h. absurd (omega (arith, h.0))) f r e

-- ---- MIPS

abbrev mips_machine : (count : ℕ) → MachineState
mips_machine count = record {
  target = MIPS;
  registers = slice_set (replicate 32 0) 29 0x7ffe_ff30;
  special = 0 ∷ 0 ∷ [];
  pc = pc;
  next_pc = TEXT + 40;
  facts = no_facts;
  memory = memory Little count 300 (TEXT + 8);
  left = 9 ∷ [];
  given = 9;
  put = None;
}

abbrev mips_saved : ℕ → MachineState
mips_saved count = ((behaviour mips_target).saved (mips_machine count)).1

abbrev MipsLeaves : ℕ → StoredObject → Type 0
MipsLeaves n ob = (i : ℕ) (cell : Cell) → slice_get ob.cells i ≡ Some cell
    → LeafStands mips_target code (object mips_target) addresses state (mips_saved 7) (locations mips_target addresses code state n) cell

mips_count : MipsLeaves 0 count
unfolding watching location_of pointer_of layout
mips_count = of_one (LeafStands mips_target code (object mips_target) addresses state (mips_saved 7) (locations mips_target addresses code state 0)) (a_cell 7) (7, refl, refl)

mips_x : MipsLeaves 1 x
unfolding watching location_of pointer_of layout
mips_x = of_one (LeafStands mips_target code (object mips_target) addresses state (mips_saved 7) (locations mips_target addresses code state 1)) (a_cell 300) (300, rw stack_long (rw at_x refl), refl)

mips_shows : Shows mips_target code (object mips_target) addresses state (mips_saved 7)
unfolding watching pointer_of layout
mips_shows = record {
  leaves = λ n i ob cell e. of_two MipsLeaves count x mips_count mips_x n ob e i cell;
  pointer = rw stack_long refl;
  innermost = (tt, (TEXT + 8, rw stack_long (rw at_link refl), from_no_row mips_target));
  outer = tt;
}

mips_represents : Represents mips_target code (object mips_target) addresses state (watch (mips_machine 7) (codes "a"))
mips_represents = record { output = refl; input = refl; shows = mips_shows; pc = place mips_target }

abbrev read_as : ℕ → Result ℕ Outside
read_as n = Ok n

other_number : (w : ℕ) → read_as 263 ≡ read_as w → w ≡ 7 → ⊥
other_number w e h = absurd cc

-- 263 has the low byte of 7: the second byte of `count` is another
mips_other_byte : Shows mips_target code (object mips_target) addresses state (mips_saved 263) → ⊥
unfolding watching location_of
mips_other_byte shows = let leaf = shows.leaves 0 0 count (a_cell 7) refl refl in other_number leaf.0 leaf.1 leaf.2

-- ---- SPARC: `main` runs in window 7, and its caller's window 0 has been flushed

abbrev sparc_machine : (count : ℕ) → MachineState
sparc_machine count = record {
  target = SPARC;
  registers = slice_set (slice_set (slice_set (replicate 136 0) (place_of 7 14) 0x7ffe_ff10) (place_of 7 30) 0x7ffe_ffa0) (place_of 7 31) TEXT;
  special = 0 ∷ 0 ∷ 7 ∷ 0 ∷ [];
  pc = pc;
  next_pc = TEXT + 40;
  facts = no_facts;
  memory = memory Big count 300 0;
  left = 9 ∷ [];
  given = 9;
  put = None;
}

abbrev sparc_saved : ℕ → MachineState
sparc_saved count = ((behaviour sparc_target).saved (sparc_machine count)).1

abbrev SparcLeaves : ℕ → StoredObject → Type 0
SparcLeaves n ob = (i : ℕ) (cell : Cell) → slice_get ob.cells i ≡ Some cell
    → LeafStands sparc_target code (object sparc_target) addresses state (sparc_saved 7) (locations sparc_target addresses code state n) cell

sparc_count : SparcLeaves 0 count
unfolding saving location_of pointer_of layout
sparc_count = of_one (LeafStands sparc_target code (object sparc_target) addresses state (sparc_saved 7) (locations sparc_target addresses code state 0)) (a_cell 7) (7, refl, refl)

sparc_x : SparcLeaves 1 x
unfolding saving location_of pointer_of layout
sparc_x = of_one (LeafStands sparc_target code (object sparc_target) addresses state (sparc_saved 7) (locations sparc_target addresses code state 1)) (a_cell 300) (300, rw stack_long (rw at_x refl), refl)

sparc_shows : Shows sparc_target code (object sparc_target) addresses state (sparc_saved 7)
unfolding saving pointer_of layout
sparc_shows = record {
  leaves = λ n i ob cell e. of_two SparcLeaves count x sparc_count sparc_x n ob e i cell;
  pointer = rw stack_long refl;
  innermost = (rw stack_long refl, (TEXT, rw stack_long refl, from_no_row sparc_target));
  outer = tt;
}

sparc_represents : Represents sparc_target code (object sparc_target) addresses state (watch (sparc_machine 7) (codes "a"))
sparc_represents = record { output = refl; input = refl; shows = sparc_shows; pc = place sparc_target }

sparc_other_byte : Shows sparc_target code (object sparc_target) addresses state (sparc_saved 263) → ⊥
unfolding saving location_of
sparc_other_byte shows = let leaf = shows.leaves 0 0 count (a_cell 7) refl refl in other_number leaf.0 leaf.1 leaf.2
