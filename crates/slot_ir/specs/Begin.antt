-- Where slot code begins, and what a session may change at a stop.
use Rattle.std.specs.Prelude.{ℕ, suc, zero, ◌+◌, List, [], ◌∷◌, ◌++◌, true, length}
use Rattle.ldb_words.specs.declared.kinds.Kind.{Kind}
use Rattle.ldb_words.specs.declared.kinds.Kind.TheVariants.{Byte, Word, Address}
use Rattle.runs.specs.Runs.{Actions}
use Rattle.c_operators.specs.Bits.{low_byte}
use Rattle.c_store.specs.Store.{Value, Number, Null, At, Object, Cell, World, Static, Text}
use Rattle.c_store.specs.Frames.{ActivationRecord, new_activation, with_world}
use Rattle.c_store.specs.Assigned.{History, all_assigned, at_stop}
use Rattle.slot_ir.specs.declared.code.SlotCode.{SlotCode}
use Rattle.slot_ir.specs.declared.code.SlotObject.{SlotObject}
use Rattle.slot_ir.specs.declared.code.SlotStart.{SlotStart}
use Rattle.slot_ir.specs.declared.code.SlotValue.{SlotValue}
use Rattle.slot_ir.specs.declared.code.SlotValue.TheVariants as start
use Rattle.slot_ir.specs.Slots.{SlotState, Frame, no_temps}

-- what a leaf holds at first; the strings are objects after the static ones
abbrev held : SlotCode → SlotValue → Value
held c (start.Number n) = Number n
held c start.Null = Null
held c (start.Object o i) = At o i
held c (start.Str k) = At (length c.objects + k) 0

abbrev kind_of_four : SlotValue → Kind
kind_of_four (start.Number n) = Word
kind_of_four _ = Address

abbrev pub start_kind : ℕ → SlotValue → Kind
start_kind (suc zero) v = Byte
start_kind w v = kind_of_four v

abbrev pub start_cells : SlotCode → List SlotStart → List Cell
start_cells c [] = []
start_cells c (s ∷ ss) = record { at = s.at; kind = start_kind s.width s.value; value = held c s.value } ∷ start_cells c ss

abbrev pub static_objects : SlotCode → ℕ → List SlotObject → List Object
static_objects c o [] = []
static_objects c o (row ∷ rows) = record { origin = Static o; live = true; size = row.size; cells = start_cells c row.start } ∷ static_objects c (suc o) rows

-- a string's characters and a NUL, from an offset on
abbrev pub characters : ℕ → List ℕ → List Cell
characters i [] = record { at = i; kind = Byte; value = Number 0 } ∷ []
characters i (c ∷ cs) = record { at = i; kind = Byte; value = Number (low_byte c) } ∷ characters (suc i) cs

abbrev pub string_objects : ℕ → List (List ℕ) → List Object
string_objects k [] = []
string_objects k (s ∷ ss) = record { origin = Text k; live = true; size = suc (length s); cells = characters 0 s } ∷ string_objects (suc k) ss

abbrev pub world_at_first : SlotCode → List ℕ → World
world_at_first c input = record { objects = static_objects c 0 c.objects ++ string_objects 0 c.strings; input = input; output = [] }

-- before the first step
abbrev pub begin : SlotCode → List ℕ → SlotState
begin c input = record { here = record { world = world_at_first c input; activation = new_activation 0 c.main }; temps = no_temps; pc = 0; result_at = 0; outer = [] }

-- the records of the activations, the innermost first
abbrev pub outer_records : List Frame → List ActivationRecord
outer_records [] = []
outer_records (f ∷ rest) = f.activation ∷ outer_records rest

abbrev pub records : SlotState → List ActivationRecord
records t = t.here.activation ∷ outer_records t.outer

-- what a history of assignments does at the stop of each number
abbrev pub acted : History → Actions SlotState
acted h i t = record t { here = with_world t.here (all_assigned (at_stop h i) t.here.world) }
