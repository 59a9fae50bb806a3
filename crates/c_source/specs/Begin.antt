-- Where a program begins, and what a session may change at a stop.
use Rattle.std.specs.Prelude.{ℕ, suc, ◌+◌, List, [], ◌∷◌, ◌++◌, Bool, true, not, ◌&&◌, Option, Some, None, slice_get, length, bytes_eq, codes, if◌then◌else◌}
use Rattle.c_tree.specs.declared.rows.Program.{Program}
use Rattle.c_tree.specs.declared.rows.Function.{Function}
use Rattle.c_tree.specs.declared.rows.ObjectRow.{ObjectRow}
use Rattle.c_tree.specs.declared.rows.Start.{Start}
use Rattle.c_tree.specs.declared.rows.Start.TheVariants as start
use Rattle.c_tree.specs.Layout.{size_of}
use Rattle.ldb_words.specs.declared.kinds.Kind.TheVariants.{Byte, Address}
use Rattle.ldb_words.specs.declared.kinds.Kind.{Kind}
use Rattle.c_operators.specs.Bits.{low_byte}
use Rattle.c_store.specs.Store.{Value, Number, Null, At, Object, Cell, World, Static, Text}
use Rattle.runs.specs.Runs.{Actions}
use Rattle.c_store.specs.Frames.{ActivationRecord, new_activation, with_world}
use Rattle.c_store.specs.Assigned.{History, all_assigned, at_stop}
use Rattle.c_source.specs.Blocks.{cells_of}
use Rattle.c_source.specs.Control.{State, Activation, Item, body_of}

-- What a leaf of a kind holds at first. The strings are objects after the static ones, and an address that is a number is null.
abbrev pub starting : Program → Kind → Start → Value
starting p Address (start.Number n) = Null
starting p k (start.Number n) = Number n
starting p k (start.Object o i) = At o i
starting p k (start.Str s) = At (length p.objects + s) 0

abbrev pub starts_of : Program → List Cell → List Start → List Cell
starts_of p [] xs = []
starts_of p (c ∷ cs) [] = []
starts_of p (c ∷ cs) (x ∷ xs) = record c { value = starting p c.kind x } ∷ starts_of p cs xs

abbrev static_object : Program → ℕ → ObjectRow → Object
static_object p o row = record { origin = Static o; live = true; size = size_of p.defs row.ctype; cells = starts_of p (cells_of p.defs row.ctype) row.start }

abbrev pub static_objects : Program → ℕ → List ObjectRow → List Object
static_objects p o [] = []
static_objects p o (row ∷ rows) = static_object p o row ∷ static_objects p (suc o) rows

-- a string's characters and a NUL, from an offset on
abbrev pub characters : ℕ → List ℕ → List Cell
characters i [] = record { at = i; kind = Byte; value = Number 0 } ∷ []
characters i (c ∷ cs) = record { at = i; kind = Byte; value = Number (low_byte c) } ∷ characters (suc i) cs

abbrev pub string_objects : ℕ → List (List ℕ) → List Object
string_objects k [] = []
string_objects k (s ∷ ss) = record { origin = Text k; live = true; size = suc (length s); cells = characters 0 s } ∷ string_objects (suc k) ss

abbrev pub world_at_first : Program → List ℕ → World
world_at_first p input = record { objects = static_objects p 0 p.objects ++ string_objects 0 p.strings; input = input; output = [] }

-- `main` is the external function of that name
abbrev is_main : Function → Bool
is_main f = not f.is_static && bytes_eq f.name (codes "main")

abbrev pub main_from : ℕ → List Function → ℕ
main_from n [] = n
main_from n (f ∷ fs) = if is_main f then n else main_from (suc n) fs

abbrev pub control_in : Program → ℕ → Option Function → List Item
control_in p n None = []
control_in p n (Some f) = body_of p n f

-- before the first step
abbrev pub begin : Program → List ℕ → State
begin p input =
    let n = main_from 0 p.functions in
    record { here = record { world = world_at_first p input; activation = new_activation 0 n }; values = []; control = control_in p n (slice_get p.functions n); outer = [] }

-- the records of the activations, the innermost first
abbrev pub outer_records : List Activation → List ActivationRecord
outer_records [] = []
outer_records (a ∷ rest) = a.activation ∷ outer_records rest

abbrev pub records : State → List ActivationRecord
records s = s.here.activation ∷ outer_records s.outer

-- what a history of assignments does at the stop of each number
abbrev pub acted : History → Actions State
acted h i s = record s { here = with_world s.here (all_assigned (at_stop h i) s.here.world) }
