-- What the slot code of a program is, and what it promises.
use Rattle.std.specs.Prelude.{◌≡◌, ◌≤◌, ◌<◌, ℕ, suc, ◌+◌, ◌*◌, List, Option, Some, None, slice_get, length, ◌⊎◌}
use Rattle.c_tree.specs.declared.types.CType.{CType}
use Rattle.c_tree.specs.declared.types.CType.TheVariants.{Void, Struct}
use Rattle.c_tree.specs.declared.rows.Program.{Program}
use Rattle.c_tree.specs.declared.rows.Function.{Function}
use Rattle.c_tree.specs.Layout.{size_of, leaves_of}
use Rattle.runs.specs.Runs.{Why, Moment, Outcome, Reached, Breaks, after}
use Rattle.c_store.specs.Assigned.{History}
use Rattle.c_source.specs.Blocks.{local_type}
use Rattle.c_source.specs.Begin.{main_from}
use Rattle.c_source.specs.Control.{State}
use Rattle.c_source.specs.Source as source
use Rattle.c_source.specs.Begin as sources
use Rattle.slot_ir.specs.declared.code.SlotCode.{SlotCode}
use Rattle.slot_ir.specs.declared.code.SlotLocal.{SlotLocal}
use Rattle.slot_ir.specs.Slots.{SlotState, code_of, local_row, leaves_in}
use Rattle.slot_ir.specs.Slots as slots
use Rattle.slot_ir.specs.Begin as beginning
use Rattle.slot_gen.specs.Expressions.{access_of}
use Rattle.slot_gen.specs.Statements.{function_code}

-- the slot steps that a counted unit of the program takes at most
abbrev pub steps_of_a_unit : ℕ
steps_of_a_unit = 2

-- ---- the code of a program

-- a local's row has its type's size and leaves; one that is not there has no type
abbrev pub IsRow : Program → Option SlotLocal → CType → Type 0
IsRow p None t = t ≡ Void
IsRow p (Some l) t = (l.size ≡ size_of p.defs t) × (l.leaves ≡ leaves_of p.defs t) × (l.access ≡ access_of t)

pub record IsCodeOf (p : Program) (c : SlotCode) : Type 0 where
  pub code : (f : ℕ) (fn : Function) → slice_get p.functions f ≡ Some fn → code_of c f ≡ function_code p f fn
  pub rows : (f x : ℕ) → IsRow p (local_row c f x) (local_type p f x)
  pub structs : (s : ℕ) → leaves_in (slice_get c.structs s) ≡ leaves_of p.defs (Struct s)
  pub objects : length c.objects ≡ length p.objects
  pub start : (input : List ℕ) → beginning.world_at_first c input ≡ sources.world_at_first p input
  pub main : c.main ≡ main_from 0 p.functions

-- `main` is there and has no parameters
abbrev pub HasMain : Program → Type 0
HasMain p = (fn : Function) × (slice_get p.functions (main_from 0 p.functions) ≡ Some fn) × (fn.params ≡ 0)

-- ---- its runs

-- two moments at which a debugger sees the same
pub record Shows (m : Moment State) (k : Moment SlotState) : Type 0 where
  -- the stopping points passed, in order
  pub passed : k.passed ≡ m.passed
  -- each object's lifetime and leaf values, the input left and the output
  pub world : k.state.here.world ≡ m.state.here.world
  -- each activation's function, live objects and last point
  pub records : beginning.records k.state ≡ sources.records m.state
  pub exit : k.exit ≡ m.exit

-- a moment of the slot code on the way from one of the program to the next: nothing more was seen than the program has shown
pub record ShowsNoMore (m : Moment State) (k : Moment SlotState) : Type 0 where
  pub passed : k.passed ≡ m.passed
  pub output : k.state.here.world.output ≡ m.state.here.world.output
  pub exit : k.exit ≡ m.exit

abbrev pub source_after : Program → History → List ℕ → ℕ → Outcome State
source_after p h input n = after State (source.step p) (sources.acted h) n 0 (sources.begin p input)

abbrev pub slots_after : SlotCode → History → List ℕ → ℕ → Outcome SlotState
slots_after c h input n = after SlotState (slots.step c) (beginning.acted h) n 0 (beginning.begin c input)

-- The run of the slot code on this input, with these assignments made at the stops, beside the program's: `at` says after how many of its steps it shows so many of the program's. Where the program meets an undefined step, nothing is said of what comes behind the last moment that it reached.
pub record Follows (p : Program) (c : SlotCode) (input : List ℕ) (h : History) : Type 0 where
  pub at : ℕ → ℕ
  pub start : at 0 ≡ 0
  pub ascends : (n : ℕ) → at n ≤ at (suc n)
  -- each moment of the program is shown
  pub shows : (n : ℕ) (m : Moment State) → source_after p h input n ≡ Reached m → (k : Moment SlotState) × (slots_after c h input (at n) ≡ Reached k) × Shows m k
  -- and nothing else on the way to the next
  pub between : (n j : ℕ) (m m' : Moment State) → source_after p h input n ≡ Reached m → source_after p h input (suc n) ≡ Reached m' → at n ≤ j → j < at (suc n)
      → (k : Moment SlotState) × (slots_after c h input j ≡ Reached k) × ShowsNoMore m k
  -- from any moment to any later one the count is bounded by the units in which these lie
  pub takes : (n n' units : ℕ) (m m' : Moment State) → n ≤ n' → source_after p h input n ≡ Reached m → source_after p h input n' ≡ Reached m' → m'.count ≡ m.count + units
      → (j j' : ℕ) (k k' : Moment SlotState) → at n ≤ j → j ≤ j' → j' ≤ at n' → slots_after c h input j ≡ Reached k → slots_after c h input j' ≡ Reached k' → k'.count ≤ k.count + steps_of_a_unit * units
  -- each moment of the slot code comes before one that shows the program's, or the program meets an undefined step
  pub comes_to : (j : ℕ) → (n : ℕ) × ((j < at (suc n)) ⊎ ((why : Why) × (source_after p h input n ≡ Breaks why)))

-- for every input and all assignments made at the stops
abbrev pub Lowers : Program → SlotCode → Type 0
Lowers p c = (input : List ℕ) (h : History) → Follows p c input h
