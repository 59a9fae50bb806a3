-- What an object promises of the slot code that it was made of, wherever it is placed: its machine simulates the slot code forward, and comes to nothing else.
use Rattle.std.specs.Prelude.{◌≡◌, ◌≢◌, ◌≤◌, ◌<◌, ◌⊎◌, ℕ, zero, suc, ℤ, ◌+◌, ◌-◌, ◌*◌, ◌%◌, ◌^◌, List, [], ◌∷◌, ◌++◌, length, take, drop, Bool, true, false, Option, Some, None, slice_get, codes}
use Rattle.std.specs.List.{AllByRecursion}
use Rattle.ldb_words.specs.declared.event.Event.TheVariants.{Request}
use Rattle.machine_state.specs.declared.layout.TheConstants.{TEXT, DATA}
use Rattle.machine_state.specs.Regions.{number_of}
use Rattle.machine_state.specs.Sound.{AreBytes, MayBegin}
use Rattle.machine_state.specs.State.{MachineState, given_input, order_of_target}
use Rattle.obj_file.specs.declared.object.Object.{Object}
use Rattle.obj_file.specs.declared.object.FunctionRow.{FunctionRow}
use Rattle.obj_file.specs.declared.object.StaticDef.{StaticDef}
use Rattle.obj_file.specs.Image.{ImageFields}
use Rattle.runs.specs.Runs.{Next, Goes, Passes, Exits, Undefined, Why, IllTyped, Moment, Outcome, Reached, Breaks, here, after}
use Rattle.c_store.specs.Assigned.{History, at_stop}
use Rattle.slot_ir.specs.declared.code.SlotCode.{SlotCode}
use Rattle.slot_ir.specs.declared.code.SlotFunction.{SlotFunction}
use Rattle.slot_ir.specs.Slots.{SlotState}
use Rattle.slot_pointers.specs.Taken.{strict_step}
use Rattle.slot_ir.specs.Begin.{begin, acted}
use Rattle.targets.specs.Targets.{loaded}
use Rattle.machine_runs.specs.Watched.{Watched, Change, Debugger, Led, led_after}
use Rattle.flat_gen.specs.Stack.{fits}
use Rattle.gen_parts.specs.Links.{text_names, static_names, AreOnce}
use Rattle.link_image.specs.Conditions.{AreLinkable}
use Rattle.obj_placed.specs.Placed.{IsPlacing, IsResolved, names_of, address_of, placed_text, placed_statics}
use Rattle.object_meaning.specs.Changes.{Target, AreSane, changes}
use Rattle.object_meaning.specs.Rows.{IsRow, AreDisjoint, HasStatics}
use Rattle.object_meaning.specs.Shown.{behaviour, point_at, Represents, Shows, CanSave}

-- ---- slot code that takes no number but 0 as a pointer, on a stack of bounded size

abbrev if_true : Bool → Next SlotState → Next SlotState
if_true true next = next
if_true false next = Undefined IllTyped

abbrev fitting : (linkage : ℕ) → SlotCode → Next SlotState → Next SlotState
fitting linkage c (Goes n s) = if_true (fits linkage c s) (Goes n s)
fitting linkage c (Passes q n s) = Passes q n s
fitting linkage c (Exits v n s) = Exits v n s
fitting linkage c (Undefined why) = Undefined why

-- a step is undefined that takes a number but 0 as a pointer, or after which the frames don't fit
unfoldable pub fitting_step : (linkage : ℕ) → SlotCode → SlotState → Next SlotState
fitting_step linkage c s = fitting linkage c (strict_step c s)

-- ---- runs

-- machine steps that a unit of slot code takes at most
abbrev pub steps_of_a_unit : ℕ
steps_of_a_unit = 63

-- assignments made at stops, and what a debugger does
module _ (t : Target) (c : SlotCode) (o : Object) (addresses : List ℕ) (h : History) (d : Debugger) (input : List ℕ) where
  abbrev pub slots_after : ℕ → Outcome SlotState
  slots_after n = after SlotState (fitting_step t.linkage c) (acted h) n 0 (begin c input)

  pub record IsMade (i : ℕ) (s : SlotState) : Type 0 where
    pub sane : AreSane t addresses c s (at_stop h i)
    pub changes : d.stops i ≡ changes t addresses c s (at_stop h i)

  abbrev pub made_next : Next SlotState → (ℕ → SlotState → Type 0) → ℕ → Type 0
  made_next (Goes n s) go i = go i s
  made_next (Passes q n s) go i = IsMade i s × go (suc i) (acted h i s)
  made_next (Exits v n s) go i = Unit {0}
  made_next (Undefined w) go i = Unit {0}

  -- so it is at each stop in n steps, of which the first has number i
  abbrev pub MadeAlong : ℕ → ℕ → SlotState → Type 0
  MadeAlong zero i s = Unit {0}
  MadeAlong (suc n) i s = made_next (fitting_step t.linkage c s) (MadeAlong n) i

  -- at a point, the no-op or a break is written
  abbrev pub IsPlanted : Change → Type 0
  IsPlanted w = (f j a : ℕ) × (row : FunctionRow) × (slice_get o.functions f ≡ Some row) × (slice_get row.points j ≡ Some a)
      × (w.at ≡ TEXT + a) × (w.width ≡ 4) × ((w.value ≡ t.no_op) ⊎ (w.value ≡ t.break_word))

  module _ (machine : MachineState) where
    abbrev pub machine_after : ℕ → Outcome Led
    machine_after j = led_after (behaviour t) (point_at c o) d machine j

    -- just behind a stop: where nothing is saved there nothing is assigned
    abbrev pub AssignsWhereSaved : Moment Led → Type 0
    AssignsWhereSaved k = (p : ℕ) → d.saves k.state.steps ≡ false → length k.passed ≡ suc p → at_stop h p ≡ []

    -- A debugger that makes these assignments: they are sane and rightly written, made at stops where it saves, and beside them it writes words at points alone.
    -- It saves so many times only: on SPARC a save between a fill and its RESTORE undoes the fill, so a machine saved after each step would stand still.
    pub record Makes : Type 0 where
      pub along : (n : ℕ) → MadeAlong n 0 (begin c input)
      pub planted : (n : ℕ) → AllByRecursion IsPlanted (d.words n)
      pub ends : (last : ℕ) × ((x : ℕ) → last < x → d.saves x ≡ false)
      pub saved : (j : ℕ) (k k' : Moment Led) → machine_after j ≡ Reached k → machine_after (suc j) ≡ Reached k' → k'.passed ≢ k.passed → AssignsWhereSaved k'

    abbrev RepresentsUnless : Option ℤ → SlotState → Watched → Type 0
    RepresentsUnless None s w = Represents t c o addresses s w
    RepresentsUnless (Some v) s w = w.output ≡ s.here.world.output

    -- two moments at which a debugger sees the same
    pub record IsMatched (m : Moment SlotState) (k : Moment Led) : Type 0 where
      pub passed : k.passed ≡ m.passed
      pub exit : k.exit ≡ m.exit
      pub state : RepresentsUnless m.exit m.state k.state.watched
      pub saved : CanSave t c o addresses k.state.watched.machine

    -- a moment on the way from one that is matched to the next: nothing more was seen but output of the next, and its registers can be saved
    pub record LiesBetween (m : Moment SlotState) (output : List ℕ) (k : Moment Led) : Type 0 where
      pub passed : k.passed ≡ m.passed
      pub exit : k.exit ≡ m.exit
      pub shown : (k.state.watched.output ≡ m.state.here.world.output) ⊎ (k.state.watched.output ≡ output)
      pub saved : CanSave t c o addresses k.state.watched.machine

    abbrev AreBetween : Moment SlotState → List ℕ → (from to : ℕ) → Type 0
    AreBetween m output from to = (j : ℕ) → from ≤ j → j < to → (k : Moment Led) × (machine_after j ≡ Reached k) × LiesBetween m output k

    -- no save between two moments
    abbrev pub IsQuiet : (from to : ℕ) → Type 0
    IsQuiet from to = (x : ℕ) → from < x → x < to → d.saves x ≡ false

    -- so many units bound each part, from one save to the next, of the machine's run between two moments
    abbrev pub TakesAtMost : (units from to : ℕ) → Type 0
    TakesAtMost units from to = (j j' : ℕ) (k k' : Moment Led) → from ≤ j → j ≤ j' → j' ≤ to → machine_after j ≡ Reached k → machine_after j' ≡ Reached k' → IsQuiet j j'
        → k'.count ≤ k.count + steps_of_a_unit * units

    -- From the number `from` on the machine comes to the request for more stack: nothing more is seen before, and the units of the call bound its steps.
    pub record AsksForStack (m : Moment SlotState) (units from : ℕ) : Type 0 where
      pub asks_at : ℕ
      pub from_here : from ≤ asks_at
      pub before : AreBetween m m.state.here.world.output from asks_at
      pub last : Moment Led
      pub reached : machine_after asks_at ≡ Reached last
      pub between : LiesBetween m m.state.here.world.output last
      pub asks : ((behaviour t).next last.state.watched.machine).0 ≡ Request 5
      pub takes : TakesAtMost units from asks_at

    -- the state at which a stop is met: the machine is at the point's address, and its saved memory shows the state
    pub record IsStop (q : ℕ) (s : SlotState) (passed : List ℕ) (k : Moment Led) : Type 0 where
      pub before : k.passed ≡ passed
      pub at_point : point_at c o k.state.watched.machine.pc ≡ Some q
      pub output : k.state.watched.output ≡ s.here.world.output
      pub saved : CanSave t c o addresses k.state.watched.machine
      pub shows : Shows t c o addresses s ((behaviour t).saved k.state.watched.machine).1

    -- The machine's run, matched with that of the slot code: `at` says after how many machine steps so many steps of slot code are matched. Nothing is said of the machine behind the last matched moment of a run that breaks, but where it outgrows the stack.
    pub record BehavesAs : Type 0 where
      pub at : ℕ → ℕ
      pub ascends : (n : ℕ) → at n ≤ at (suc n)
      pub matched : (n : ℕ) (m : Moment SlotState) → slots_after n ≡ Reached m → (k : Moment Led) × (machine_after (at n) ≡ Reached k) × IsMatched m k
      -- the start takes no more than one unit, and belongs to the first that is counted
      pub start : TakesAtMost 1 0 (at 0)
      pub from_start : (n : ℕ) (m : Moment SlotState) → slots_after n ≡ Reached m → 0 < m.count → TakesAtMost m.count 0 (at n)
      -- from any moment of the machine to any later one, by the units in which these lie
      pub counts : (n n' units : ℕ) (m m' : Moment SlotState) → n ≤ n' → slots_after n ≡ Reached m → slots_after n' ≡ Reached m' → m'.count ≡ m.count + units → TakesAtMost units (at n) (at n')
      pub at_first : AreBetween (here SlotState (begin c input)) [] 0 (at 0)
      pub between : (n : ℕ) (m m' : Moment SlotState) → slots_after n ≡ Reached m → slots_after (suc n) ≡ Reached m' → AreBetween m m'.state.here.world.output (at n) (at (suc n))
      -- so each machine moment lies before a matched one, or the slot code breaks
      pub comes_to : (j : ℕ) → (n : ℕ) × ((j < at (suc n)) ⊎ ((why : Why) × (slots_after n ≡ Breaks why)))
      pub stops : (n q count : ℕ) (m : Moment SlotState) (s : SlotState) → slots_after n ≡ Reached m → fitting_step t.linkage c m.state ≡ Passes q count s
          → (j : ℕ) × (k : Moment Led) × (at (suc n) ≡ suc j) × (machine_after j ≡ Reached k) × IsStop q s m.passed k
      pub stack : (n units : ℕ) (m : Moment SlotState) (s : SlotState) → slots_after n ≡ Reached m → strict_step c m.state ≡ Goes units s → fits t.linkage c s ≡ false
          → AsksForStack m units (at n)

-- ---- images

-- the address of each name, where the static objects stand at these addresses
abbrev pub addresses_in : Object → List ℕ → List ℕ → Option ℕ
addresses_in o addresses = address_of (names_of (o ∷ []) addresses)

-- the image of a placed object: it begins at the name `start`; bytes between static objects are free
pub record IsPlacedImage (o : Object) (addresses : List ℕ) (i : ImageFields) : Type 0 where
  pub may_begin : MayBegin i.entry i.text i.statics
  pub target : i.target ≡ o.target
  pub entry : addresses_in o addresses (codes "start") ≡ Some i.entry
  pub text : i.text ≡ placed_text (addresses_in o addresses) TEXT o
  pub statics : (j a : ℕ) (bytes : List ℕ) → slice_get (placed_statics (addresses_in o addresses) (o ∷ [])) j ≡ Some bytes → slice_get addresses j ≡ Some a
      → take (length bytes) (drop (a - DATA) i.statics) ≡ bytes

-- the machine that an image starts, with its input
abbrev pub started : ImageFields → List ℕ → MachineState
started i input = (given_input input (loaded i)).1

-- A step of the slot code that takes a number but 0 as a pointer, or after which the frames don't fit, is undefined. For every place, input and debugger: the image's
-- machine shows what the slot code does while its frames fit, and nothing else; where they don't it asks for more stack.
pub record Implements (t : Target) (c : SlotCode) (o : Object) : Type 0 where
  pub target : o.target ≡ t.number
  -- A linker makes an image of it alone: its static objects fit, what is named lies in its text, uses among static objects are of whole words, and each name that it uses is defined once. So are the others that it gives.
  pub linkable : AreLinkable (o ∷ [])
  pub names : AreOnce (text_names o.names ++ static_names o.statics)
  -- its text is of whole words, begins with the name `start`, and each use is found
  pub text_words : (4 ≤ length o.text) × (length o.text ≤ 2 ^ 24) × (length o.text % 4 ≡ 0)
  pub text_bytes : AreBytes o.text
  pub static_bytes : (j : ℕ) (s : StaticDef) → slice_get o.statics j ≡ Some s → AreBytes s.bytes
  pub start : (addresses : List ℕ) → IsPlacing o.statics addresses → addresses_in o addresses (codes "start") ≡ Some TEXT
  pub resolved : (addresses : List ℕ) → IsPlacing o.statics addresses → IsResolved (addresses_in o addresses) o
  pub runs : (addresses : List ℕ) (i : ImageFields) → IsPlacing o.statics addresses → IsPlacedImage o addresses i
      → (input : List ℕ) → AreBytes input → length input ≤ 2 ^ 24
      → (h : History) (d : Debugger) → Makes t c o addresses h d input (started i input)
      → (fits t.linkage c (begin c input) ≡ true → BehavesAs t c o addresses h d input (started i input))
      × (fits t.linkage c (begin c input) ≡ false → AsksForStack t c o addresses h d input (started i input) (here SlotState (begin c input)) 1 0)
  pub function_count : length o.functions ≡ length c.functions
  pub rows : (f : ℕ) (function : SlotFunction) (row : FunctionRow) → slice_get c.functions f ≡ Some function → slice_get o.functions f ≡ Some row → IsRow t c function row
  pub rows_inside : (f : ℕ) (row : FunctionRow) → slice_get o.functions f ≡ Some row → (row.entry ≤ row.end) × (row.end ≤ length o.text)
  pub rows_apart : AreDisjoint o.functions
  -- a point is a no-op of its own, also once the object is placed
  pub points : (addresses : List ℕ) → IsPlacing o.statics addresses → (f j a : ℕ) (row : FunctionRow) → slice_get o.functions f ≡ Some row → slice_get row.points j ≡ Some a
      → (a % 4 ≡ 0) × (a + 4 ≤ length o.text) × (number_of (order_of_target o.target) 4 (drop a (placed_text (addresses_in o addresses) TEXT o)) ≡ t.no_op)
  pub statics : HasStatics c o.statics
