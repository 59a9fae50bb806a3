-- A command that doesn't resume leaves a side that stands for the machine session's, where it changes both alike.
use Rattle.std.specs.Prelude.{◌≡◌, ℕ, List, [], map, Option, Some, None}
use Rattle.std.specs.List.{AllByRecursion}
use Rattle.machine_state.specs.State.{Behaviour}
use Rattle.frame_bytes.specs.Bytes.{Bytes}
use Rattle.ps_store.specs.StoreState.{StoreState}
use Rattle.ps_store.specs.Store.{closed_part}
use Rattle.ps_store.specs.Settled.{Settled}
use Rattle.table_points.specs.declared.row.Point.{Point}
use Rattle.table_points.specs.Rows.{row_in}
use Rattle.table_points.specs.Named.{IsNamed}
use Rattle.debug_side.specs.declared.event.Event.{Event}
use Rattle.debug_side.specs.declared.event.Event.TheVariants as event
use Rattle.debug_side.specs.declared.point.MachineKind.{MachineKind}
use Rattle.debug_side.specs.Planting.{PutsWords}
use Rattle.debug_side.specs.Told.{with_regions}
use Rattle.claims.specs.Side.{SideEvent, SideState}
use Rattle.claims.specs.Raw.{regs_text}
use Rattle.side_meaning.specs.Standing.{Debugged, events_in, IsTable, StandsFor}
use Rattle.side_meaning.specs.Resuming.{IsResumed}
use Rattle.side_meaning.specs.Stepping.{IsStill, IsReady}

-- ---- the names of points

abbrev pub IsNamedEvent : StoreState → Option Event → Type 0
IsNamedEvent s (Some (event.Stops p)) = IsNamed s p
IsNamedEvent s (Some (event.Pauses pc)) = Unit {0}
IsNamedEvent s (Some (event.Exits status)) = Unit {0}
IsNamedEvent s (Some (event.Faults kind pc)) = Unit {0}
IsNamedEvent s (Some event.OutOfTurns) = Unit {0}
IsNamedEvent s (Some event.OutOfStack) = Unit {0}
IsNamedEvent s None = Unit {0}

-- so are those of the breakpoints, of the words of a step, and of the event that is kept
pub record HasNames (d : Debugged) : Type 0 where
  pub breaks : AllByRecursion (IsNamed d.table) d.row.breaks.items
  pub words : AllByRecursion (IsNamed d.table) d.row.step_words.items
  pub kept : IsNamedEvent d.table d.row.kept

-- While what is closed of a table is settled, a point is the same row.
abbrev pub RowsStay : Type 0
RowsStay = (s t : StoreState) (p : Point) → Settled (closed_part s) (closed_part t) → IsNamed s p → (row_in t p ≡ row_in s p) × IsNamed t p

-- so what is kept of a side stays
abbrev pub NamesStay : Type 0
NamesStay = (d : Debugged) (t : StoreState) → Settled (closed_part d.table) (closed_part t) → HasNames d → IsStill d (record d { table = t }) × HasNames (record d { table = t })

-- the points that are kept of those at which words of a step are put have closed names where all of them do
abbrev pub WordsAreNamed : Type 0
WordsAreNamed = (s : StoreState) (target : ℕ) (ps kept : List Point) (b c : Bytes) → AllByRecursion (IsNamed s) ps → PutsWords target b ps kept c → AllByRecursion (IsNamed s) kept

-- and so have those that are kept behind a resume
abbrev pub NamesGoOn : Type 0
NamesGoOn = (b : Behaviour) (kind : MachineKind) (limit : ℕ) (all : SideEvent) (d d' : Debugged) → HasNames d → IsResumed b kind limit all d d' → HasNames d'

-- ---- a command

-- No word of a step is there. Units of the table may have been run, a frame chosen, breakpoints set or taken away, and something stored in
-- the target, on both sides alike.
pub record IsAsked (d d' : Debugged) (a a' : SideState) : Type 0 where
  pub words : d'.row.step_words.items ≡ []
  pub table : IsTable d'.table a'.table
  pub frame : a'.frame ≡ d'.frame
  pub breaks : a'.breaks ≡ map (row_in d'.table) d'.row.breaks.items
  pub stands_at : d'.row.stands_at ≡ d.row.stands_at
  pub kept : events_in d'.table d'.row.kept ≡ events_in d.table d.row.kept
  pub host : d'.host ≡ with_regions d.host a'.machine.memory
  pub side : a' ≡ record a { machine = record a.machine { memory = a'.machine.memory }; table = a'.table; breaks = a'.breaks; frame = a'.frame }

abbrev pub AsksAreMeant : Type 0
AsksAreMeant = (d d' : Debugged) (a a' : SideState) → a.step_words ≡ [] → IsReady d a → IsAsked d d' a a' → IsReady d' a'

-- `regs` tells the words of the machine that the debugger has, whether or not words are left in its text.
abbrev pub RegsAreMeant : Type 0
RegsAreMeant = (d : Debugged) (a : SideState) → StandsFor d a → regs_text a ≡ regs_text (record a { machine = d.host.machine })
