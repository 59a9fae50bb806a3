-- What the calls of a debugger tell of its sides over a link whose nubs meet their definition.
use Rattle.std.specs.Prelude.{◌≡◌, ◌⊎◌, ℕ, false, List, map, Option, Some, None, Ok}
use Rattle.ldb_words.specs.declared.kinds.Order.{Order}
use Rattle.ldb_edge.specs.Known.{known_and}
use Rattle.machine_state.specs.Regions.{Regions}
use Rattle.machine_state.specs.State.{Behaviour, order_of}
use Rattle.machine_state.specs.Sound.{IsMemory}
use Rattle.nub_wire.specs.declared.link.Side.{Side}
use Rattle.nub_wire.specs.Nub.{Host}
use Rattle.nub_wire.specs.Delivery.{Conduct, World}
use Rattle.frame_bytes.specs.Bytes.{bytes_of}
use Rattle.abs_mem.specs.WireMeaning.{wire_seen}
use Rattle.resuming.specs.Standing.{Stands}
use Rattle.table_points.specs.declared.row.Point.{Point}
use Rattle.break_plant.specs.Planted.{noop_of}
use Rattle.debug_side.specs.declared.event.Event.{Event}
use Rattle.debug_side.specs.declared.point.MachineKind.{MachineKind}
use Rattle.debug_side.specs.declared.point.SideRow.{SideRow}
use Rattle.debug_side.specs.Meant.{address_of, stood, words_left}
use Rattle.debug_side.specs.Wrote.{Puts, words_put}
use Rattle.debug_side.specs.Told.{with_regions, behind, CameTold, its_event, its_output, host_behind}
use Rattle.debug_side.specs.Planting.{PutsWords, PlantsAll}
use Rattle.claims.specs.Side.{SideEvent}
use Rattle.claims.specs.Resumes.{keeps, frame_after}
use Rattle.side_meaning.specs.Standing.{Debugged, event_in, events_in}
use Rattle.side_meaning.specs.Resuming.{IsResumed}

-- the memory of a machine holds bytes
abbrev pub MemoriesAreTold : Type 0
MemoriesAreTold = (b : Behaviour) (c : Conduct) (side : Side) (o : Option World) (h : Host) (beside : Option Host) → Stands b c side o h beside → IsMemory h.machine.memory

-- Words of a step that are planted are put into its memory, and nothing else is changed.
abbrev pub PlantsAreTold : Type 0
PlantsAreTold =
    (b : Behaviour) (c : Conduct) (side side' : Side) (o o' : Option World) (f f' : ℕ) (order order' : Order) (h : Host) (beside : Option Host) (target : ℕ) (points kept : List Point) → Stands b c side o h beside → order ≡ order_of h.machine
    → PlantsAll target points (wire_seen c o f side order) (Ok tt) kept (wire_seen c o' f' side' order')
    → (r : Regions) × PutsWords target (bytes_of h.machine) points kept (bytes_of (record h.machine { memory = r })) × Stands b c side o' (with_regions h r) beside × (order' ≡ order)

-- Where they are taken away the no-op is back at each, as far as it can be.
abbrev pub ClearsAreTold : Type 0
ClearsAreTold =
    (b : Behaviour) (c : Conduct) (side side' : Side) (o o' : Option World) (f f' : ℕ) (order order' : Order) (h : Host) (beside : Option Host) (target : ℕ) (words : List Point) → Stands b c side o h beside → order ≡ order_of h.machine
    → Puts (wire_seen c o f side order) (Ok tt) (λ z r. r ≡ words_put z.order (noop_of target) (map address_of words) z.regions) (wire_seen c o' f' side' order')
    → Stands b c side o' (behind false target words h) beside × (order' ≡ order)

-- ---- a resume

-- what a debugger keeps of a side that was resumed to an event, where this is the event of all sides
pub record Keeps (all : SideEvent) (e : Event) (d : Debugged) (frame : ℕ) (row : SideRow) : Type 0 where
  pub frame_is : frame ≡ frame_after d.frame all
  pub breaks : row.breaks ≡ d.row.breaks
  pub stands_at : row.stands_at ≡ stood d.row.kept d.row.stands_at e
  pub words : row.step_words.items ≡ words_left d.row e
  pub stay : row.words_stay ≡ d.row.words_stay
  pub kept : events_in d.table row.kept ≡ keeps all (event_in d.table e)
  pub own : (row.kept ≡ None) ⊎ (row.kept ≡ Some e)

-- the side as the debugger has it then
abbrev pub behind_it : Behaviour → MachineKind → (limit : ℕ) → Debugged → (frame : ℕ) → SideRow → Debugged
behind_it b kind limit d frame row = record { table = d.table; frame = frame; row = row; host = host_behind b kind d.row limit d.host }

-- A resume that came to an event leaves a side that was resumed, which stands at its nub and machine, and put its output.
abbrev pub ResumesAreTold : Type 0
ResumesAreTold =
    (b : Behaviour) (c : Conduct) (side : Side) (kind : MachineKind) (limit : ℕ) (all : SideEvent) (e : Event) (d : Debugged) (beside : Option Host) (frame : ℕ) (row : SideRow) (o : Option World) (order : Order) (taken taken' : Option (List ℕ))
    → CameTold b c side (its_event b kind d.row limit d.host) (its_output b kind d.row limit d.host) (host_behind b kind d.row limit d.host) beside (Ok e) o order taken taken' → Keeps all e d frame row
    → IsResumed b kind limit all d (behind_it b kind limit d frame row) × Stands b c side o (host_behind b kind d.row limit d.host) beside × (taken' ≡ known_and taken (its_output b kind d.row limit d.host))
