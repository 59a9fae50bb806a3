-- A resume of a side over nubs that meet their definition.
use Rattle.std.specs.Prelude.{◌≡◌, ℕ, Bool, true, false, List, [], map, Option, Some, None, Result, Ok, Err}
use Rattle.ldb_words.specs.declared.kinds.Order.{Order}
use Rattle.ldb_edge.specs.Known.{known_and}
use Rattle.machine_state.specs.Regions.{Regions}
use Rattle.machine_state.specs.State.{MachineState, Behaviour, order_of}
use Rattle.nub_wire.specs.declared.link.Side.{Side}
use Rattle.nub_wire.specs.Nub.{Host, host}
use Rattle.nub_wire.specs.Delivery.{Conduct, World}
use Rattle.nub_wire.specs.Fits.{Reached}
use Rattle.nub_wire.specs.Resumes.{Whole, run_from, after_run}
use Rattle.wire_talk.specs.declared.fault.TalkFault.TheVariants as talk
use Rattle.resuming.specs.declared.fault.RunFault.{RunFault}
use Rattle.resuming.specs.declared.fault.RunFault.TheVariants as fault
use Rattle.resuming.specs.Runs.{TakesFront}
use Rattle.resuming.specs.Standing.{Stands}
use Rattle.break_plant.specs.Planted.{noop_of}
use Rattle.table_points.specs.declared.row.Point.{Point}
use Rattle.debug_side.specs.declared.event.Event.{Event}
use Rattle.debug_side.specs.declared.point.MachineKind.{MachineKind}
use Rattle.debug_side.specs.declared.point.SideRow.{SideRow}
use Rattle.debug_side.specs.Meant.{address_of, event_of, keeps_words}
use Rattle.debug_side.specs.Wrote.{words_put, passed}

-- the machine of a target keeps the order of its bytes, whatever is done to it
abbrev pub KeepsOrder : Behaviour → MachineState → Type 0
KeepsOrder b m = (n : MachineState) → Reached b m n → order_of n ≡ order_of m

-- a side that has no event yet has a nub whose run has not ended for good
abbrev pub MayRun : Option Event → Host → Type 0
MayRun None h = h.nub.ended ≡ None
MayRun (Some event) h = Unit {0}

-- ---- nubs and machines

abbrev pub with_regions : Host → Regions → Host
with_regions h r = host h.nub (record h.machine { memory = r })

-- pc and next pc stand past the no-op at which the side stands
abbrev pub moved : (context : ℕ) → Option ℕ → Host → Host
moved context at h = with_regions h (passed context at (order_of h.machine) h.machine.memory)

-- the words of a step are left, or the no-op is put back at each
abbrev pub behind : (left : Bool) → (target : ℕ) → List Point → Host → Host
behind true target words h = h
behind false target words h = with_regions h (words_put (order_of h.machine) (noop_of target) (map address_of words) h.machine.memory)

-- ---- a side that keeps its event isn't run

abbrev pub put_by : Option Event → Whole → List ℕ
put_by None w = w.output
put_by (Some k) w = []

abbrev pub came : Option Event → SideRow → Whole → Event
came None row w = event_of row.breaks.items row.step_words.items w.ending
came (Some k) row w = k

abbrev pub at_event : Option Event → Whole → (before moved : Host) → Host
at_event None w h m = after_run w m
at_event (Some k) w h m = h

-- ---- what a resume comes to

-- The event and the output are these. The side stands at this nub and machine, whose order the debugger has, and the other one as
-- it was. After a fault the front of the output was put. No bad reply comes.
abbrev pub CameTold : Behaviour → Conduct → Side → (event : Event) → (output : List ℕ) → (there : Host) → (beside : Option Host) → Result Event RunFault → Option World → Order → (taken taken' : Option (List ℕ)) → Type 0
CameTold b c side event output there beside (Ok e) o order taken taken' =
    (e ≡ event) × (taken' ≡ known_and taken output) × Stands b c side o there beside × (order ≡ order_of there.machine)
CameTold b c side event output there beside (Err (fault.Talk talk.LinkFault)) o order taken taken' = TakesFront taken taken' output
CameTold b c side event output there beside (Err (fault.Talk (talk.BadReply frame))) o order taken taken' = ⊥
CameTold b c side event output there beside (Err fault.Output) o order taken taken' = TakesFront taken taken' output

module _ (b : Behaviour) (kind : MachineKind) (row : SideRow) (limit : ℕ) (h : Host) where
  abbrev pub moved_there : Host
  moved_there = moved kind.context row.stands_at h

  -- its run, which begins past the no-op
  abbrev pub its_run : Whole
  its_run = run_from b limit moved_there.machine

  abbrev pub its_event : Event
  its_event = came row.kept row its_run

  abbrev pub its_output : List ℕ
  its_output = put_by row.kept its_run

  -- before the words of a step are taken away
  abbrev pub host_at_event : Host
  host_at_event = at_event row.kept its_run h moved_there

  abbrev pub host_behind : Host
  host_behind = behind (keeps_words row.words_stay row.kept its_event) kind.target row.step_words.items host_at_event
