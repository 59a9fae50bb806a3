-- A resume of a side is that of the machine session.
use Rattle.std.specs.Prelude.{◌≡◌, ◌⊎◌, ℕ, Some, None}
use Rattle.machine_state.specs.declared.layout.TheConstants.{CONTEXT}
use Rattle.machine_state.specs.State.{Behaviour}
use Rattle.machine_state.specs.Sound.{IsMemory}
use Rattle.debug_side.specs.declared.event.Event.{Event}
use Rattle.debug_side.specs.declared.point.MachineKind.{MachineKind}
use Rattle.debug_side.specs.Meant.{stood, words_left}
use Rattle.debug_side.specs.Told.{MayRun, its_event, its_output, host_behind}
use Rattle.steady_machines.specs.Steady.{RunsAreSteady}
use Rattle.claims.specs.Side.{SideEvent, OutOfTurns, SideState}
use Rattle.claims.specs.Resumes.{SideRun, resume_side, keeps, frame_after, side_after}
use Rattle.side_meaning.specs.Standing.{Debugged, event_in, events_in, StandsFor, MayResume}

abbrev pub event_of_it : Behaviour → MachineKind → (limit : ℕ) → Debugged → Event
event_of_it b kind limit d = its_event b kind d.row limit d.host

module _ (b : Behaviour) (kind : MachineKind) (limit : ℕ) (all : SideEvent) (d d' : Debugged) where
  -- a side was resumed to its event, where this is the event of all sides
  pub record IsResumed : Type 0 where
    pub table : d'.table ≡ d.table
    pub frame : d'.frame ≡ frame_after d.frame all
    pub host : d'.host ≡ host_behind b kind d.row limit d.host
    pub breaks : d'.row.breaks ≡ d.row.breaks
    pub stands_at : d'.row.stands_at ≡ stood d.row.kept d.row.stands_at (event_of_it b kind limit d)
    pub words : d'.row.step_words.items ≡ words_left d.row (event_of_it b kind limit d)
    pub stay : d'.row.words_stay ≡ d.row.words_stay
    pub kept : events_in d'.table d'.row.kept ≡ keeps all (event_in d.table (event_of_it b kind limit d))
    pub own : (d'.row.kept ≡ None) ⊎ (d'.row.kept ≡ Some (event_of_it b kind limit d))

  -- The machine session's resume has this event and output, and the side after it stands for that one's. Where a side ran out of turns the
  -- resume may go on.
  pub record IsMeant (w : SideRun) : Type 0 where
    pub event : event_in d.table (event_of_it b kind limit d) ≡ w.event
    pub output : its_output b kind d.row limit d.host ≡ w.output
    pub stands : StandsFor d' (side_after all w)
    pub goes_on : all ≡ OutOfTurns → MayResume d' (side_after all w)

-- what a debugger knows of its machine is so, whose memory holds bytes
pub record IsFit (kind : MachineKind) (d : Debugged) : Type 0 where
  pub context : kind.context ≡ CONTEXT
  pub target : kind.target ≡ d.host.machine.target
  pub memory : IsMemory d.host.machine.memory

-- Over machines whose runs keep their target and their text, a resume of a side is that of the machine session.
abbrev pub ResumesAreMeant : Type 0
ResumesAreMeant =
    (b : Behaviour) (kind : MachineKind) (limit : ℕ) (all : SideEvent) (d d' : Debugged) (a : SideState) → RunsAreSteady b → IsFit kind d
    → StandsFor d a → MayResume d a → IsResumed b kind limit all d d' → IsMeant b kind limit all d d' (resume_side b limit a)

-- its nub takes the resume
abbrev pub TheyMayRun : Type 0
TheyMayRun = (d : Debugged) (a : SideState) → StandsFor d a → MayRun d.row.kept d.host
