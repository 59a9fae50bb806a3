-- How a session goes through the run of its program: with assignments at its stops.
use Rattle.std.specs.Prelude.{◌≡◌, ◌⊎◌, ℕ, List, [], ◌∷◌, Option, None}
use Rattle.runs.specs.Runs.{Moment, Reached, after}
use Rattle.c_tree.specs.declared.rows.Program.{Program}
use Rattle.c_store.specs.Assigned.{History}
use Rattle.c_source.specs.Control.{State}
use Rattle.c_source.specs.Source.{step}
use Rattle.c_source.specs.Begin.{begin, acted}
use Rattle.c_session.specs.declared.command.Command.{Command}
use Rattle.c_session.specs.Commands.{Mode, Fresh, Stopped, Running, Ended, Positions, One, Both, FirstAlone, SecondAlone, Sides, answer}
use Rattle.c_reading.specs.Readings.{Reading}
use Rattle.c_session.specs.Allowed.{Lines, Standing, AnswerReplies, MemoryReplies}

module _ (p : Program) (sides : Sides) where
  -- these lines were answered, whatever their texts were read as, and the session went on
  abbrev pub GoesOn : Standing → List (Option Command) → Standing → Type 0
  GoesOn st [] last = last ≡ st
  GoesOn st (c ∷ cs) last =
      (reply : Lines) × (next : Standing) × (MemoryReplies st c reply next ⊎ ((x : Reading) × AnswerReplies p st (answer p sides st.session x c) reply next)) × GoesOn next cs last

module _ (p : Program) (input : List ℕ) (h : History) where
  -- the run on this input, with these assignments at its stops, comes to this state and goes on there
  abbrev pub IsReached : State → Type 0
  IsReached s = (n : ℕ) × (m : Moment State) × (after State (step p) (acted h) n 0 (begin p input) ≡ Reached m) × (m.exit ≡ None) × (m.state ≡ s)

  -- where all sides stand the run comes to
  abbrev pub AreReached : Positions → Type 0
  AreReached (One s) = IsReached s
  AreReached (Both s t) = IsReached s × IsReached t
  AreReached (FirstAlone s) = IsReached s
  AreReached (SecondAlone t) = IsReached t

  abbrev pub IsModeReached : Mode → Type 0
  IsModeReached (Fresh s) = IsReached s
  IsModeReached (Stopped s) = IsReached s
  IsModeReached (Running how ps) = AreReached ps
  IsModeReached Ended = Unit {0}
