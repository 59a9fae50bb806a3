-- What a resume tells: all that the run of its machine puts, and then how the run ended.
use Rattle.std.specs.Prelude.{◌≡◌, ℕ, if◌then◌else◌, List, [], ◌∷◌, ◌++◌, None, Some}
use Rattle.machine_state.specs.State.{MachineState, Behaviour}
use Rattle.machine_state.specs.Runs.{Ran, run_of}
use Rattle.nub_wire.specs.declared.message.Msg.{Msg}
use Rattle.nub_wire.specs.declared.message.Msg.TheVariants as msg
use Rattle.nub_wire.specs.declared.message.Ending.{Ending}
use Rattle.nub_wire.specs.Endings.{ending_of, reply_of, is_final}
use Rattle.nub_wire.specs.Nub.{NubState, Host, host, pc_of, turn_of}

-- how a run ends for a debugger: the windows are flushed and the context block is saved
pub record Whole : Type 0 where
  pub output : List ℕ
  pub ending : Ending
  pub machine : MachineState

abbrev pub whole : List ℕ → Ending → MachineState → Whole
whole output e m = record { output = output; ending = e; machine = m }

-- a run, behind some output
abbrev pub finish : Behaviour → List ℕ → Ran → Whole
finish b output r = let s = b.saved r.machine in whole (output ++ r.output) (ending_of r.cause s.0 (pc_of s.1)) s.1

-- the messages of an open resume one by one, however its turns are divided, up to the one that ends it
pub data Tells (b : Behaviour) : Host → List Msg → Host → Type 0 where
  tells_end : {h t : Host} (n : ℕ) (m : Msg) → turn_of b n h ≡ (Some m, t) → t.nub.left ≡ None → Tells b h (m ∷ []) t
  tells_more : {h t u : Host} (n left : ℕ) (m : Msg) (ms : List Msg) → turn_of b n h ≡ (Some m, t) → t.nub.left ≡ Some left → Tells b t ms u → Tells b h (m ∷ ms) u

-- messages of output, and then an ending
pub data AreTold : List Msg → List ℕ → Ending → Type 0 where
  the_end : (e : Ending) → AreTold (reply_of e ∷ []) [] e
  some_output : {ms : List Msg} {rest : List ℕ} {e : Ending} (bytes : List ℕ) → AreTold ms rest e → AreTold (msg.Output bytes ∷ ms) (bytes ++ rest) e

-- the nub behind a resume: nothing is open or gathered, and an end for good is kept
abbrev pub shut_by : Ending → NubState → NubState
shut_by e nub = record nub { ended = if is_final e then Some e else None; left = None; output = [] }

-- An open resume that has not ended tells its run.
abbrev pub ResumesAreRuns : Behaviour → Type 0
ResumesAreRuns b = (turns : ℕ) (h t : Host) (ms : List Msg) → h.nub.left ≡ Some turns → h.nub.ended ≡ None → Tells b h ms t
    → let w = finish b h.nub.output (run_of b turns h.machine) in AreTold ms w.output w.ending × (t ≡ host (shut_by w.ending h.nub) w.machine)

-- It tells it whole, whatever its turns.
abbrev pub ResumesEnd : Behaviour → Type 0
ResumesEnd b = (turns : ℕ) (h : Host) → h.nub.left ≡ Some turns → (ms : List Msg) × (t : Host) × Tells b h ms t

-- ---- from a nub for which no resume is open

-- the run of a resume, which begins with the restore of the context block
abbrev pub run_from : Behaviour → ℕ → MachineState → Whole
run_from b turns m = finish b [] (run_of b turns (b.restored m))

-- the nub and machine behind it
abbrev pub after_run : Whole → Host → Host
after_run w h = host (shut_by w.ending h.nub) w.machine
