-- Runs of a machine with all that they put, up to the cause of their end.
use Rattle.std.specs.Prelude.{ℕ, zero, suc, nat_eq, if◌then◌else◌, List, [], ◌++◌, option_to_list, Option, None}
use Rattle.ldb_words.specs.declared.event.Event.{Event}
use Rattle.ldb_words.specs.declared.event.Event.TheVariants as event
use Rattle.machine_state.specs.State.{MachineState, Behaviour}
use Rattle.machine_state.specs.declared.target.Cause.{Cause}
use Rattle.machine_state.specs.declared.target.Cause.TheVariants as cause

-- What one step comes to in a run: the run goes on, with the byte that was put if one was, or it ends. A request that
-- ends a run is met by the step that completes it.
pub data Turn : Type 0 where
  Goes : Option ℕ → MachineState → Turn
  Ends : Cause → MachineState → Turn

-- getchar has done its work in the step; the byte of putchar is taken
abbrev pub requested : Behaviour → ℕ → MachineState → Turn
requested b n m =
    if nat_eq n 2 then Goes m.put (record m { put = None })
    else if nat_eq n 3 then Ends (cause.Exit (b.argument m)) m
    else if nat_eq n 4 then Ends cause.Pause m
    else if nat_eq n 5 then Ends cause.Stack m
    else Goes None m

abbrev pub answered : Behaviour → Event × MachineState → Turn
answered b (event.Went, m) = Goes None m
answered b (event.Break, m) = Ends cause.Break m
answered b (event.Request n, m) = requested b n m
answered b (event.Fault kind, m) = Ends (cause.Fault kind) m

unfoldable pub turn_by : Behaviour → MachineState → Turn
turn_by b m = answered b (b.next m)

-- why a run ended, what it put on the way, and the machine after it, whose context block is not saved
pub record Ran : Type 0 where
  pub cause : Cause
  pub output : List ℕ
  pub machine : MachineState

abbrev pub ran : Cause → List ℕ → MachineState → Ran
ran c output m = record { cause = c; output = output; machine = m }

-- a run before which some bytes were put
abbrev pub behind : List ℕ → Ran → Ran
behind bytes r = record r { output = bytes ++ r.output }

abbrev pub met : (MachineState → Ran) → Turn → Ran
met more (Goes byte m) = behind (option_to_list byte) (more m)
met more (Ends c m) = ran c [] m

-- at most so many steps that complete; where they are used up the run ends
unfoldable pub run_of : Behaviour → (turns : ℕ) → MachineState → Ran
run_of b zero m = ran cause.Turns [] m
run_of b (suc n) m = met (run_of b n) (turn_by b m)
