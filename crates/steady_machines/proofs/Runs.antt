-- Runs, and all that is done to a machine.
use Rattle.std.proofs.Common.{None, ◌≡◌, ◌∙◌, refl, ap, ℕ, zero, suc, nat_eq, nat_le, Bool, true, false, if◌then◌else◌, Result, Ok, Err}
use Rattle.ldb_words.specs.declared.event.Event.{Event}
use Rattle.ldb_words.specs.declared.event.Event.TheVariants as event
use Rattle.ldb_words.specs.declared.event.Outside.{Outside}
use Rattle.machine_state.specs.declared.target.Cause.TheVariants as cause
use Rattle.machine_state.specs.declared.layout.TheConstants.{SPARC}
use Rattle.machine_state.specs.Regions.{Regions, write_of}
use Rattle.machine_state.specs.State.{MachineState, Behaviour, order_of, order_of_target, with_memory, with_input, given_input}
use Rattle.machine_state.specs.Runs.{Turn, Goes, Ends, Ran, requested, answered, turn_by, met, run_of}
use Rattle.nub_wire.specs.Fits.{Reached, begins, stepped, saved, restored, taken, stored, given}
use Rattle.mips_isa.specs.Loaded.{mips_behaviour}
use Rattle.sparc_isa.specs.Loaded.{sparc_behaviour}
use Rattle.targets.specs.Targets.{machine_behaviour}
use Rattle.steady_machines.specs.Steady.{Steady, Steadies, KeepsOrders, RunsAreSteady}
use Rattle.steady_machines.proofs.Steps.{same, onward}
use Rattle.steady_machines.proofs.Mips.{mips_steady}
use Rattle.steady_machines.proofs.Sparc.{sparc_steady}

-- ---- both targets

by : (b : Bool) → Steadies (if b then sparc_behaviour else mips_behaviour)
by true = sparc_steady
by false = mips_steady

machines : Steadies machine_behaviour
machines = record {
  next = λ (m : MachineState). (by (nat_eq m.target SPARC)).next m;
  saved = λ (m : MachineState). (by (nat_eq m.target SPARC)).saved m;
  restored = λ (m : MachineState). (by (nat_eq m.target SPARC)).restored m;
}

-- ---- the order of bytes

stored_target : (x : Result Regions Outside) (m : MachineState) → (with_memory x m).1.target ≡ m.target
stored_target (Ok r) m = refl
stored_target (Err e) m = refl

either_target : (b : Bool) (x y : Bool × MachineState) (t : ℕ) → x.1.target ≡ t → y.1.target ≡ t → (if b then x else y).1.target ≡ t
either_target true x y t h k = h
either_target false x y t h k = k

given_target : (bytes : _) (m : MachineState) → (given_input bytes m).1.target ≡ m.target
given_target bytes m = either_target (nat_le _ _) (true, with_input bytes m) (false, m) m.target refl refl

reached_target : (m n : MachineState) → Reached machine_behaviour m n → n.target ≡ m.target
reached_target m n begins = refl
reached_target m n (stepped {n = k} h) = (machines.next k).target ∙ reached_target m k h
reached_target m n (saved {n = k} h) = (machines.saved k).target ∙ reached_target m k h
reached_target m n (restored {n = k} h) = (machines.restored k).target ∙ reached_target m k h
reached_target m n (taken {n = k} h) = reached_target m k h
reached_target m n (stored {n = k} at width value w h) = stored_target (write_of (order_of k) k.memory at width value) k ∙ reached_target m k h
reached_target m n (given {n = k} bytes b h) = given_target bytes k ∙ reached_target m k h

pub order_kept : KeepsOrders machine_behaviour
order_kept m n h = ap order_of_target (reached_target m n h)

-- ---- runs

abbrev SteadyTurn : MachineState → Turn → Type 0
SteadyTurn m (Goes byte n) = Steady m n
SteadyTurn m (Ends c n) = Steady m n

either_turn : (m : MachineState) (b : Bool) (x y : Turn) → SteadyTurn m x → SteadyTurn m y → SteadyTurn m (if b then x else y)
either_turn m true x y h k = h
either_turn m false x y h k = k

taken_steady : {m n : MachineState} → Steady m n → Steady m (record n { put = None })
taken_steady h = record { target = h.target; text = h.text }

requested_steady : (b : Behaviour) (number : ℕ) (m n : MachineState) → Steady m n → SteadyTurn m (requested b number n)
requested_steady b number m n h =
    either_turn m (nat_eq number 2) (Goes n.put (record n { put = None })) _ (taken_steady h)
    (either_turn m (nat_eq number 3) (Ends (cause.Exit (b.argument n)) n) _ h
    (either_turn m (nat_eq number 4) (Ends cause.Pause n) _ h (either_turn m (nat_eq number 5) (Ends cause.Stack n) (Goes None n) h h)))

answered_steady : (b : Behaviour) (m : MachineState) (e : Event) (n : MachineState) → Steady m n → SteadyTurn m (answered b (e, n))
answered_steady b m event.Went n h = h
answered_steady b m event.Break n h = h
answered_steady b m (event.Request number) n h = requested_steady b number m n h
answered_steady b m (event.Fault kind) n h = h

turn_steady : (b : Behaviour) → Steadies b → (m : MachineState) → SteadyTurn m (turn_by b m)
unfolding turn_by
turn_steady b s m = answered_steady b m (b.next m).0 (b.next m).1 (s.next m)

met_steady : (more : MachineState → Ran) (m : MachineState) (t : Turn) → ((n : MachineState) → Steady n (more n).machine) → SteadyTurn m t → Steady m (met more t).machine
met_steady more m (Goes byte n) goes h = onward h (goes n)
met_steady more m (Ends c n) goes h = h

run_steady : (b : Behaviour) → Steadies b → (turns : ℕ) (m : MachineState) → Steady m (run_of b turns m).machine
unfolding run_of
run_steady b s zero m = same m
run_steady b s (suc n) m = met_steady (run_of b n) m (turn_by b m) (run_steady b s n) (turn_steady b s m)

pub runs_steady : RunsAreSteady machine_behaviour
runs_steady turns m =
    onward (machines.restored m)
    (onward (run_steady machine_behaviour machines turns (machine_behaviour.restored m)) (machines.saved (run_of machine_behaviour turns (machine_behaviour.restored m)).machine))
