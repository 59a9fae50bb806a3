-- A machine whose output is gathered, as a step function of runs: it passes a stopping point where its pc is the point's address.
use Rattle.std.specs.Prelude.{ℕ, suc, List, [], ◌∷◌, ◌++◌, Bool, Option, Some, None, nat_eq, option_to_list, if◌then◌else◌}
use Rattle.ldb_words.specs.declared.event.Event.{Event}
use Rattle.ldb_words.specs.declared.event.Event.TheVariants as event
use Rattle.ldb_words.specs.Word.{signed, sum_of}
use Rattle.machine_state.specs.Regions.{write_of}
use Rattle.machine_state.specs.State.{MachineState, Behaviour, order_of, with_memory, no_facts}
use Rattle.runs.specs.Runs.{Next, Goes, Passes, Exits, Undefined, IllTyped, Actions, Outcome, after}

pub record Watched : Type 0 where
  pub machine : MachineState
  pub output : List ℕ

abbrev pub watch : MachineState → List ℕ → Watched
watch m output = record { machine = m; output = output }

module _ (b : Behaviour) (point_at : ℕ → Option ℕ) where
  -- getchar, putchar and exit; a run that comes to anything else has no successor
  abbrev requested : ℕ → List ℕ → MachineState → Next Watched
  requested n output m =
      if nat_eq n 1 then Goes 1 (watch m output) else
      if nat_eq n 2 then Goes 1 (watch (record m { put = None }) (output ++ option_to_list m.put)) else
      if nat_eq n 3 then Exits (signed (b.argument m)) 1 (watch m output) else
      Undefined IllTyped

  abbrev went : Option ℕ → List ℕ → MachineState → Next Watched
  went None output m = Goes 1 (watch m output)
  went (Some q) output m = Passes q 1 (watch m output)

  -- the next word, without what earlier steps left
  abbrev pub behind : MachineState → MachineState
  behind m = record m { pc = sum_of m.pc 4; next_pc = sum_of m.pc 8; facts = no_facts }

  -- a break at a point is one that a debugger put there: the run goes on behind it
  abbrev broke : Option ℕ → List ℕ → MachineState → Next Watched
  broke None output m = Undefined IllTyped
  broke (Some q) output m = Passes q 1 (watch (behind m) output)

  abbrev pub answered : Option ℕ → List ℕ → Event × MachineState → Next Watched
  answered p output (event.Went, m) = went p output m
  answered p output (event.Request n, m) = requested n output m
  answered p output (event.Break, m) = broke p output m
  answered p output (event.Fault kind, m) = Undefined IllTyped

  unfoldable pub next : Watched → Next Watched
  next w = answered (point_at w.machine.pc) w.output (b.next w.machine)

-- ---- what a debugger does at a stop

-- a number that is written in so many bytes at an address
pub record Change : Type 0 where
  pub at : ℕ
  pub width : ℕ
  pub value : ℕ

abbrev pub changed_one : Change → MachineState → MachineState
changed_one c m = (with_memory (write_of (order_of m) m.memory c.at c.width c.value) m).1

abbrev pub changed : List Change → MachineState → MachineState
changed [] m = m
changed (c ∷ cs) m = changed cs (changed_one c m)

-- the windows are flushed and the registers saved, numbers written, and the registers restored
unfoldable pub done_at : Behaviour → List Change → MachineState → MachineState
done_at b cs m = b.restored (changed cs (b.saved m).1)

abbrev pub on_machine : (MachineState → MachineState) → Watched → Watched
on_machine f w = record w { machine = f w.machine }

-- ---- a debugger beside a run

-- What a debugger does: after which numbers of completed steps the registers are saved and restored, which words at points it
-- writes then, and what it writes at each stop that it saves at, by the stop's number. A break that is passed counts as a step
-- here, though it takes no turn.
pub record Debugger : Type 0 where
  pub saves : (steps : ℕ) → Bool
  pub words : (steps : ℕ) → List Change
  pub stops : (number : ℕ) → List Change

-- a machine that is watched, with the number of its completed steps
pub record Led : Type 0 where
  pub watched : Watched
  pub steps : ℕ

abbrev pub led : Watched → ℕ → Led
led w n = record { watched = w; steps = n }

module _ (b : Behaviour) (point_at : ℕ → Option ℕ) (d : Debugger) where
  -- between two steps
  abbrev pub served : List Change → Led → Led
  served cs s = if d.saves s.steps then record s { watched = on_machine (done_at b (cs ++ d.words s.steps)) s.watched } else s

  -- what is done at a stop belongs to the run's actions
  abbrev pub led_on : ℕ → Next Watched → Next Led
  led_on n (Goes c w) = Goes c (served [] (led w (suc n)))
  led_on n (Passes q c w) = Passes q c (led w (suc n))
  led_on n (Exits v c w) = Exits v c (led w (suc n))
  led_on n (Undefined why) = Undefined why

  unfoldable pub led_next : Led → Next Led
  led_next s = led_on s.steps (next b point_at s.watched)

  abbrev pub at_stops : Actions Led
  at_stops i s = served (d.stops i) s

  -- where so many steps of a machine come to
  abbrev pub led_after : MachineState → ℕ → Outcome Led
  led_after m j = after Led led_next at_stops j 0 (served [] (led (watch m []) 0))
