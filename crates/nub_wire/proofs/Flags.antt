-- A run doesn't change whether its nub was killed, nor whether bytes began no frame.
use Rattle.std.proofs.Common.{◌≡◌, refl, ℕ, zero, suc, nat_eq, Bool, true, false, if◌then◌else◌, length, Option, Some, None}
use Rattle.ldb_words.specs.declared.event.Event.{Event}
use Rattle.ldb_words.specs.declared.event.Event.TheVariants as event
use Rattle.machine_state.specs.State.{MachineState, Behaviour}
use Rattle.machine_state.specs.declared.target.Cause.{Cause}
use Rattle.machine_state.specs.declared.target.Cause.TheVariants as cause
use Rattle.nub_wire.specs.declared.message.Ending.{Ending}
use Rattle.nub_wire.specs.Nub.{NubState, Host, Replied, host, due, due_of, settle, settled, concluded, requested, acted, advance, advanced, turned, running, or_then, if_open, turn_of, told_ending, told_output}

-- these flags
pub record Flags (killed blocked : Bool) (nub : NubState) : Type 0 where
  pub killed_is : nub.killed ≡ killed
  pub blocked_is : nub.blocked ≡ blocked

module _ (b : Behaviour) (k l : Bool) where
  abbrev Has : Host → Type 0
  Has h = Flags k l h.nub

  same : (nub nub' : NubState) → nub'.killed ≡ nub.killed → nub'.blocked ≡ nub.blocked → Flags k l nub → Flags k l nub'
  same nub nub' e f x = record { killed_is = rw e x.killed_is; blocked_is = rw f x.blocked_is }

  either : (t : Bool) (x y : Host) → Has x → Has y → Has (if t then x else y)
  either true x y p q = p
  either false x y p q = q

  concluded_has : (c : Cause) (h : Host) → Has h → Has (concluded b c h)
  unfolding concluded
  concluded_has c h x = same h.nub _ refl refl x

  settle_has : (e : Option Ending) (left : Option ℕ) (h : Host) → Has h → Has (settle b e left h)
  settle_has None (Some zero) h x = concluded_has cause.Turns h x
  settle_has None (Some (suc n)) h x = x
  settle_has None None h x = x
  settle_has (Some e) left h x = x

  ending_has : (t : Bool) (e : Ending) (h : Host) → Has h → Has (if t then told_ending e h else told_output h).1
  ending_has true e h x = same h.nub _ refl refl x
  ending_has false e h x = same h.nub _ refl refl x

  output_has : (t : Bool) (h : Host) → Has h → Has (if t then told_output h else (None, h)).1
  output_has true h x = same h.nub _ refl refl x
  output_has false h x = x

  due_any : (e : Option Ending) (h : Host) → Has h → Has (due e h).1
  due_any None h x = output_has (nat_eq (length h.nub.output) 1024) h x
  due_any (Some e) h x = ending_has (nat_eq (length h.nub.output) 0) e h x

  due_has : (h : Host) → Has h → Has (due_of b h).1
  unfolding due_of settled
  due_has h x = let s = settle b h.nub.ended h.nub.left h in due_any s.nub.ended s (settle_has h.nub.ended h.nub.left h x)

  requested_has : (n : ℕ) (h : Host) → Has h → Has (requested b n h)
  unfolding requested
  requested_has n h x =
      either (nat_eq n 2) _ _ (same h.nub _ refl refl x)
      (either (nat_eq n 3) _ _ (concluded_has (cause.Exit (b.argument h.machine)) h x)
      (either (nat_eq n 4) _ _ (concluded_has cause.Pause h x)
      (either (nat_eq n 5) _ h (concluded_has cause.Stack h x) x)))

  turned_has : (n : ℕ) (nub : NubState) (m : MachineState) → Flags k l nub → Has (turned n nub m)
  turned_has n nub m x = same nub _ refl refl x

  acted_has : (n : ℕ) (nub : NubState) (e : Event) (m : MachineState) → Flags k l nub → Has (acted b n nub (e, m))
  unfolding acted
  acted_has n nub event.Went m x = turned_has n nub m x
  acted_has n nub event.Break m x = concluded_has cause.Break (host nub m) x
  acted_has n nub (event.Request number) m x = requested_has number (turned n nub m) (turned_has n nub m x)
  acted_has n nub (event.Fault kind) m x = concluded_has (cause.Fault kind) (host nub m) x

  advance_has : (left : Option ℕ) (h : Host) → Has h → Has (advance b left h)
  advance_has None h x = x
  advance_has (Some zero) h x = x
  advance_has (Some (suc n)) h x = acted_has n h.nub (b.next h.machine).0 (b.next h.machine).1 x

  advanced_has : (h : Host) → Has h → Has (advanced b h)
  unfolding advanced
  advanced_has h x = advance_has h.nub.left h x

  then_has : (p : Replied) (go : Host → Replied) → Has p.1 → ((h : Host) → Has h → Has (go h).1) → Has (or_then p go).1
  then_has (Some m, h) go x more = x
  then_has (None, h) go x more = more h x

  run_has : (n : ℕ) (h : Host) → Has h → Has (running b n h).1
  unfolding running
  run_has zero h x = due_has h x
  run_has (suc n) h x = then_has (due_of b h) (λ g. running b n (advanced b g)) (due_has h x) (λ g y. run_has n (advanced b g) (advanced_has g y))

  open_has : (left : Option ℕ) (x y : Replied) → Has x.1 → Has y.1 → Has (if_open left x y).1
  open_has None x y p q = p
  open_has (Some n) x y p q = q

  pub turn_has : (n : ℕ) (h : Host) → Has h → Has (turn_of b n h).1
  unfolding turn_of
  turn_has n h x = open_has h.nub.left (None, h) (running b n h) x (run_has n h x)
