-- Calls of a memory that an operator made.
use Rattle.std.proofs.Common.{◌≢◌, refl, ℕ, true, false, List, Option, Some, None, Result, Ok, Err}
use Rattle.ps_step.specs.declared.fault.PsFault.{PsFault}
use Rattle.ps_step.specs.declared.fault.PsFault.TheVariants.{Error, Spent, Link, NoMemory}
use Rattle.ps_run.specs.Runs.{Answer}
use Rattle.abs_mem.specs.declared.memory.MemFault.{MemFault}
use Rattle.abs_mem.specs.declared.memory.MemFault.TheVariants.{Outside, LinkFault, BadReply}
use Rattle.abs_mem.specs.declared.walk.WalkFault.{WalkFault}
use Rattle.abs_mem.specs.declared.walk.WalkFault.TheVariants as fault
use Rattle.abs_mem.specs.Meaning.{Led}
use Rattle.abs_mem.specs.Walking.{LedWalk}
use Rattle.ps_places.specs.declared.access.Trouble.{Trouble}
use Rattle.ps_places.specs.declared.access.Trouble.TheVariants.{Ps, Broken as Failed}
use Rattle.ps_places.specs.Accesses.{LedAct}
use Rattle.ps_ops.specs.declared.halt.Halt.{Halt}
use Rattle.ps_ops.specs.declared.halt.Halt.TheVariants.{Raised, Wanting, Broken, Needs}
use Rattle.ps_ops.specs.Halts.{halted, left, left_over, LedStop, LedHalt}
use Rattle.ps_ops.specs.Acting.{LedKept}

abbrev is_fault : PsFault → Answer
is_fault f = Err f

module _ {M : Type 0} (leads : M → Option (List ℕ) → M → Type 0) where
  -- a walk that had no answer
  pub led_halted : (A : Type 0) (a b : M) (x : WalkFault) → LedWalk {A = A} leads a (Err x) b → LedStop leads a (halted x) b
  led_halted A a b (fault.Memory (Outside p)) h = h
  led_halted A a b (fault.Memory LinkFault) h = tt
  led_halted A a b (fault.Memory (BadReply frame)) h = h
  led_halted A a b (fault.Shape true) h = h
  led_halted A a b (fault.Shape false) h = h
  led_halted A a b (fault.Unforced u) h = h

  -- an operator on the state alone
  pub led_left : (a b : M) (r : Answer) → leads a None b → LedHalt leads a (left r) b
  led_left a b (Ok x) h = h
  led_left a b (Err (Error e)) h = h
  led_left a b (Err Spent) h = h
  led_left a b (Err Link) h = h
  led_left a b (Err NoMemory) h = h

  -- a unit's run failed
  pub led_stopped : (a b : M) (f : PsFault) (kept : Option MemFault) → is_fault f ≢ Err Link → leads a None b → LedKept leads a (Err f) b kept
  led_stopped a b (Error e) kept other h = h
  led_stopped a b Spent kept other h = h
  led_stopped a b NoMemory kept other h = h
  led_stopped a b Link kept other h = absurd (other refl)

  module _ (go : (a b c : M) (o : Option (List ℕ)) → leads a None b → leads b o c → leads a o c) (a b c : M) (first : leads a None b) where
    led_fault : (f : MemFault) → Led {A = Unit {0}} leads b (Err f) c → Led {A = Unit {0}} leads a (Err f) c
    led_fault (Outside p) h = go a b c None first h
    led_fault LinkFault h = tt
    led_fault (BadReply frame) h = go a b c (Some frame.items) first h

    -- calls behind calls
    pub led_stop : (x : Halt) → LedStop leads b x c → LedStop leads a x c
    led_stop (Raised e) h = go a b c None first h
    led_stop Wanting h = go a b c None first h
    led_stop (Needs u) h = go a b c None first h
    led_stop (Broken f) h = led_fault f h

    pub led_on : {A : Type 0} (r : Result A Halt) → LedHalt leads b r c → LedHalt leads a r c
    led_on (Ok x) h = go a b c None first h
    led_on (Err x) h = led_stop x h

-- an operator over a memory that stands on another
pub led_over : {M N : Type 0} (leads : M → Option (List ℕ) → M → Type 0) (go : (a b c : M) (o : Option (List ℕ)) → leads a None b → leads b o c → leads a o c) (a : M) (b c : N) (below : N → M) (r : Result (Unit {0}) Trouble)
    → leads a None (below b) → LedAct (λ x o y. leads (below x) o (below y)) b r c → LedHalt leads a (left_over r) (below c)
led_over leads go a b c below (Ok x) first h = go a (below b) (below c) None first h
led_over leads go a b c below (Err (Ps (Error e))) first h = go a (below b) (below c) None first h
led_over leads go a b c below (Err (Ps Spent)) first h = go a (below b) (below c) None first h
led_over leads go a b c below (Err (Ps Link)) first h = go a (below b) (below c) None first h
led_over leads go a b c below (Err (Ps NoMemory)) first h = go a (below b) (below c) None first h
led_over leads go a b c below (Err (Failed (Outside p))) first h = go a (below b) (below c) None first h
led_over leads go a b c below (Err (Failed LinkFault)) first h = tt
led_over leads go a b c below (Err (Failed (BadReply frame))) first h = go a (below b) (below c) (Some frame.items) first h
