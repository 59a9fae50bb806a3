-- What a command that runs PostScript leaves of the memory of its target, part after part.
use Rattle.std.proofs.Common.{◌∙◌, refl, ℕ, List, Option, Some, None, Result, Ok, Err}
use Rattle.ps_step.specs.declared.fault.PsFault.{PsFault}
use Rattle.ps_step.specs.declared.fault.PsFault.TheVariants as ps
use Rattle.ps_step.specs.declared.machine.PsCore.{PsCore}
use Rattle.ps_step.specs.State.{Made}
use Rattle.ps_step.specs.Effects.{Does}
use Rattle.frame_bytes.specs.Bytes.{Bytes}
use Rattle.abs_mem.specs.Meaning.{Seen}
use Rattle.abs_mem.specs.declared.memory.MemFault.TheVariants.{Outside, LinkFault, BadReply}
use Rattle.abs_mem.proofs.Walks.{rose_then}
use Rattle.dialect_model.specs.TableUse.{Eval}
use Rattle.table_asks.specs.declared.fault.Cause.{Cause}
use Rattle.table_asks.specs.declared.fault.AskFault.{AskFault}
use Rattle.table_asks.specs.declared.fault.AskFault.TheVariants.{Refused, Raised, Spent, NoMemory, Broken}
use Rattle.table_asks.specs.declared.inquiry.Inquiry.{Inquiry}
use Rattle.table_asks.specs.Faults.{IsOwn, IsUnbroken, fault_of_run}
use Rattle.table_asks.specs.Asking.{ComesOver, LedAsk}
use Rattle.table_asks.specs.Running.{IsLed, RanOver}

module _ {W R : Type 0} (seen : W → Seen R) (leads : W → Option (List ℕ) → W → Type 0) (a : W) where
  pub ran_unbroken : (A : Type 0) (f : AskFault) → IsUnbroken f → leads a None a → RanOver seen leads {A = A} a (Err f) a
  ran_unbroken A (Raised e) own h = (refl, h)
  ran_unbroken A Spent own h = (refl, h)
  ran_unbroken A NoMemory own h = (refl, h)
  ran_unbroken A (Refused cause) own h = (refl, h)
  ran_unbroken A (Broken x) own h = absurd own

  pub ran_own : (A : Type 0) (f : AskFault) → IsOwn f → leads a None a → RanOver seen leads {A = A} a (Err f) a
  ran_own A (Raised e) own h = (refl, h)
  ran_own A Spent own h = (refl, h)
  ran_own A NoMemory own h = (refl, h)
  ran_own A (Refused cause) own h = absurd own
  ran_own A (Broken x) own h = absurd own

  pub ran_as : (A B : Type 0) (f : AskFault) (b : W) → RanOver seen leads {A = A} a (Err f) b → RanOver seen leads {A = B} a (Err f) b
  ran_as A B (Refused cause) b h = h
  ran_as A B (Raised e) b h = h
  ran_as A B Spent b h = h
  ran_as A B NoMemory b h = h
  ran_as A B (Broken LinkFault) b h = h
  ran_as A B (Broken (BadReply frame)) b h = h
  ran_as A B (Broken (Outside p)) b h = h

  -- an object that isn't put on top
  pub ran_pushed : (A : Type 0) (f : PsFault) (old new : PsCore) (made : Made) → Does (Err f) old new made → leads a None a → RanOver seen leads {A = A} a (Err (fault_of_run f None)) a
  ran_pushed A (ps.Error e) old new made h k = (refl, k)
  ran_pushed A ps.NoMemory old new made h k = (refl, k)
  ran_pushed A ps.Spent old new made h k = absurd h
  ran_pushed A ps.Link old new made h k = absurd h

  module _ (b c : W) (go : (o : Option (List ℕ)) → leads a None b → leads b o c → leads a o c) where
    pub led_further : (o : Option (List ℕ)) → IsLed seen leads a None b → IsLed seen leads b o c → IsLed seen leads a o c
    led_further o h k = (k.0 ∙ h.0, go o h.1 k.1)

    -- a run behind what led there
    pub ran_then : {A : Type 0} (r : Result A AskFault) → IsLed seen leads a None b → RanOver seen leads b r c → RanOver seen leads a r c
    ran_then (Ok x) h k = led_further None h k
    ran_then (Err (Refused cause)) h k = led_further None h k
    ran_then (Err (Raised e)) h k = led_further None h k
    ran_then (Err Spent) h k = led_further None h k
    ran_then (Err NoMemory) h k = led_further None h k
    ran_then (Err (Broken LinkFault)) h k = rose_then (seen a).faults (seen b).faults (seen c).faults h.0 k
    ran_then (Err (Broken (BadReply frame))) h k = led_further (Some frame.items) h k
    ran_then (Err (Broken (Outside p))) h k = absurd k

  -- a query of the memory
  module _ {A : Type 0} (m : Bytes → Eval Cause A) (old new : Inquiry) (b : W) where
    pub asked_led : (x : A) → ComesOver m old (seen a) (Ok x) new (seen b) → LedAsk {A = A} leads a (Ok x) b → IsLed seen leads a None b
    asked_led x h k = (h.0.faults, k)

    pub asked_ran : (B : Type 0) (f : AskFault) → ComesOver m old (seen a) (Err f) new (seen b) → LedAsk {A = A} leads a (Err f) b → RanOver seen leads {A = B} a (Err f) b
    asked_ran B (Refused cause) h k = (h.0.faults, k)
    asked_ran B (Raised e) h k = (h.0.faults, k)
    asked_ran B Spent h k = (h.0.faults, k)
    asked_ran B NoMemory h k = (h.0.faults, k)
    asked_ran B (Broken LinkFault) h k = h
    asked_ran B (Broken (BadReply frame)) h k = (h.faults, k)
    asked_ran B (Broken (Outside p)) h k = absurd h
