-- A run over the memory of a target: how it stands with the link after it.
use Rattle.std.proofs.Common.{◌≡◌, ◌≢◌, ◌∙◌, refl, sym, ap, subst, ℕ, zero, suc, List, [], ◌∷◌, Option, Some, None, Result, Ok, Err}
use Rattle.ldb_edge.specs.Count.{Rose}
use Rattle.ps_store.specs.declared.object.PsObj.{PsObj}
use Rattle.ps_step.specs.declared.fault.PsError.{PsError}
use Rattle.ps_step.specs.declared.fault.PsFault.{PsFault}
use Rattle.ps_step.specs.declared.fault.PsFault.TheVariants as ps
use Rattle.ps_step.specs.declared.machine.PsCore.{PsCore}
use Rattle.ps_step.specs.declared.item.Item.TheVariants.{Object}
use Rattle.ps_step.specs.State.{Made, with_execution}
use Rattle.ps_step.specs.Effects.{Does as DoesStep}
use Rattle.ps_run.specs.Runs.{Answer, Runs, RunsObject, Settles, fault_with, spent, ended, failed, next, asked, broken}
use Rattle.ps_run.specs.Reaching.{RanShort}
use Rattle.frame_bytes.specs.Bytes.{Bytes}
use Rattle.abs_mem.specs.Meaning.{Seen, Same}
use Rattle.abs_mem.specs.declared.memory.MemFault.{MemFault}
use Rattle.abs_mem.specs.declared.memory.MemFault.TheVariants.{Outside, LinkFault, BadReply}
use Rattle.abs_mem.proofs.Walks.{rose_then}
use Rattle.ps_ops.specs.Acting.{KeepsFault, LedKept}
use Rattle.ps_ops.specs.Desk.{Desk}
use Rattle.ps_ops.specs.declared.dialect.Operators.{Operators}
use Rattle.told_runs.specs.Told.{desk, Does}
use Rattle.told_runs.proofs.Short.{short_quiet}
use Rattle.dialect_model.specs.TableUse.{Eval}
use Rattle.table_asks.specs.declared.fault.Cause.{Cause}
use Rattle.table_asks.specs.declared.fault.AskFault.{AskFault}
use Rattle.table_asks.specs.declared.fault.AskFault.TheVariants.{Refused, Raised, Spent, NoMemory, Broken}
use Rattle.table_asks.specs.declared.inquiry.Inquiry.{Inquiry}
use Rattle.table_asks.specs.Faults.{IsOwn, IsUnbroken, fault_of_run}
use Rattle.table_asks.specs.Asking.{ComesOver, LedAsk}
use Rattle.table_asks.specs.Running.{IsLed, RanOver}

abbrev pub fails : PsFault → Answer
fails f = Err f

module _ {W R : Type 0} (seen : W → Seen R) (leads : W → Option (List ℕ) → W → Type 0) where
  -- ---- one part after another

  pub led_on : (a b c : W) (o : Option (List ℕ)) → (leads a None b → leads b o c → leads a o c) → IsLed seen leads a None b → IsLed seen leads b o c → IsLed seen leads a o c
  led_on a b c o go h k = (k.0 ∙ h.0, go h.1 k.1)

  pub ran_on : {A : Type 0} (a b c : W) (r : Result A AskFault) → ((o : Option (List ℕ)) → leads a None b → leads b o c → leads a o c) → IsLed seen leads a None b → RanOver seen leads b r c → RanOver seen leads a r c
  ran_on a b c (Ok x) go h k = led_on a b c None (go None) h k
  ran_on a b c (Err (Refused cause)) go h k = led_on a b c None (go None) h k
  ran_on a b c (Err (Raised e)) go h k = led_on a b c None (go None) h k
  ran_on a b c (Err Spent) go h k = led_on a b c None (go None) h k
  ran_on a b c (Err NoMemory) go h k = led_on a b c None (go None) h k
  ran_on a b c (Err (Broken LinkFault)) go h k = rose_then (seen a).faults (seen b).faults (seen c).faults h.0 k
  ran_on a b c (Err (Broken (BadReply frame))) go h k = led_on a b c (Some frame.items) (go (Some frame.items)) h k
  ran_on a b c (Err (Broken (Outside p))) go h k = absurd k

  -- the same fault of another result
  pub ran_as : (A B : Type 0) (a b : W) (f : AskFault) → RanOver seen leads {A = A} a (Err f) b → RanOver seen leads {A = B} a (Err f) b
  ran_as A B a b (Refused cause) h = h
  ran_as A B a b (Raised e) h = h
  ran_as A B a b Spent h = h
  ran_as A B a b NoMemory h = h
  ran_as A B a b (Broken LinkFault) h = h
  ran_as A B a b (Broken (BadReply frame)) h = h
  ran_as A B a b (Broken (Outside p)) h = absurd h

  -- a part that runs nothing over the target
  pub ran_asked : {A : Type 0} (m : Bytes → Eval Cause A) (old new : Inquiry) (a b : W) (r : Result A AskFault) → ComesOver m old (seen a) r new (seen b) → LedAsk leads a r b → RanOver seen leads a r b
  ran_asked m old new a b (Ok x) h k = (h.0.faults, k)
  ran_asked m old new a b (Err (Refused cause)) h k = (h.0.faults, k)
  ran_asked m old new a b (Err (Raised e)) h k = (h.0.faults, k)
  ran_asked m old new a b (Err Spent) h k = (h.0.faults, k)
  ran_asked m old new a b (Err NoMemory) h k = (h.0.faults, k)
  ran_asked m old new a b (Err (Broken LinkFault)) h k = h
  ran_asked m old new a b (Err (Broken (BadReply frame))) h k = (h.faults, k)
  ran_asked m old new a b (Err (Broken (Outside p))) h k = absurd h

  -- a part that asks nothing of the target
  pub ran_unbroken : (A : Type 0) (a : W) (f : AskFault) → leads a None a → IsUnbroken f → RanOver seen leads {A = A} a (Err f) a
  ran_unbroken A a (Refused cause) h u = (refl, h)
  ran_unbroken A a (Raised e) h u = (refl, h)
  ran_unbroken A a Spent h u = (refl, h)
  ran_unbroken A a NoMemory h u = (refl, h)
  ran_unbroken A a (Broken x) h u = absurd u

  pub ran_own : (A : Type 0) (a : W) (f : AskFault) → leads a None a → IsOwn f → RanOver seen leads {A = A} a (Err f) a
  ran_own A a (Refused cause) h u = absurd u
  ran_own A a (Raised e) h u = (refl, h)
  ran_own A a Spent h u = (refl, h)
  ran_own A a NoMemory h u = (refl, h)
  ran_own A a (Broken x) h u = absurd u

  pub ran_made : (A : Type 0) (a : W) (f : PsFault) (old new : PsCore) (made : Made) → leads a None a → DoesStep (Err f) old new made → RanOver seen leads {A = A} a (Err (fault_of_run f None)) a
  ran_made A a (ps.Error e) old new made h d = (refl, h)
  ran_made A a ps.NoMemory old new made h d = (refl, h)
  ran_made A a ps.Spent old new made h d = absurd d
  ran_made A a ps.Link old new made h d = absurd d

  -- ---- operators, and a run

  abbrev target : Operators W → W
  target o = o.memory.below.below.below

  -- by the fault that is kept
  abbrev ByFault : W → Option MemFault → W → Type 0
  ByFault a (Some LinkFault) b = Rose (seen a).faults (seen b).faults
  ByFault a (Some (BadReply frame)) b = IsLed seen leads a (Some frame.items) b
  ByFault a (Some (Outside p)) b = ⊥
  ByFault a None b = ⊥

  abbrev Ended : Operators W → Answer → Operators W → Type 0
  Ended o (Ok x) o' = IsLed seen leads (target o) None (target o')
  Ended o (Err (ps.Error e)) o' = IsLed seen leads (target o) None (target o')
  Ended o (Err ps.Spent) o' = IsLed seen leads (target o) None (target o')
  Ended o (Err ps.NoMemory) o' = IsLed seen leads (target o) None (target o')
  Ended o (Err ps.Link) o' = ByFault (target o) o'.fault (target o')

  by_fault : (k : Desk) (a b : W) (x : Option MemFault) → KeepsFault x k (seen a) (seen b) → LedKept leads a (Err ps.Link) b x → ByFault a x b
  by_fault k a b (Some LinkFault) h l = h
  by_fault k a b (Some (BadReply frame)) h l = (h.faults, l)
  by_fault k a b (Some (Outside p)) h l = h
  by_fault k a b None h l = h

  one : (o : Operators W) (c : PsCore) (op left : ℕ) (r : Answer) (o' : Operators W) (c' : PsCore) (left' : ℕ) → Does seen leads o c op left r o' c' left' → Ended o r o'
  one o c op left (Ok x) o' c' left' d = (d.1.2.0, d.2)
  one o c op left (Err (ps.Error e)) o' c' left' d = (d.1.2.0, d.2)
  one o c op left (Err ps.Spent) o' c' left' d = (d.1.2.0, d.2)
  one o c op left (Err ps.NoMemory) o' c' left' d = (d.1.2.0.faults, d.2)
  one o c op left (Err ps.Link) o' c' left' d = by_fault (desk o) (target o) (target o') o'.fault d.1.2 d.2

  -- an error that was caught
  went_on : (o o' : Operators W) (given : Answer) (c c' : PsCore) → Settles given c (Ok tt) c' → Ended o given o' → IsLed seen leads (target o) None (target o')
  went_on o o' (Ok x) c c' s h = h
  went_on o o' (Err (ps.Error e)) c c' s h = h
  went_on o o' (Err ps.Spent) c c' s h = absurd (let k = s.0 in cc)
  went_on o o' (Err ps.NoMemory) c c' s h = absurd (let k = s.0 in cc)
  went_on o o' (Err ps.Link) c c' s h = absurd (let k = s.0 in cc)

  raised_as : (o o' : Operators W) (e : PsError) (g : PsFault) (c c' : PsCore) → Settles (Err (ps.Error e)) c (Err g) c' → IsLed seen leads (target o) None (target o') → Ended o (Err g) o'
  raised_as o o' e (ps.Error x) c c' s h = h
  raised_as o o' e ps.Spent c c' s h = absurd s
  raised_as o o' e ps.Link c c' s h = absurd s
  raised_as o o' e ps.NoMemory c c' s h = h

  stopped : (o o' : Operators W) (given : Answer) (g : PsFault) (c c' : PsCore) → Settles given c (Err g) c' → Ended o given o' → Ended o (Err g) o'
  stopped o o' (Ok x) g c c' s h = absurd (let k = s.0 in cc)
  stopped o o' (Err (ps.Error e)) g c c' s h = raised_as o o' e g c c' s h
  stopped o o' (Err ps.Spent) g c c' s h = subst (λ (r : Answer). Ended o r o') (sym s.0) h
  stopped o o' (Err ps.NoMemory) g c c' s h = subst (λ (r : Answer). Ended o r o') (sym s.0) h
  stopped o o' (Err ps.Link) g c c' s h = subst (λ (r : Answer). Ended o r o') (sym s.0) h

  with_steps : (o o' : Operators W) (k : ℕ) (g : PsFault) → Ended o (Err g) o' → Ended o (Err (fault_with k g)) o'
  with_steps o o' zero (ps.Error e) h = h
  with_steps o o' zero ps.Spent h = h
  with_steps o o' zero ps.Link h = h
  with_steps o o' zero ps.NoMemory h = h
  with_steps o o' (suc k) (ps.Error e) h = h
  with_steps o o' (suc k) ps.Spent h = h
  with_steps o o' (suc k) ps.Link h = h
  with_steps o o' (suc k) ps.NoMemory h = h

  module _ (stays : (m : W) → leads m None m) (goes_on : (a b c : W) (o : Option (List ℕ)) → leads a None b → leads b o c → leads a o c) where
    fault_on : (a b c : W) (x : Option MemFault) → IsLed seen leads a None b → ByFault b x c → ByFault a x c
    fault_on a b c (Some LinkFault) h k = rose_then (seen a).faults (seen b).faults (seen c).faults h.0 k
    fault_on a b c (Some (BadReply frame)) h k = led_on a b c (Some frame.items) (goes_on a b c (Some frame.items)) h k
    fault_on a b c (Some (Outside p)) h k = k
    fault_on a b c None h k = k

    ended_on : (o u o' : Operators W) (r : Answer) → IsLed seen leads (target o) None (target u) → Ended u r o' → Ended o r o'
    ended_on o u o' (Ok x) h k = led_on (target o) (target u) (target o') None (goes_on (target o) (target u) (target o') None) h k
    ended_on o u o' (Err (ps.Error e)) h k = led_on (target o) (target u) (target o') None (goes_on (target o) (target u) (target o') None) h k
    ended_on o u o' (Err ps.Spent) h k = led_on (target o) (target u) (target o') None (goes_on (target o) (target u) (target o') None) h k
    ended_on o u o' (Err ps.NoMemory) h k = led_on (target o) (target u) (target o') None (goes_on (target o) (target u) (target o') None) h k
    ended_on o u o' (Err ps.Link) h k = fault_on (target o) (target u) (target o') o'.fault h k

    here : (o : Operators W) → IsLed seen leads (target o) None (target o)
    here o = (refl, stays (target o))

    run_ended : (n : ℕ) (o : Operators W) (c : PsCore) (r : Answer) (m : ℕ) (o' : Operators W) (c' : PsCore) → Runs (Does seen leads) n o c r m o' c' → Ended o r o'
    run_ended _ _ _ _ _ _ _ (spent o c) = here o
    run_ended _ _ _ _ _ _ _ (ended n o c c' s) = here o
    run_ended _ _ _ _ _ _ _ (failed n o c c' e f s how) = subst (λ (x : PsFault). Ended o (Err x) o) (sym how) (with_steps o o n (ps.Error e) (here o))
    run_ended _ _ _ _ _ _ _ (next n m o o' c c₁ c' r s run) = run_ended n o c₁ r m o' c' run
    run_ended _ _ _ _ _ _ _ (asked n k m o o₁ o' c c₁ c₂ c' op r s a run) =
        ended_on o o₁ o' r (went_on o o₁ a.given a.core c₂ a.settles (one o c₁ op n a.given o₁ a.core k a.operates)) (run_ended k o₁ c₂ r m o' c' run)
    run_ended _ _ _ _ _ _ _ (broken n k o o₁ c c₁ c₂ op g f s a how) =
        subst (λ (x : PsFault). Ended o (Err x) o₁) (sym how) (with_steps o o₁ k g (stopped o o₁ a.given g a.core c₂ a.settles (one o c₁ op n a.given o₁ a.core k a.operates)))

    fault_kept : (a b : W) (x : Option MemFault) → ByFault a x b → RanOver seen leads {A = Unit {0}} a (Err (fault_of_run ps.Link x)) b
    fault_kept a b (Some LinkFault) h = h
    fault_kept a b (Some (BadReply frame)) h = h
    fault_kept a b (Some (Outside p)) h = h
    fault_kept a b None h = absurd h

    fault_ended : (o o' : Operators W) (f : PsFault) → Ended o (Err f) o' → RanOver seen leads {A = Unit {0}} (target o) (Err (fault_of_run f o'.fault)) (target o')
    fault_ended o o' (ps.Error e) h = h
    fault_ended o o' ps.Spent h = h
    fault_ended o o' ps.NoMemory h = h
    fault_ended o o' ps.Link h = fault_kept (target o) (target o') o'.fault h

    object_ended : (n : ℕ) (what : PsObj) (o : Operators W) (c : PsCore) (r : Answer) (m : ℕ) (o' : Operators W) (c' : PsCore) → r ≢ Err ps.NoMemory → RunsObject (Does seen leads) n what o c r m o' c' → Ended o r o'
    object_ended n what o c r m o' c' other h = let run = h other in run_ended n o _ r m o' _ run.1

    pub run_answered : (n : ℕ) (what : PsObj) (o : Operators W) (c : PsCore) (r : Answer) (m : ℕ) (o' : Operators W) (c' : PsCore) → r ≡ Ok tt → RunsObject (Does seen leads) n what o c r m o' c' → IsLed seen leads (target o) None (target o')
    run_answered n what o c r m o' c' e h = subst (λ (x : Answer). Ended o x o') e (object_ended n what o c r m o' c' (λ k. let i = sym e ∙ k in cc) h)

    pub run_stopped : (n : ℕ) (what : PsObj) (o : Operators W) (c : PsCore) (f : PsFault) (m : ℕ) (o' : Operators W) (c' : PsCore) → RunsObject (Does seen leads) n what o c (Err f) m o' c'
        → (fails f ≡ Err ps.NoMemory → RanShort (Does seen leads) n o (with_execution c (Object what ∷ [])) o') → RanOver seen leads {A = Unit {0}} (target o) (Err (fault_of_run f o'.fault)) (target o')
    run_stopped n what o c (ps.Error e) m o' c' h k = fault_ended o o' (ps.Error e) (object_ended n what o c (Err (ps.Error e)) m o' c' (λ k. cc) h)
    run_stopped n what o c ps.Spent m o' c' h k = fault_ended o o' ps.Spent (object_ended n what o c (Err ps.Spent) m o' c' (λ k. cc) h)
    run_stopped n what o c ps.Link m o' c' h k = fault_ended o o' ps.Link (object_ended n what o c (Err ps.Link) m o' c' (λ k. cc) h)
    run_stopped n what o c ps.NoMemory m o' c' h k = short_quiet seen leads stays goes_on n o (with_execution c (Object what ∷ [])) o' (k refl)
