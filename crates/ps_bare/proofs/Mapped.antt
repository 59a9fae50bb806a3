-- A run by a dialect is one by another, where each of its operations is one of the other unless memory ran out.
use Rattle.std.proofs.Common.{◌≡◌, ◌≢◌, ℕ, zero, suc, Result, Ok, Err, refl, sym, ap, ◌∙◌}
use Rattle.ps_step.specs.declared.fault.PsFault.{PsFault}
use Rattle.ps_step.specs.declared.fault.PsFault.TheVariants.{Error, Spent, Link, NoMemory}
use Rattle.ps_step.specs.declared.machine.PsCore.{PsCore}
use Rattle.ps_run.specs.Runs.{Answer, Operates, Asked, Runs, Settles, fault_with, spent, ended, failed, next, asked, broken}
use Rattle.ps_run.proofs.Going.{no_memory}

-- want of memory is handed on
settles_memory : (given : Answer) (c : PsCore) (answer : Answer) (c' : PsCore) → given ≡ Err NoMemory → Settles given c answer c' → answer ≡ Err NoMemory
settles_memory (Ok x) c answer c' e s = absurd (let h = e in cc)
settles_memory (Err (Error f)) c answer c' e s = absurd (let h = e in cc)
settles_memory (Err Spent) c answer c' e s = absurd (let h = e in cc)
settles_memory (Err Link) c answer c' e s = absurd (let h = e in cc)
settles_memory (Err NoMemory) c answer c' e s = s.0

-- an operation where memory was found
abbrev pub OverBut : {D E : Type 0} → Operates D → Operates E → (D → E) → Type 0
OverBut {D} {E} Op Op' f = (d : D) (c : PsCore) (op n : ℕ) (r : Answer) (d' : D) (c' : PsCore) (k : ℕ) → r ≢ Err NoMemory → Op d c op n r d' c' k → Op' (f d) c op n r (f d') c' k

abbrev fails : PsFault → Answer
fails f = Err f

kept : (g : PsFault) (k : ℕ) → fails g ≡ Err NoMemory → fault_with k g ≡ NoMemory
kept (Error e) k h = absurd (let i = h in cc)
kept Spent k h = absurd (let i = h in cc)
kept Link k h = absurd (let i = h in cc)
kept NoMemory k h = no_memory k

module _ {D E : Type 0} (Op : Operates D) (Op' : Operates E) (f : D → E) (over : OverBut Op Op' f) where
  asked_but : (d : D) (c : PsCore) (op n : ℕ) (answer : Answer) (d' : D) (c' : PsCore) (k : ℕ) → answer ≢ Err NoMemory → Asked Op d c op n answer d' c' k → Asked Op' (f d) c op n answer (f d') c' k
  asked_but d c op n answer d' c' k other a =
      record { given = a.given; core = a.core; operates = over d c op n a.given d' a.core k (λ e. other (settles_memory a.given a.core answer c' e a.settles)) a.operates; settles = a.settles }

  pub mapped_but : (n : ℕ) (d : D) (c : PsCore) (r : Answer) (m : ℕ) (d' : D) (c' : PsCore) → r ≢ Err NoMemory → Runs Op n d c r m d' c' → Runs Op' n (f d) c r m (f d') c'
  mapped_but _ _ _ _ _ _ _ other (spent d c) = spent (f d) c
  mapped_but _ _ _ _ _ _ _ other (ended n d c c' s) = ended n (f d) c c' s
  mapped_but _ _ _ _ _ _ _ other (failed n d c c' x g s told) = failed n (f d) c c' x g s told
  mapped_but _ _ _ _ _ _ _ other (next n m d d' c c₁ c' r s run) = next n m (f d) (f d') c c₁ c' r s (mapped_but n d c₁ r m d' c' other run)
  mapped_but _ _ _ _ _ _ _ other (asked n k m d d₁ d' c c₁ c₂ c' op r s a run) =
      asked n k m (f d) (f d₁) (f d') c c₁ c₂ c' op r s (asked_but d c₁ op n (Ok tt) d₁ c₂ k (λ h. cc) a) (mapped_but k d₁ c₂ r m d' c' other run)
  mapped_but _ _ _ _ _ _ _ other (broken n k d d₁ c c₁ c₂ op g x s a told) =
      broken n k (f d) (f d₁) c c₁ c₂ op g x s (asked_but d c₁ op n (Err g) d₁ c₂ k (λ e. other (ap Err (told ∙ kept g k e))) a) told
