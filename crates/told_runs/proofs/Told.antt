-- A run over a memory, operator by operator.
use Rattle.std.proofs.Common.{◌≡◌, ◌≢◌, ℕ, zero, suc, List, Option, Ok, Err, refl, sym, ap, subst, ◌∙◌, Some, None}
use Rattle.machine_state.specs.Regions.{Regions}
use Rattle.abs_mem.specs.Meaning.{Seen}
use Rattle.abs_mem.specs.declared.memory.MemFault.{MemFault}
use Rattle.abs_mem.specs.declared.memory.MemFault.TheVariants.{Outside, LinkFault, BadReply}
use Rattle.ps_ops.specs.Acting.{KeepsFault}
use Rattle.ps_step.specs.declared.fault.PsFault.{PsFault}
use Rattle.ps_step.specs.declared.fault.PsFault.TheVariants.{Error, Spent, Link, NoMemory}
use Rattle.ps_step.specs.declared.machine.PsCore.{PsCore}
use Rattle.ps_run.specs.Runs.{Answer, Asked, Runs, Settles, fault_with, spent, ended, failed, next, asked, broken}
use Rattle.dialect_model.specs.Operating.{Operates}
use Rattle.ps_ops.specs.Desk.{dial_of}
use Rattle.ps_ops.specs.declared.dialect.Operators.{Operators}
use Rattle.told_runs.specs.Told.{desk, target, Tells, Does, IsTold, IsNoBadReply}

-- ---- a fault of the link and want of memory are handed on

settles_link : (given : Answer) (c : PsCore) (answer : Answer) (c' : PsCore) → given ≡ Err Link → Settles given c answer c' → answer ≡ Err Link
settles_link (Ok x) c answer c' e s = absurd (let h = e in cc)
settles_link (Err (Error f)) c answer c' e s = absurd (let h = e in cc)
settles_link (Err Spent) c answer c' e s = absurd (let h = e in cc)
settles_link (Err Link) c answer c' e s = s.0
settles_link (Err NoMemory) c answer c' e s = absurd (let h = e in cc)

settles_memory : (given : Answer) (c : PsCore) (answer : Answer) (c' : PsCore) → given ≡ Err NoMemory → Settles given c answer c' → answer ≡ Err NoMemory
settles_memory (Ok x) c answer c' e s = absurd (let h = e in cc)
settles_memory (Err (Error f)) c answer c' e s = absurd (let h = e in cc)
settles_memory (Err Spent) c answer c' e s = absurd (let h = e in cc)
settles_memory (Err Link) c answer c' e s = absurd (let h = e in cc)
settles_memory (Err NoMemory) c answer c' e s = s.0

link_told : (k : ℕ) → fault_with k Link ≡ Link
link_told zero = refl
link_told (suc k) = refl

memory_told : (k : ℕ) → fault_with k NoMemory ≡ NoMemory
memory_told zero = refl
memory_told (suc k) = refl

abbrev fails : PsFault → Answer
fails f = Err f

abbrev fault_of : PsFault → Answer → PsFault
fault_of f (Ok x) = f
fault_of f (Err g) = g

still : (g h : PsFault) (k : ℕ) → fault_with k h ≡ h → fails g ≡ fails h → fails (fault_with k g) ≡ fails h
still g h k told e = (let same : g ≡ h = ap (fault_of g) e in ap (λ (x : PsFault). fails (fault_with k x)) same ∙ ap fails told)

module _ {W R : Type 0} (seen : W → Seen R) (leads : W → Option (List ℕ) → W → Type 0) where
  -- one operator
  pub record DoesTold (rest : R) (regions : Regions) (o : Operators W) (c : PsCore) (op left : ℕ) (answer : Answer) (o' : Operators W) (c' : PsCore) (left' : ℕ) : Type 0 where
    pub regions' : Regions
    pub tells : Tells seen o' regions' rest
    pub does : Operates (dial_of (desk o) regions) c op left answer (dial_of (desk o') regions') c' left'

  pub does_told : (rest : R) (rg : Regions) (o : Operators W) (c : PsCore) (op left : ℕ) (r : Answer) (o' : Operators W) (c' : PsCore) (left' : ℕ) → r ≢ Err Link → r ≢ Err NoMemory
      → Does seen leads o c op left r o' c' left' → Tells seen o rg rest → DoesTold rest rg o c op left r o' c' left'
  does_told rest rg o c op left (Ok x) o' c' left' l n d t = (let after = d.1.2.1 rg rest t in record { regions' = after.0; tells = after.1; does = after.2 })
  does_told rest rg o c op left (Err (Error e)) o' c' left' l n d t = (let after = d.1.2.1 rg rest t in record { regions' = after.0; tells = after.1; does = after.2 })
  does_told rest rg o c op left (Err Spent) o' c' left' l n d t = (let after = d.1.2.1 rg rest t in record { regions' = after.0; tells = after.1; does = after.2 })
  does_told rest rg o c op left (Err Link) o' c' left' l n d t = absurd (l refl)
  does_told rest rg o c op left (Err NoMemory) o' c' left' l n d t = absurd (n refl)

  -- and the error that it raises
  pub record AskedTold (rest : R) (regions : Regions) (o : Operators W) (c : PsCore) (op left : ℕ) (answer : Answer) (o' : Operators W) (c' : PsCore) (left' : ℕ) : Type 0 where
    pub regions' : Regions
    pub tells : Tells seen o' regions' rest
    pub asks : Asked Operates (dial_of (desk o) regions) c op left answer (dial_of (desk o') regions') c' left'

  pub asked_told : (rest : R) (rg : Regions) (o : Operators W) (c : PsCore) (op left : ℕ) (r : Answer) (o' : Operators W) (c' : PsCore) (left' : ℕ) → r ≢ Err Link → r ≢ Err NoMemory
      → Asked (Does seen leads) o c op left r o' c' left' → Tells seen o rg rest → AskedTold rest rg o c op left r o' c' left'
  asked_told rest rg o c op left r o' c' left' l n a t =
      let does : DoesTold rest rg o c op left a.given o' a.core left' =
      does_told rest rg o c op left a.given o' a.core left' (λ e. l (settles_link a.given a.core r c' e a.settles)) (λ e. n (settles_memory a.given a.core r c' e a.settles)) a.operates t in
      record { regions' = does.regions'; tells = does.tells; asks = record { given = a.given; core = a.core; operates = does.does; settles = a.settles } }

  -- a run
  pub told : (rest : R) (rg : Regions) (n : ℕ) (o : Operators W) (c : PsCore) (r : Answer) (m : ℕ) (o' : Operators W) (c' : PsCore) → r ≢ Err Link → r ≢ Err NoMemory
      → Runs (Does seen leads) n o c r m o' c' → Tells seen o rg rest → IsTold seen rest rg n o c r m o' c'
  told rest rg _ _ _ _ _ _ _ l w (spent o c) t = record { regions' = rg; tells = t; runs = spent (dial_of (desk o) rg) c }
  told rest rg _ _ _ _ _ _ _ l w (ended n o c c' s) t = record { regions' = rg; tells = t; runs = ended n (dial_of (desk o) rg) c c' s }
  told rest rg _ _ _ _ _ _ _ l w (failed n o c c' x g s how) t = record { regions' = rg; tells = t; runs = failed n (dial_of (desk o) rg) c c' x g s how }
  told rest rg _ _ _ _ _ _ _ l w (next n m o o' c c₁ c' r s run) t =
      let on : IsTold seen rest rg n o c₁ r m o' c' = told rest rg n o c₁ r m o' c' l w run t in
      record { regions' = on.regions'; tells = on.tells; runs = next n m (dial_of (desk o) rg) (dial_of (desk o') on.regions') c c₁ c' r s on.runs }
  told rest rg _ _ _ _ _ _ _ l w (asked n k m o o₁ o' c c₁ c₂ c' op r s a run) t =
      let first : AskedTold rest rg o c₁ op n (Ok tt) o₁ c₂ k = asked_told rest rg o c₁ op n (Ok tt) o₁ c₂ k (λ h. cc) (λ h. cc) a t in
      let on : IsTold seen rest first.regions' k o₁ c₂ r m o' c' = told rest first.regions' k o₁ c₂ r m o' c' l w run first.tells in
      record { regions' = on.regions'; tells = on.tells; runs = asked n k m (dial_of (desk o) rg) (dial_of (desk o₁) first.regions') (dial_of (desk o') on.regions') c c₁ c₂ c' op r s first.asks on.runs }
  told rest rg _ _ _ _ _ _ _ l w (broken n k o o₁ c c₁ c₂ op g x s a how) t =
      let first : AskedTold rest rg o c₁ op n (Err g) o₁ c₂ k =
      asked_told rest rg o c₁ op n (Err g) o₁ c₂ k (λ e. l (ap Err how ∙ still g Link k (link_told k) e)) (λ e. w (ap Err how ∙ still g NoMemory k (memory_told k) e)) a t in
      record { regions' = first.regions'; tells = first.tells; runs = broken n k (dial_of (desk o) rg) (dial_of (desk o₁) first.regions') c c₁ c₂ op g x s first.asks how }

  -- ---- a run that the link ended

  link_only : (k : ℕ) (g : PsFault) → fails (fault_with k g) ≡ fails Link → fails g ≡ fails Link
  link_only zero (Error e) h = cc
  link_only zero Spent h = h
  link_only zero Link h = refl
  link_only zero NoMemory h = h
  link_only (suc k) (Error e) h = h
  link_only (suc k) Spent h = h
  link_only (suc k) Link h = refl
  link_only (suc k) NoMemory h = h

  never_kept : (kept : Option MemFault) (o o' : Operators W) (rg : Regions) (rest : R) → KeepsFault kept (desk o) (target seen o) (target seen o') → Tells seen o rg rest → IsNoBadReply kept
  never_kept (Some LinkFault) o o' rg rest h t = tt
  never_kept (Some (BadReply frame)) o o' rg rest h t = h.never rg rest t
  never_kept (Some (Outside p)) o o' rg rest h t = tt
  never_kept None o o' rg rest h t = tt

  -- the operator that was broken off had told bytes before it
  never_given : (given : Answer) (rest : R) (rg : Regions) (o : Operators W) (c core : PsCore) (op left : ℕ) (o' : Operators W) (c' : PsCore) (left' : ℕ) (answer : Answer) → answer ≡ Err Link → Settles given core answer c'
      → Does seen leads o c op left given o' core left' → Tells seen o rg rest → IsNoBadReply o'.fault
  never_given (Err Link) rest rg o c core op left o' c' left' answer e s d t = never_kept o'.fault o o' rg rest d.1.2 t
  never_given (Ok x) rest rg o c core op left o' c' left' answer e s d t = absurd (let h = s.0 in cc)
  never_given (Err Spent) rest rg o c core op left o' c' left' answer e s d t = absurd (let h = s.0 in cc)
  never_given (Err NoMemory) rest rg o c core op left o' c' left' answer e s d t = absurd (let h = s.0 in cc)
  never_given (Err (Error x)) rest rg o c core op left o' c' left' answer e s d t = absurd (subst (λ (r : Answer). Settles (Err (Error x)) core r c') e s)

  pub never : (rest : R) (rg : Regions) (n : ℕ) (o : Operators W) (c : PsCore) (r : Answer) (m : ℕ) (o' : Operators W) (c' : PsCore) → r ≡ Err Link → Runs (Does seen leads) n o c r m o' c' → Tells seen o rg rest → IsNoBadReply o'.fault
  never rest rg _ _ _ _ _ _ _ e (spent o c) t = absurd (let h = e in cc)
  never rest rg _ _ _ _ _ _ _ e (ended n o c c' s) t = absurd (let h = e in cc)
  never rest rg _ _ _ _ _ _ _ e (failed n o c c' x g s how) t = absurd (let h = link_only n (Error x) (sym (ap Err how) ∙ e) in cc)
  never rest rg _ _ _ _ _ _ _ e (next n m o o' c c₁ c' r s run) t = never rest rg n o c₁ r m o' c' e run t
  never rest rg _ _ _ _ _ _ _ e (asked n k m o o₁ o' c c₁ c₂ c' op r s a run) t =
      let first : AskedTold rest rg o c₁ op n (Ok tt) o₁ c₂ k = asked_told rest rg o c₁ op n (Ok tt) o₁ c₂ k (λ h. cc) (λ h. cc) a t in
      never rest first.regions' k o₁ c₂ r m o' c' e run first.tells
  never rest rg _ _ _ _ _ _ _ e (broken n k o o₁ c c₁ c₂ op g x s a how) t =
      never_given a.given rest rg o c₁ a.core op n o₁ c₂ k (Err g) (link_only k g (sym (ap Err how) ∙ e)) a.settles a.operates t
