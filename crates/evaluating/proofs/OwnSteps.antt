-- A run whose own steps don't count, over operators that may not store to the target.
use Rattle.std.proofs.Common.{◌≡◌, ◌≢◌, ◌∙◌, refl, sym, ap, subst, ℕ, zero, suc, false, List, [], ◌∷◌, Option, Some, None, Result, Ok, Err}
use Rattle.ldb_edge.specs.Count.{Rose}
use Rattle.machine_state.specs.Regions.{Regions}
use Rattle.ps_store.specs.declared.object.PsObj.{PsObj}
use Rattle.ps_step.specs.declared.fault.PsError.{PsError}
use Rattle.ps_step.specs.declared.fault.PsFault.{PsFault}
use Rattle.ps_step.specs.declared.fault.PsFault.TheVariants as ps
use Rattle.ps_step.specs.declared.item.Item.TheVariants.{Object}
use Rattle.ps_step.specs.declared.machine.PsCore.{PsCore}
use Rattle.ps_step.specs.State.{with_execution}
use Rattle.ps_run.specs.Runs.{Operates as Dialect, Answer, Runs, RunsObject, Settles, fault_with, spent, ended, failed, next, asked, broken}
use Rattle.ps_run.specs.Reaching.{RanShort}
use Rattle.ps_run.proofs.Reaching.{short_keeps}
use Rattle.abs_mem.specs.Meaning.{Seen}
use Rattle.abs_mem.specs.declared.memory.MemFault.{MemFault}
use Rattle.abs_mem.specs.declared.memory.MemFault.TheVariants.{Outside, LinkFault, BadReply}
use Rattle.abs_mem.proofs.Walks.{rose_then}
use Rattle.dialect_model.specs.Dial.{Dial, Target}
use Rattle.dialect_model.specs.Operating.{Operates}
use Rattle.ps_ops.specs.Acting.{KeepsFault, OperatesOn}
use Rattle.ps_ops.specs.Desk.{dial_of, target_of, memory_of}
use Rattle.ps_ops.specs.declared.dialect.Operators.{Operators}
use Rattle.ps_ops.specs.declared.view.View.{View}
use Rattle.told_runs.specs.Told.{desk, target}
use Rattle.table_asks.specs.declared.fault.AskFault.{AskFault}
use Rattle.table_asks.specs.declared.fault.AskFault.TheVariants.{Refused, Raised, Spent, NoMemory, Broken}
use Rattle.table_asks.specs.Faults.{fault_of_run}
use Rattle.asking.proofs.Unstored.{operates}
use Rattle.evaluating.specs.Told.{Keeps, Fails}
use Rattle.evaluating.specs.Stepping.{DoesApart}
use Rattle.evaluating.proofs.Keeping.{keeps_here, keeps_on, target_is}

module _ {W R : Type 0} (seen : W → Seen R) where
  -- the memory was kept, and may not be stored to still
  record Dark (o o' : Operators W) : Type 0 where
    keeps : Keeps seen o o'
    raw : o'.view.raw ≡ false

  abbrev Left : Operators W → Answer → Operators W → Type 0
  Left o (Ok x) o' = Dark o o'
  Left o (Err (ps.Error e)) o' = Dark o o'
  Left o (Err ps.Spent) o' = Dark o o'
  Left o (Err ps.NoMemory) o' = Dark o o'
  Left o (Err ps.Link) o' = KeepsFault o'.fault (desk o) (target seen o) (target seen o')

  -- ---- one operator

  told : (o o' : Operators W) (c c' : PsCore) (op left left' : ℕ) (answer : Answer) → o.view.raw ≡ false → o'.view ≡ o.view → (target seen o').faults ≡ (target seen o).faults
      → ((rg : Regions) (r : R) → (target seen o).tells (memory_of (desk o) rg) r → (rg' : Regions) × (target seen o').tells (memory_of (desk o') rg') r × Operates (dial_of (desk o) rg) c op left answer (dial_of (desk o') rg') c' left') → Dark o o'
  told o o' c c' op left left' answer dark view e h = record {
    keeps = record {
      faults = e;
      keeps = λ rg r t.
          let y = h rg r t in
          let w = operates (dial_of (desk o) rg) c op left answer (dial_of (desk o') y.0) c' left' y.2 dark in
          let is : target_of o'.view o'.memory.below.below.order y.0 ≡ target_of o.view o.memory.below.below.order rg = target_is seen _ _ w.0 in
          subst (λ (m : Regions). (target seen o').tells (memory_of (desk o') m) r) (ap (λ (z : Target). z.regions) is) y.1;
    };
    raw = ap (λ (v : View). v.raw) view ∙ dark;
  }

  one : (o o' : Operators W) (c c' : PsCore) (op : ℕ) (answer : Answer) → o.view.raw ≡ false → DoesApart seen o c op answer o' c' → Left o answer o'
  one o o' c c' op (Ok x) dark d = told o o' c c' op d.left d.left' (Ok x) dark d.view d.operates.2.0 d.operates.2.1
  one o o' c c' op (Err (ps.Error e)) dark d = told o o' c c' op d.left d.left' (Err (ps.Error e)) dark d.view d.operates.2.0 d.operates.2.1
  one o o' c c' op (Err ps.Spent) dark d = told o o' c c' op d.left d.left' (Err ps.Spent) dark d.view d.operates.2.0 d.operates.2.1
  one o o' c c' op (Err ps.NoMemory) dark d = record { keeps = d.operates.2.0; raw = ap (λ (v : View). v.raw) d.view ∙ dark }
  one o o' c c' op (Err ps.Link) dark d = d.operates.2

  pub spent_apart : {L : Type 0} (o o' : Operators W) (c c' : PsCore) (op n m : ℕ) (f : PsFault) → f ≡ ps.Spent → (o'.view ≡ o.view) × OperatesOn (desk o) (target seen o) c op n (Err f) (desk o') (target seen o') c' m o'.fault × L → DoesApart seen o c op (Err ps.Spent) o' c'
  spent_apart o o' c c' op n m f is x = record { left = n; left' = m; view = x.0; operates = subst (λ (y : PsFault). OperatesOn (desk o) (target seen o) c op n (Err y) (desk o') (target seen o') c' m o'.fault) is x.1 }

  -- an error that was caught
  went_on : (o o' : Operators W) (given : Answer) (c c' : PsCore) → Settles given c (Ok tt) c' → Left o given o' → Dark o o'
  went_on o o' (Ok x) c c' s h = h
  went_on o o' (Err (ps.Error e)) c c' s h = h
  went_on o o' (Err ps.Spent) c c' s h = absurd (let k = s.0 in cc)
  went_on o o' (Err ps.NoMemory) c c' s h = absurd (let k = s.0 in cc)
  went_on o o' (Err ps.Link) c c' s h = absurd (let k = s.0 in cc)

  raised_as : (o o' : Operators W) (e : PsError) (g : PsFault) (c c' : PsCore) → Settles (Err (ps.Error e)) c (Err g) c' → Dark o o' → Left o (Err g) o'
  raised_as o o' e (ps.Error x) c c' s h = h
  raised_as o o' e ps.Spent c c' s h = absurd s
  raised_as o o' e ps.Link c c' s h = absurd s
  raised_as o o' e ps.NoMemory c c' s h = h

  stopped : (o o' : Operators W) (given : Answer) (g : PsFault) (c c' : PsCore) → Settles given c (Err g) c' → Left o given o' → Left o (Err g) o'
  stopped o o' (Ok x) g c c' s h = absurd (let k = s.0 in cc)
  stopped o o' (Err (ps.Error e)) g c c' s h = raised_as o o' e g c c' s h
  stopped o o' (Err ps.Spent) g c c' s h = subst (λ (r : Answer). Left o r o') (sym s.0) h
  stopped o o' (Err ps.NoMemory) g c c' s h = subst (λ (r : Answer). Left o r o') (sym s.0) h
  stopped o o' (Err ps.Link) g c c' s h = subst (λ (r : Answer). Left o r o') (sym s.0) h

  with_steps : (o o' : Operators W) (k : ℕ) (g : PsFault) → Left o (Err g) o' → Left o (Err (fault_with k g)) o'
  with_steps o o' zero (ps.Error e) h = h
  with_steps o o' zero ps.Spent h = h
  with_steps o o' zero ps.Link h = h
  with_steps o o' zero ps.NoMemory h = h
  with_steps o o' (suc k) (ps.Error e) h = h
  with_steps o o' (suc k) ps.Spent h = h
  with_steps o o' (suc k) ps.Link h = h
  with_steps o o' (suc k) ps.NoMemory h = h

  left_dark : (o o' : Operators W) (r : Answer) → r ≢ Err ps.Link → Left o r o' → Dark o o'
  left_dark o o' (Ok x) n h = h
  left_dark o o' (Err (ps.Error e)) n h = h
  left_dark o o' (Err ps.Spent) n h = h
  left_dark o o' (Err ps.NoMemory) n h = h
  left_dark o o' (Err ps.Link) n h = absurd (n refl)

  -- ---- one after another

  fault_on : (a b c : Operators W) (x : Option MemFault) → Keeps seen a b → KeepsFault x (desk b) (target seen b) (target seen c) → KeepsFault x (desk a) (target seen a) (target seen c)
  fault_on a b c (Some LinkFault) h k = rose_then (target seen a).faults (target seen b).faults (target seen c).faults h.faults k
  fault_on a b c (Some (BadReply frame)) h k = record { faults = k.faults ∙ h.faults; never = λ rg r t. k.never rg r (h.keeps rg r t) }
  fault_on a b c (Some (Outside p)) h k = k
  fault_on a b c None h k = k

  dark_on : (a b c : Operators W) → Dark a b → Dark b c → Dark a c
  dark_on a b c h k = record { keeps = keeps_on seen a b c h.keeps k.keeps; raw = k.raw }

  left_on : (a b c : Operators W) (r : Answer) → Dark a b → Left b r c → Left a r c
  left_on a b c (Ok x) h k = dark_on a b c h k
  left_on a b c (Err (ps.Error e)) h k = dark_on a b c h k
  left_on a b c (Err ps.Spent) h k = dark_on a b c h k
  left_on a b c (Err ps.NoMemory) h k = dark_on a b c h k
  left_on a b c (Err ps.Link) h k = fault_on a b c c.fault h.keeps k

  -- by the fault that is kept
  abbrev pub LeftBy : Operators W → PsFault → Option MemFault → Operators W → Type 0
  LeftBy o (ps.Error e) x o' = Keeps seen o o'
  LeftBy o ps.Spent x o' = Keeps seen o o'
  LeftBy o ps.NoMemory x o' = Keeps seen o o'
  LeftBy o ps.Link x o' = KeepsFault x (desk o) (target seen o) (target seen o')

  left_since : (a b c : Operators W) (f : PsFault) → Keeps seen a b → Left b (Err f) c → LeftBy a f c.fault c
  left_since a b c (ps.Error e) h k = keeps_on seen a b c h k.keeps
  left_since a b c ps.Spent h k = keeps_on seen a b c h k.keeps
  left_since a b c ps.NoMemory h k = keeps_on seen a b c h k.keeps
  left_since a b c ps.Link h k = fault_on a b c c.fault h k

  abbrev run_err : PsFault → Answer
  run_err f = Err f

  kept_fault : (a b : Operators W) (x : Option MemFault) → KeepsFault x (desk a) (target seen a) (target seen b) → Fails seen a (fault_of_run ps.Link x) b
  kept_fault a b (Some LinkFault) h = h
  kept_fault a b (Some (BadReply frame)) h = h
  kept_fault a b (Some (Outside p)) h = h
  kept_fault a b None h = absurd h

  told_by : (old new : Operators W) (f : PsFault) (x : Option MemFault) → LeftBy old f x new → Fails seen old (fault_of_run f x) new
  told_by old new (ps.Error e) x h = h
  told_by old new ps.Spent x h = h
  told_by old new ps.NoMemory x h = h
  told_by old new ps.Link x h = kept_fault old new x h

  -- so a fault of the run is told
  pub fault_told : (old new : Operators W) (f : PsFault) (x : Option MemFault) (why : AskFault) → why ≡ fault_of_run f x → LeftBy old f x new → Fails seen old why new
  fault_told old new f x why is h = subst (λ (z : AskFault). Fails seen old z new) (sym is) (told_by old new f x h)

  at_rest : (o : Operators W) → o.view.raw ≡ false → Dark o o
  at_rest o dark = record { keeps = keeps_here seen o o refl refl; raw = dark }

  -- ---- a run, under a dialect that shows what the operators do

  module _ {D N : Type 0} (talk : D → Operators W) (name : D → N) (Op : Dialect D)
      (shows : (d : D) (c : PsCore) (op left : ℕ) (answer : Answer) (d' : D) (c' : PsCore) (left' : ℕ) → Op d c op left answer d' c' left' → (name d' ≡ name d) × DoesApart seen (talk d) c op answer (talk d') c') where
    -- it is over the same operators
    abbrev Ran : D → Answer → D → Type 0
    Ran d r d' = (name d' ≡ name d) × Left (talk d) r (talk d')

    runs : (n : ℕ) (d : D) (c : PsCore) (r : Answer) (m : ℕ) (d' : D) (c' : PsCore) → Runs Op n d c r m d' c' → (talk d).view.raw ≡ false → Ran d r d'
    runs _ _ _ _ _ _ _ (spent d c) dark = (refl, at_rest (talk d) dark)
    runs _ _ _ _ _ _ _ (ended n d c c' s) dark = (refl, at_rest (talk d) dark)
    runs _ _ _ _ _ _ _ (failed n d c c' e f s how) dark = (refl, subst (λ (x : PsFault). Left (talk d) (Err x) (talk d)) (sym how) (with_steps (talk d) (talk d) n (ps.Error e) (at_rest (talk d) dark)))
    runs _ _ _ _ _ _ _ (next n m d d' c c₁ c' r s run) dark = runs n d c₁ r m d' c' run dark
    runs _ _ _ _ _ _ _ (asked n k m d d₁ d' c c₁ c₂ c' op r s a run) dark =
        let y = shows d c₁ op n a.given d₁ a.core k a.operates in
        let first = went_on (talk d) (talk d₁) a.given a.core c₂ a.settles (one (talk d) (talk d₁) c₁ a.core op a.given dark y.1) in
        let z = runs k d₁ c₂ r m d' c' run first.raw in
        (z.0 ∙ y.0, left_on (talk d) (talk d₁) (talk d') r first z.1)
    runs _ _ _ _ _ _ _ (broken n k d d₁ c c₁ c₂ op g f s a how) dark =
        let y = shows d c₁ op n a.given d₁ a.core k a.operates in
        (y.0, subst (λ (x : PsFault). Left (talk d) (Err x) (talk d₁)) (sym how) (with_steps (talk d) (talk d₁) k g (stopped (talk d) (talk d₁) a.given g a.core c₂ a.settles (one (talk d) (talk d₁) c₁ a.core op a.given dark y.1))))

    -- memory ran out
    abbrev Darkens : D → D → Type 0
    Darkens d d' = (talk d).view.raw ≡ false → (name d' ≡ name d) × Dark (talk d) (talk d')

    ran_short : (n : ℕ) (d d' : D) (c : PsCore) → RanShort Op n d c d' → Darkens d d'
    ran_short n d d' c short =
        short_keeps Op Darkens (λ d dark. (refl, at_rest (talk d) dark)) (λ d d₁ d₂ h k dark. let x = h dark in let y = k x.1.raw in (y.0 ∙ x.0, dark_on (talk d) (talk d₁) (talk d₂) x.1 y.1))
        (λ d c op n r d' c' k whole h dark. let y = shows d c op n r d' c' k h in (y.0, left_dark (talk d) (talk d') r whole (one (talk d) (talk d') c c' op r dark y.1))) n d c d' short

    -- however an object's run ended
    object_runs : (n : ℕ) (what : PsObj) (d : D) (c : PsCore) (r : Answer) (m : ℕ) (d' : D) (c' : PsCore) → RunsObject Op n what d c r m d' c' → (r ≡ Err ps.NoMemory → RanShort Op n d (with_execution c (Object what ∷ [])) d') → (talk d).view.raw ≡ false → Ran d r d'
    object_runs n what d c (Ok tt) m d' c' h short dark = let run = h (λ e. cc) in runs n d _ (Ok tt) m d' _ run.1 dark
    object_runs n what d c (Err (ps.Error e)) m d' c' h short dark = let run = h (λ e. cc) in runs n d _ (Err (ps.Error e)) m d' _ run.1 dark
    object_runs n what d c (Err ps.Spent) m d' c' h short dark = let run = h (λ e. cc) in runs n d _ (Err ps.Spent) m d' _ run.1 dark
    object_runs n what d c (Err ps.Link) m d' c' h short dark = let run = h (λ e. cc) in runs n d _ (Err ps.Link) m d' _ run.1 dark
    object_runs n what d c (Err ps.NoMemory) m d' c' h short dark = ran_short n d d' _ (short refl) dark

    -- since a time before, when the memory was the same
    module _ (old : Operators W) (d : D) (same : (talk d).memory ≡ old.memory) where
      begun : Keeps seen old (talk d)
      begun = keeps_here seen old (talk d) (ap (λ x. x.below.below.below) same) (ap (λ x. x.below.below.order) same)

      pub run_kept : (n : ℕ) (what : PsObj) (c : PsCore) (r : Answer) (m : ℕ) (d' : D) (c' : PsCore) → r ≡ Ok tt → RunsObject Op n what d c r m d' c' → (r ≡ Err ps.NoMemory → RanShort Op n d (with_execution c (Object what ∷ [])) d') → (talk d).view.raw ≡ false
          → (name d' ≡ name d) × Keeps seen old (talk d')
      run_kept n what c r m d' c' e h short dark =
          let w : Ran d (Ok tt) d' = subst (λ (x : Answer). Ran d x d') e (object_runs n what d c r m d' c' h short dark) in
          (w.0, keeps_on seen old (talk d) (talk d') begun w.1.keeps)

      pub run_failed : (n : ℕ) (what : PsObj) (c : PsCore) (f : PsFault) (m : ℕ) (d' : D) (c' : PsCore) → RunsObject Op n what d c (Err f) m d' c' → (run_err f ≡ Err ps.NoMemory → RanShort Op n d (with_execution c (Object what ∷ [])) d') → (talk d).view.raw ≡ false
          → (name d' ≡ name d) × LeftBy old f (talk d').fault (talk d')
      run_failed n what c f m d' c' h short dark =
          let w = object_runs n what d c (Err f) m d' c' h short dark in
          (w.0, left_since old (talk d) (talk d') f begun w.1)
