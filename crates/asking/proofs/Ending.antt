-- Parts of a command that end, one after another, and the run of an object.
use Rattle.std.proofs.Common.{◌≡◌, ◌∙◌, refl, subst, inl, ℕ, false, List, [], ◌∷◌, Option, Some, Result, Ok, Err}
use Rattle.machine_state.specs.Regions.{Regions}
use Rattle.ps_store.specs.declared.object.DictId.{DictId}
use Rattle.ps_store.specs.declared.object.PsObj.{PsObj}
use Rattle.ps_store.specs.StoreState.{StoreState}
use Rattle.ps_store.specs.Store.{closed_part}
use Rattle.ps_store.proofs.Settling.{settled_same}
use Rattle.ps_store.specs.declared.object.Part.TheVariants.{Command}
use Rattle.ps_step.specs.declared.fault.PsFault.{PsFault}
use Rattle.ps_step.specs.declared.fault.PsFault.TheVariants as ps
use Rattle.ps_step.specs.declared.item.Item.{Item}
use Rattle.ps_step.specs.declared.item.Item.TheVariants.{Object}
use Rattle.ps_step.specs.declared.machine.PsCore.{PsCore}
use Rattle.ps_step.specs.State.{with_execution}
use Rattle.ps_run.specs.Runs.{Answer, Runs}
use Rattle.abs_mem.specs.Meaning.{Seen}
use Rattle.abs_mem.specs.declared.memory.MemFault.TheVariants.{Outside, LinkFault, BadReply}
use Rattle.dialect_model.specs.Dial.{Target, memory_bytes}
use Rattle.dialect_model.specs.Operating.{Operates}
use Rattle.dialect_model.specs.TableUse.{TableUse, use_of, Trouble, Kind, Eval, trouble_of, ◌>>=◌}
use Rattle.dialect_model.specs.TableUse.{Refused as RefusedFor, Spent as StepsSpent}
use Rattle.dialect_model.specs.Running.{Run, running}
use Rattle.ps_ops.specs.Desk.{dial_of}
use Rattle.ps_ops.specs.declared.dialect.Operators.{Operators}
use Rattle.told_runs.specs.Told.{desk, target, Tells, IsTold, ReachesTold}
use Rattle.table_asks.specs.declared.fault.Cause.{Cause}
use Rattle.table_asks.specs.declared.fault.AskFault.{AskFault}
use Rattle.table_asks.specs.declared.fault.AskFault.TheVariants.{Refused, Raised, Spent, NoMemory, Broken}
use Rattle.table_asks.specs.declared.inquiry.Inquiry.{Inquiry}
use Rattle.table_asks.specs.Asking.{left_of, used_by, Comes}
use Rattle.table_asks.specs.Closing.{Settles}
use Rattle.table_asks.specs.Running.{RunsOver}
use Rattle.asking.specs.Printing.{Ends, EndsOnTold, EndsFrom, target_with, used_at, RanFrom}
use Rattle.asking.proofs.Unstored.{runs_stay, reaches_stay}

-- what is made stays the command's
pub part_stays : (s s' : StoreState) → Settles (closed_part s) (closed_part s') → s.part ≡ Command → s'.part ≡ Command
part_stays s s' h e = (h (closed_part s) (settled_same (closed_part s))).part ∙ e

-- ---- one part after another

module _ {A B : Type 0} (m : Eval Cause A) (k : A → Eval Cause B) (before : TableUse) (new : Inquiry) where
  pub fails_then : (e : Trouble Cause) → Ends m before (Err e) new → Ends (m >>= k) before (Err e) new
  fails_then e h = record { use_after = h.use_after; comes = (Err e, h.use_after, h.comes, (refl, refl)); store = h.store; left = h.left }

  pub then_ends : (x : A) (mid : TableUse) (r : Result B (Trouble Cause)) → m before (Ok x) mid → Ends (k x) mid r new → Ends (m >>= k) before r new
  then_ends x mid r h e = record { use_after = e.use_after; comes = (Ok x, mid, h, e.comes); store = e.store; left = e.left }

module _ {R A B : Type 0} (m : Regions → Eval Cause A) (k : Regions → A → Eval Cause B) (at : Regions → Target) (start : TableUse) (s s' : Seen R) (new : Inquiry) where
  abbrev both : Regions → Eval Cause B
  both regions = m regions >>= k regions

  -- a fault ends all
  pub fails_from : (f : AskFault) → EndsFrom m at start s (Err f) new s' → EndsFrom both at start s (Err f) new s'
  fails_from (Refused cause) h = λ regions rest t. let w = h regions rest t in (w.0, fails_then (m regions) (k regions) start new (RefusedFor cause) w.1)
  fails_from (Raised e) h = λ regions rest t. let w = h regions rest t in (w.0, fails_then (m regions) (k regions) start new (Kind e) w.1)
  fails_from Spent h = λ regions rest t. let w = h regions rest t in (w.0, fails_then (m regions) (k regions) start new StepsSpent w.1)
  fails_from NoMemory h = h
  fails_from (Broken LinkFault) h = tt
  fails_from (Broken (BadReply frame)) h = h
  fails_from (Broken (Outside p)) h = tt

  -- what comes behind a result
  module _ (u : Seen R) (x : A) (mid : TableUse) (first : (regions : Regions) (rest : R) → s.tells (memory_bytes (at regions)) rest → u.tells (memory_bytes (at regions)) rest × m regions start (Ok x) mid) where
    on_told : (r : Result B (Trouble Cause)) → EndsOnTold (λ regions. k regions x) at mid u r new s' → EndsOnTold both at start s r new s'
    on_told r h regions rest t =
        let w = first regions rest t in
        let v = h regions rest w.0 in
        (v.0, then_ends (m regions) (k regions) start new x mid r w.1 v.1)

    pub then_from : (r : Result B AskFault) → EndsFrom (λ regions. k regions x) at mid u r new s' → EndsFrom both at start s r new s'
    then_from (Ok y) h = on_told (Ok y) h
    then_from (Err (Refused cause)) h = on_told (Err (RefusedFor cause)) h
    then_from (Err (Raised e)) h = on_told (Err (Kind e)) h
    then_from (Err Spent) h = on_told (Err StepsSpent) h
    then_from (Err NoMemory) h = λ regions rest t. h regions rest (first regions rest t).0
    then_from (Err (Broken LinkFault)) h = tt
    then_from (Err (Broken (BadReply frame))) h = λ regions rest t. h regions rest (first regions rest t).0
    then_from (Err (Broken (Outside p))) h = tt

-- ---- parts that ask the table alone

module _ {R A : Type 0} (m : Eval Cause A) (at : Regions → Target) (old new : Inquiry) (s : Seen R) where
  abbrev began : TableUse
  began = use_of old.core.store (left_of old)

  asked_ends : (r : Result A (Trouble Cause)) → m (used_by old began) r (used_by new began) → EndsOnTold (λ regions. m) at began s r new s
  asked_ends r h regions rest t = (t, record { use_after = used_by new began; comes = h; store = refl; left = refl })

  pub asked_fails : (f : AskFault) → Comes m old (Err f) new → EndsFrom (λ regions. m) at began s (Err f) new s
  asked_fails (Refused cause) h = asked_ends (Err (RefusedFor cause)) (h began)
  asked_fails (Raised e) h = asked_ends (Err (Kind e)) (h began)
  asked_fails Spent h = asked_ends (Err StepsSpent) (h began)
  asked_fails NoMemory h = λ regions rest t. t
  asked_fails (Broken f) h = absurd (h began)

abbrev some_target : Target → Option Target
some_target t = Some t

some_is : (t t' : Target) → some_target t ≡ some_target t' → t ≡ t'
some_is t t' h = cc

-- a run whose operators may not store to the target, as far as it went
pub told_so_far : {W R : Type 0} (seen : W → Seen R) (o o' : Operators W) → o.view.raw ≡ false → (n : ℕ) (c : PsCore) (regions : Regions) (rest : R) → ReachesTold seen rest regions n o c o'
    → (target seen o').tells (memory_bytes (target_with o regions)) rest
told_so_far seen o o' dark n c regions rest h =
    let still = reaches_stay n (dial_of (desk o) regions) c h.left' h.dial h.core h.reaches dark in
    subst (λ (t : Target). (target seen o').tells (memory_bytes t) rest) (some_is (target_with o' h.regions') (target_with o regions) (h.target ∙ still.0)) h.tells

-- ---- a run

module _ {W R : Type 0} (seen : W → Seen R) (what : PsObj) (j i' : Inquiry) (o o' : Operators W) (dark : o.view.raw ≡ false) where
  abbrev RunsAs : Answer → Type 0
  RunsAs answer =
      (regions : Regions) (rest : R) → Tells seen o regions rest
      → (execution : List Item) × IsTold seen rest regions (left_of j) o (with_execution j.core (Object what ∷ [])) answer (left_of i') o' (with_execution i'.core execution)

  -- the dial after it has the same target
  module _ (answer : Answer) (regions : Regions) (rest : R) (execution : List Item) (is : IsTold seen rest regions (left_of j) o (with_execution j.core (Object what ∷ [])) answer (left_of i') o' (with_execution i'.core execution)) where
    stays : (target_with o' is.regions' ≡ target_with o regions) × (o'.view.raw ≡ false)
    stays =
        let w = runs_stay (left_of j) (dial_of (desk o) regions) (with_execution j.core (Object what ∷ [])) answer (left_of i') (dial_of (desk o') is.regions') (with_execution i'.core execution) is.runs dark in
        (some_is (target_with o' is.regions') (target_with o regions) w.0, w.1 ∙ dark)

    told_still : (target seen o').tells (memory_bytes (target_with o regions)) rest
    told_still = subst (λ (t : Target). (target seen o').tells (memory_bytes t) rest) stays.0 is.tells

  -- the state and the use of the table in which the object is run
  module _ (c : PsCore) (store : StoreState) (n : ℕ) (own : Option DictId) (ready : with_execution j.core (Object what ∷ []) ≡ record c { store = store; execution = Object what ∷ [] }) (left : left_of j ≡ n) where
    abbrev before : TableUse
    before = record { store = store; left = n; cell = o.memory.below.cell; own = own }

    abbrev whole : Regions → Eval Cause Run
    whole regions = running what (dial_of (desk o) regions) c

    runs_from : (answer : Answer) (regions : Regions) (rest : R) (execution : List Item) (is : IsTold seen rest regions (left_of j) o (with_execution j.core (Object what ∷ [])) answer (left_of i') o' (with_execution i'.core execution))
        → Runs Operates n (dial_of (desk o) regions) (record c { store = store; execution = Object what ∷ [] }) answer (left_of i') (dial_of (desk o') is.regions') (with_execution i'.core execution)
    runs_from answer regions rest execution is =
        subst (λ (m : ℕ). Runs Operates m (dial_of (desk o) regions) (record c { store = store; execution = Object what ∷ [] }) answer (left_of i') (dial_of (desk o') is.regions') (with_execution i'.core execution)) left
        (subst (λ (x : PsCore). Runs Operates (left_of j) (dial_of (desk o) regions) x answer (left_of i') (dial_of (desk o') is.regions') (with_execution i'.core execution)) ready is.runs)

    pub run_done : RunsOver seen what j o (Ok tt) i' o' → RanFrom seen whole before o (Ok tt) i' o'
    run_done h regions rest t =
        let w = h regions rest t in
        let is = w.1 in
        let still = stays (Ok tt) regions rest w.0 is in
        record {
          regions' = is.regions';
          execution = w.0;
          own = own;
          comes = inl (record { answer = Ok tt; left = left_of i'; dial = dial_of (desk o') is.regions'; core = with_execution i'.core w.0; runs = runs_from (Ok tt) regions rest w.0 is; result = refl; leaves = refl });
          same = still.0;
          raw = still.1;
          tells = is.tells;
        }

    stopped : (g : PsFault) → RunsAs (Err g) → (regions : Regions) (rest : R) → Tells seen o regions rest → (target seen o').tells (memory_bytes (target_with o regions)) rest × Ends (whole regions) before (Err (trouble_of g)) i'
    stopped g h regions rest t =
        let w = h regions rest t in
        let is = w.1 in (
          told_still (Err g) regions rest w.0 is,
          record {
            use_after = used_at o' i' own;
            comes = inl (record { answer = Err g; left = left_of i'; dial = dial_of (desk o') is.regions'; core = with_execution i'.core w.0; runs = runs_from (Err g) regions rest w.0 is; result = refl; leaves = refl });
            store = refl;
            left = refl;
          },
        )

    pub run_fails : (f : AskFault) → RunsOver seen what j o (Err f) i' o' → EndsFrom whole (target_with o) before (target seen o) (Err f) i' (target seen o')
    run_fails (Raised e) h = stopped (ps.Error e) h
    run_fails Spent h = stopped ps.Spent h
    run_fails NoMemory h = λ regions rest t. told_so_far seen o o' dark (left_of j) (with_execution j.core (Object what ∷ [])) regions rest (h regions rest t)
    run_fails (Broken LinkFault) h = tt
    run_fails (Broken (BadReply frame)) h = h
    run_fails (Broken (Outside p)) h = tt
    run_fails (Refused cause) h = absurd h
