-- Parts of commands that cover each other, step by step, however they are grouped.
use Rattle.std.proofs.Common.{◌≡◌, Result, Ok, Err, inl, inr, refl, sym, subst}
use Rattle.ps_store.specs.declared.object.PsObj.{PsObj}
use Rattle.ps_step.specs.declared.fault.PsError.{PsError}
use Rattle.ps_step.specs.declared.machine.PsCore.{PsCore}
use Rattle.ps_run.specs.Runs.{Answer}
use Rattle.dialect_model.specs.Dial.{Dial}
use Rattle.dialect_model.specs.TableUse.{TableUse, Trouble, Kind, Wanting, Eval, onward, ◌>>=◌}
use Rattle.dialect_model.specs.Running.{Run, run_result, or_error, running}
use Rattle.table_asks.specs.declared.fault.Cause.{Cause}
use Rattle.claims.specs.Side.{OnSide, Troubled}
use Rattle.asking_meaning.specs.Meant.{Matches, Covers}
use Rattle.asking_meaning.proofs.Covering.{gives_covers, fails_covers, bind_covers, regrouped_covers, same_trouble}

abbrev pub Same : (A : Type 0) → A → A → Type 0
Same A x y = x ≡ y

-- ---- a group at the front of what is asked

module _ {A B C : Type 0} (m : Eval Cause A) (f : A → Eval Cause B) (g : B → Eval Cause C) where
  outer : (t u v : TableUse) (a : Result A (Trouble Cause)) (b : Result B (Trouble Cause)) (r : Result C (Trouble Cause)) (t' : TableUse) → m t a u → onward f a u b v → onward g b v r t' → (m >>= (λ x. f x >>= g)) t r t'
  outer t u v (Ok x) b r t' h o p = (Ok x, u, h, (b, v, o, p))
  outer t u v (Err e) b r t' h o p =
      let q : onward g (Err e) u r t' = subst (λ (w : TableUse). onward g (Err e) w r t') o.1 (subst (λ (b : Result B (Trouble Cause)). onward g b v r t') o.0 p) in
      (Err e, u, h, q)

  ungrouped : (t : TableUse) (r : Result C (Trouble Cause)) (t' : TableUse) → ((m >>= f) >>= g) t r t' → (m >>= (λ x. f x >>= g)) t r t'
  ungrouped t r t' (b, v, (a, u, h, o), p) = outer t u v a b r t' h o p

ungrouped_covers : {A B C D : Type 0} {P : C → D → Type 0} (m : Eval Cause A) (f : A → Eval Cause B) (g : B → Eval Cause C) (n : OnSide D) → Covers P (m >>= (λ x. f x >>= g)) n → Covers P ((m >>= f) >>= g) n
ungrouped_covers m f g n c t r t' h = c t r t' (ungrouped m f g t r t' h)

-- ---- one step of each

module _ {A C D : Type 0} {Q : C → D → Type 0} (m : Eval Cause A) (n : OnSide A) (covers : Covers (Same A) m n) where
  pub step : (f : A → Eval Cause C) (g : A → OnSide D) → ((x : A) → Covers Q (f x) (g x)) → Covers Q (m >>= f) (n >>= g)
  step f g h = bind_covers {P = Same A} m n f g covers (λ x y e. subst (λ y. Covers Q (f x) (g y)) e (h x))

  -- with more behind it in the group that is asked; in that of the side; in both
  pub step_asked : {B : Type 0} (f : A → Eval Cause B) (k : B → Eval Cause C) (g : A → OnSide D) → ((x : A) → Covers Q (f x >>= k) (g x)) → Covers Q ((m >>= f) >>= k) (n >>= g)
  step_asked f k g h = ungrouped_covers m f k (n >>= g) (step (λ x. f x >>= k) g h)

  pub step_side : {B : Type 0} (f : A → Eval Cause C) (g : A → OnSide B) (k : B → OnSide D) → ((x : A) → Covers Q (f x) (g x >>= k)) → Covers Q (m >>= f) ((n >>= g) >>= k)
  step_side f g k h = regrouped_covers (m >>= f) n g k (step f (λ x. g x >>= k) h)

  pub step_both : {B E : Type 0} (f : A → Eval Cause B) (k : B → Eval Cause C) (g : A → OnSide E) (l : E → OnSide D) → ((x : A) → Covers Q (f x >>= k) (g x >>= l)) → Covers Q ((m >>= f) >>= k) ((n >>= g) >>= l)
  step_both f k g l h = ungrouped_covers m f k ((n >>= g) >>= l) (step_side (λ x. f x >>= k) g l h)

-- ---- parts of runs

pub error_covers : {A : Type 0} (x : Result A PsError) → Covers (Same A) (or_error x) (or_error x)
error_covers (Ok x) = gives_covers x x refl
error_covers (Err e) = fails_covers (Kind e)

ran_matches : (answer : Answer) (d : Dial) (c : PsCore) → Matches (Same Run) (run_result answer d c) (run_result answer d c)
ran_matches (Ok u) d c = refl
ran_matches (Err f) d c = same_trouble f

pub running_covers : (x : PsObj) (d : Dial) (c : PsCore) → Covers (Same Run) (running x d c) (running x d c)
running_covers x d c t r t' (inl h) =
    let q : Result Run Troubled = run_result h.answer h.dial h.core in
    record {
      result = q;
      matches = subst (λ (r : Result Run (Trouble Cause)). Matches (Same Run) r q) (sym h.result) (ran_matches h.answer h.dial h.core);
      comes = inl (record { answer = h.answer; left = h.left; dial = h.dial; core = h.core; runs = h.runs; result = refl; leaves = h.leaves });
    }
running_covers x d c t r t' (inr h) =
    record {
      result = Err Wanting;
      matches = subst (λ (r : Result Run (Trouble Cause)). Matches (Same Run) r (Err Wanting)) (sym h.result) refl;
      comes = inr (record { taken = h.taken; core = h.core; comes = record { dial = h.comes.dial; within = h.comes.within; runs = h.comes.runs; leaves = h.comes.leaves }; result = refl });
    }
