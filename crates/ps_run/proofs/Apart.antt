-- Runs, by their first step.
use Rattle.std.proofs.Common.{◌≡◌, ◌≢◌, ◌<◌, ◌≤◌, ℕ, zero, suc, Bool, true, false, if◌then◌else◌, Option, Some, None, Ok, Err, List, [], ◌∷◌, length, nat_lt, refl, sym, ap, ◌∙◌, subst, arith}
use Rattle.ps_store.specs.declared.object.PsObj.{PsObj}
use Rattle.ps_store.specs.StoreState.{Closed}
use Rattle.ps_store.specs.Store.{closed_part}
use Rattle.ps_store.specs.declared.object.PsObj.TheVariants.{Bool as Truth}
use Rattle.ps_step.specs.declared.item.Item.{Item}
use Rattle.ps_step.specs.declared.item.Item.TheVariants.{Object}
use Rattle.ps_step.specs.declared.fault.PsError.TheVariants.{StackOverflow}
use Rattle.ps_step.specs.Item.{under_stopped}
use Rattle.ps_step.specs.State.{with_execution}
use Rattle.ps_step.specs.Executing.{Turn, executing}
use Rattle.ps_step.specs.declared.fault.PsError.{PsError}
use Rattle.ps_step.specs.declared.fault.PsFault.TheVariants.{NoMemory}
use Rattle.ps_step.specs.declared.machine.PsCore.{PsCore}
use Rattle.ps_run.specs.Step.{Outcome, Ended, Next, Asks, Failed, step, settled}
use Rattle.ps_run.specs.Runs.{Answer, Operates, Asked, Runs, RunsObject, fault_with, spent, ended, failed, next, asked, broken}
use Rattle.ps_run.proofs.Going.{no_memory}
use Rattle.ps_run.specs.Passes.{Finished, TakesNone, Follows, Met, Behind, Left, Passed, Passes, Answered, Meanwhile, Over, Along, Mapped}

module _ {D : Type 0} (Op : Operates D) where
  pub apart : (n : ℕ) (d : D) (c : PsCore) (r : Answer) (m : ℕ) (d' : D) (c' : PsCore) → Runs Op n d c r m d' c' → Left Op n d c r m d' c'
  apart _ _ _ _ _ _ _ (spent d c) = record { answered = refl; left = refl; dialect = refl; core = refl }
  apart _ _ _ _ _ _ _ (ended n d c c' e) =
      subst (λ o. Behind Op o n d (Ok tt) (suc n) d c') (sym e) (record { answered = refl; left = refl; dialect = refl; core = refl })
  apart _ _ _ _ _ _ _ (failed n d c c' x f e told) =
      subst (λ o. Behind Op o n d (Err f) n d c') (sym e) (record { answered = ap Err told; left = refl; dialect = refl; core = refl })
  apart _ _ _ _ _ _ _ (next n m d d' c c₁ c' r e run) = subst (λ o. Behind Op o n d r m d' c') (sym e) run
  apart _ _ _ _ _ _ _ (asked n k m d d₁ d' c c₁ c₂ c' op r e a run) =
      subst (λ o. Behind Op o n d r m d' c') (sym e) (record { answer = Ok tt; dialect = d₁; core = c₂; left = k; asked = a; follows = run })
  apart _ _ _ _ _ _ _ (broken n k d d₁ c c₁ c₂ op g f e a told) =
      subst (λ o. Behind Op o n d (Err f) k d₁ c₂) (sym e)
      (record { answer = Err g; dialect = d₁; core = c₂; left = k; asked = a; follows = record { answered = ap Err told; left = refl; dialect = refl; core = refl } })

  -- the same, where the first step is known
  pub behind : (n : ℕ) (d : D) (c : PsCore) (o : Outcome) (r : Answer) (m : ℕ) (d' : D) (c' : PsCore) → step c ≡ o → Runs Op (suc n) d c r m d' c' → Behind Op o n d r m d' c'
  behind n d c o r m d' c' e run = subst (λ o. Behind Op o n d r m d' c') e (apart (suc n) d c r m d' c' run)

  pub finished : (n : ℕ) (d : D) (c c₁ : PsCore) (r : Answer) (m : ℕ) (d' : D) (c' : PsCore) → step c ≡ Ended c₁ → Runs Op (suc n) d c r m d' c' → Finished (suc n) d c₁ r m d' c'
  finished n d c c₁ r m d' c' e run = behind n d c (Ended c₁) r m d' c' e run

  module _ (Q : ℕ → D → PsCore → Type 0) where
    pub passes_here : (n : ℕ) (d : D) (c : PsCore) → Q n d c → Passes Op Q n d c
    passes_here n d c q = λ r m d' c' other run. record { left = n; dialect = d; core = c; holds = q; rest = run }

    pub passes_next : (n : ℕ) (d : D) (c c₁ : PsCore) → step c ≡ Next c₁ → Passes Op Q n d c₁ → Passes Op Q (suc n) d c
    passes_next n d c c₁ e p = λ r m d' c' other run. p r m d' c' other (behind n d c (Next c₁) r m d' c' e run)

    answered_on : (n : ℕ) (d : D) (c₁ : PsCore) (op : ℕ) → Answered Op Q d c₁ op n
        → (r : Answer) (m : ℕ) (d' : D) (c' : PsCore) → r ≢ Err NoMemory → (answer : Answer) (k : ℕ) (d₁ : D) (c₂ : PsCore)
        → Asked Op d c₁ op n answer d₁ c₂ k → Follows Op answer k d₁ c₂ r m d' c' → Passed Op Q r m d' c'
    answered_on n d c₁ op p r m d' c' other (Ok tt) k d₁ c₂ a f = p (Ok tt) k d₁ c₂ a r m d' c' other f
    answered_on n d c₁ op p r m d' c' other (Err x) k d₁ c₂ a f = absurd (other (f.answered ∙ ap (λ y. Err (fault_with k y)) (p (Err x) k d₁ c₂ a) ∙ ap Err (no_memory k)))

    pub passes_asked : (n : ℕ) (d : D) (c c₁ : PsCore) (op : ℕ) → step c ≡ Asks op c₁ → Answered Op Q d c₁ op n → Passes Op Q (suc n) d c
    passes_asked n d c c₁ op e p = λ r m d' c' other run.
        let met : Met Op d c₁ op n r m d' c' = behind n d c (Asks op c₁) r m d' c' e run in
        answered_on n d c₁ op p r m d' c' other met.answer met.left met.dialect met.core met.asked met.follows

  pub passes_then : (P Q : ℕ → D → PsCore → Type 0) (n : ℕ) (d : D) (c : PsCore) → Passes Op P n d c
      → ((k : ℕ) (d₁ : D) (c₁ : PsCore) → P k d₁ c₁ → Passes Op Q k d₁ c₁) → Passes Op Q n d c
  passes_then P Q n d c p on = λ r m d' c' other run.
      let here : Passed Op P r m d' c' = p r m d' c' other run in
      on here.left here.dialect here.core here.holds r m d' c' other here.rest

  -- the same, where what is closed may become something meanwhile
  module _ (remains : Closed → Closed → Type 0) (goes_on : (p q r : Closed) → remains p q → remains q r → remains p r) where
    pub passes_meanwhile : (P Q : ℕ → D → PsCore → Type 0) (n : ℕ) (d : D) (c : PsCore) → Passes Op (Meanwhile remains c P) n d c
        → ((k : ℕ) (d₁ : D) (c₁ : PsCore) → P k d₁ c₁ → Passes Op (Meanwhile remains c₁ Q) k d₁ c₁) → Passes Op (Meanwhile remains c Q) n d c
    passes_meanwhile P Q n d c p on = λ r m d' c' other run.
        let here : Passed Op (Meanwhile remains c P) r m d' c' = p r m d' c' other run in
        let there : Passed Op (Meanwhile remains here.core Q) r m d' c' = on here.left here.dialect here.core here.holds.1 r m d' c' other here.rest in
        record {
          left = there.left;
          dialect = there.dialect;
          core = there.core;
          holds = (goes_on (closed_part c.store) (closed_part here.core.store) (closed_part there.core.store) here.holds.0 there.holds.0, there.holds.1);
          rest = there.rest;
        }

  -- ---- steps

  module _ (none : TakesNone Op) where
    pub fewer : (n : ℕ) (d : D) (c : PsCore) (r : Answer) (m : ℕ) (d' : D) (c' : PsCore) → Runs Op n d c r m d' c' → m ≤ n
    fewer _ _ _ _ _ _ _ (spent d c) = omega arith
    fewer _ _ _ _ _ _ _ (ended n d c c' e) = omega arith
    fewer _ _ _ _ _ _ _ (failed n d c c' x f e told) = omega arith
    fewer _ _ _ _ _ _ _ (next n m d d' c c₁ c' r e run) = let less : m ≤ n = fewer n d c₁ r m d' c' run in omega arith
    fewer _ _ _ _ _ _ _ (asked n k m d d₁ d' c c₁ c₂ c' op r e a run) =
        let less : m ≤ k = fewer k d₁ c₂ r m d' c' run in
        let some : k ≤ n = none d c₁ op n a.given d₁ a.core k a.operates in omega arith
    fewer _ _ _ _ _ _ _ (broken n k d d₁ c c₁ c₂ op g f e a told) =
        let some : k ≤ n = none d c₁ op n a.given d₁ a.core k a.operates in omega arith

-- an object that is executed is no end
abbrev Goes : Outcome → Type 0
Goes (Ended c) = ⊥
Goes (Next c) = Unit {0}
Goes (Asks op c) = Unit {0}
Goes (Failed e c) = Unit {0}

goes_if : (b : Bool) (x y : Outcome) → Goes x → Goes y → Goes (if b then x else y)
goes_if true x y g h = g
goes_if false x y g h = h

caught_goes : (u : Option (List Item)) (e : PsError) (c : PsCore) → Goes (elim u [
  | None ↦ Failed e (with_execution c [])
  | Some rest ↦
      if nat_lt (length c.operands) 100000 then Next (record c { operands = Truth true ∷ c.operands; execution = rest })
      else Failed StackOverflow (with_execution c [])
])
caught_goes None e c = tt
caught_goes (Some rest) e c = goes_if (nat_lt (length c.operands) 100000) (Next (record c { operands = Truth true ∷ c.operands; execution = rest })) (Failed StackOverflow (with_execution c [])) tt tt

asked_goes : (o : Option ℕ) (c : PsCore) → Goes (elim o [ None ↦ Next c | Some op ↦ Asks op c ])
asked_goes None c = tt
asked_goes (Some op) c = tt

settled_goes : (t : Turn) → Goes (settled t)
settled_goes (Ok turn) = asked_goes turn.1 turn.0
settled_goes (Err left) = caught_goes (under_stopped left.1.execution) left.0 left.1

module _ {D : Type 0} (Op : Operates D) (none : TakesNone Op) where
  follows_fewer : (answer : Answer) (k : ℕ) (d : D) (c : PsCore) (m : ℕ) (d' : D) (c' : PsCore) → Follows Op answer k d c (Ok tt) m d' c' → m ≤ k
  follows_fewer (Ok tt) k d c m d' c' f = fewer Op none k d c (Ok tt) m d' c' f
  follows_fewer (Err x) k d c m d' c' f = absurd (let e = f.answered in cc)

  behind_fewer : (o : Outcome) → Goes o → (n : ℕ) (d : D) (m : ℕ) (d' : D) (c' : PsCore) → Behind Op o n d (Ok tt) m d' c' → m ≤ n
  behind_fewer (Ended c) g n d m d' c' b = absurd g
  behind_fewer (Failed e c) g n d m d' c' b = absurd (let h = b.answered in cc)
  behind_fewer (Next c) g n d m d' c' b = fewer Op none n d c (Ok tt) m d' c' b
  behind_fewer (Asks op c) g n d m d' c' b =
      let less : m ≤ b.left = follows_fewer b.answer b.left b.dialect b.core m d' c' b.follows in
      let some : b.left ≤ n = none d c op n b.asked.given b.dialect b.asked.core b.left b.asked.operates in
      omega arith

  some_of : (n : ℕ) (x : PsObj) (d : D) (c : PsCore) (m : ℕ) (d' : D) (c' : PsCore) → Left Op n d (with_execution c (Object x ∷ [])) (Ok tt) m d' c' → m < n
  some_of zero x d c m d' c' l = absurd (let h = l.answered in cc)
  some_of (suc n) x d c m d' c' l =
      let less : m ≤ n = behind_fewer (settled (executing x (with_execution c []))) (settled_goes (executing x (with_execution c []))) n d m d' c' l in
      omega arith

  pub some_steps : (n : ℕ) (x : PsObj) (d : D) (c : PsCore) (m : ℕ) (d' : D) (c' : PsCore) → RunsObject Op n x d c (Ok tt) m d' c' → m < n
  some_steps n x d c m d' c' run =
      let found = run (λ h. cc) in
      some_of n x d c m d' (with_execution c' found.0) (apart Op n d (with_execution c (Object x ∷ [])) (Ok tt) m d' (with_execution c' found.0) found.1)

-- ---- along a relation of dialects

module _ {D E : Type 0} (Op : Operates D) (Op' : Operates E) (R : D → E → Type 0) (over : Along Op Op' R) where
  -- an operator that was asked for
  asked_over : (d : D) (e : E) (c : PsCore) (op n : ℕ) (answer : Answer) (d₁ : D) (c₁ : PsCore) (k : ℕ) → R d e → Asked Op d c op n answer d₁ c₁ k
      → (e₁ : E) × Asked Op' e c op n answer e₁ c₁ k × R d₁ e₁
  asked_over d e c op n answer d₁ c₁ k h a =
      let o = over d e c op n a.given d₁ a.core k h a.operates in
      (o.0, record { given = a.given; core = a.core; operates = o.1; settles = a.settles }, o.2)

  pub mapped : (n : ℕ) (d : D) (c : PsCore) (r : Answer) (m : ℕ) (d' : D) (c' : PsCore) → Runs Op n d c r m d' c' → (e : E) → R d e → Mapped Op' R n e c r m d' c'
  mapped _ _ _ _ _ _ _ (spent d c) e h = record { dialect = e; runs = spent e c; related = h }
  mapped _ _ _ _ _ _ _ (ended n d c c' s) e h = record { dialect = e; runs = ended n e c c' s; related = h }
  mapped _ _ _ _ _ _ _ (failed n d c c' x f s told) e h = record { dialect = e; runs = failed n e c c' x f s told; related = h }
  mapped _ _ _ _ _ _ _ (next n m d d' c c₁ c' r s run) e h =
      let rest : Mapped Op' R n e c₁ r m d' c' = mapped n d c₁ r m d' c' run e h in
      record { dialect = rest.dialect; runs = next n m e rest.dialect c c₁ c' r s rest.runs; related = rest.related }
  mapped _ _ _ _ _ _ _ (asked n k m d d₁ d' c c₁ c₂ c' op r s a run) e h =
      let o = asked_over d e c₁ op n (Ok tt) d₁ c₂ k h a in
      let rest : Mapped Op' R k o.0 c₂ r m d' c' = mapped k d₁ c₂ r m d' c' run o.0 o.2 in
      record { dialect = rest.dialect; runs = asked n k m e o.0 rest.dialect c c₁ c₂ c' op r s o.1 rest.runs; related = rest.related }
  mapped _ _ _ _ _ _ _ (broken n k d d₁ c c₁ c₂ op g f s a told) e h =
      let o = asked_over d e c₁ op n (Err g) d₁ c₂ k h a in
      record { dialect = o.0; runs = broken n k e o.0 c c₁ c₂ op g f s o.1 told; related = o.2 }

module _ {D E : Type 0} (Op : Operates D) (Op' : Operates E) (f : D → E) (over : Over Op Op' f) where
  pub shown : (n : ℕ) (d : D) (c : PsCore) (r : Answer) (m : ℕ) (d' : D) (c' : PsCore) → Runs Op n d c r m d' c' → Runs Op' n (f d) c r m (f d') c'
  shown _ _ _ _ _ _ _ (spent d c) = spent (f d) c
  shown _ _ _ _ _ _ _ (ended n d c c' s) = ended n (f d) c c' s
  shown _ _ _ _ _ _ _ (failed n d c c' x g s told) = failed n (f d) c c' x g s told
  shown _ _ _ _ _ _ _ (next n m d d' c c₁ c' r s run) = next n m (f d) (f d') c c₁ c' r s (shown n d c₁ r m d' c' run)
  shown _ _ _ _ _ _ _ (asked n k m d d₁ d' c c₁ c₂ c' op r s a run) =
      asked n k m (f d) (f d₁) (f d') c c₁ c₂ c' op r s
      (record { given = a.given; core = a.core; operates = over d c₁ op n a.given d₁ a.core k a.operates; settles = a.settles }) (shown k d₁ c₂ r m d' c' run)
  shown _ _ _ _ _ _ _ (broken n k d d₁ c c₁ c₂ op g x s a told) =
      broken n k (f d) (f d₁) c c₁ c₂ op g x s
      (record { given = a.given; core = a.core; operates = over d c₁ op n a.given d₁ a.core k a.operates; settles = a.settles }) told
