-- An operator that looks something up finds it, whatever functions of units are run on the way.
use Rattle.std.proofs.Common.{◌≡◌, inl, inr, refl, sym, ap, subst, ◌∙◌, ℕ, ◌≤◌, true, Ok, Err, List, ◌++◌, arith}
use Rattle.ps_store.specs.declared.object.PsObj.{PsObj}
use Rattle.ps_store.specs.StoreState.{StoreState}
use Rattle.ps_store.specs.Store.{closed_part}
use Rattle.ps_store.specs.Settled.{Settled}
use Rattle.ps_store.proofs.Settling.{settled_on, settled_same}
use Rattle.ps_step.specs.declared.fault.PsError.{PsError}
use Rattle.ps_step.specs.declared.fault.PsFault.{PsFault}
use Rattle.ps_step.specs.declared.fault.PsFault.TheVariants.{Error, NoMemory}
use Rattle.ps_step.specs.declared.machine.PsCore.{PsCore}
use Rattle.ps_step.specs.State.{with_operands}
use Rattle.ps_run.specs.Runs.{Answer}
use Rattle.ps_terms.specs.Machine.{Val}
use Rattle.ps_terms.specs.Stands.{Are}
use Rattle.ps_terms.specs.Printing.{Looked, nothing, after, Seeks, lacking, at_once, failed, behind, FindsAt}
use Rattle.dialect_model.specs.Dial.{Dial, Act, Raises}
use Rattle.dialect_model.specs.Operators.{act}
use Rattle.dialect_model.specs.Operating.{Operates, acted, raised, forced, broken, wanting}
use Rattle.printing_laws.specs.Dialect.{needs, needs_unit}
use Rattle.printing_laws.specs.Lookups.{Reached, unmoved, onward}
use Rattle.printing_laws.specs.Stays.{Above}
use Rattle.printing_laws.proofs.Printer.{printing, same_dial, same_core}
use Rattle.printing_laws.proofs.Asking.{Gives}
use Rattle.printing_laws.proofs.Units.{RunsLeave, Settles, unit_steps, unit_state, unit_settles}

-- an operator of the dialect leaves the store as it is
abbrev pub ActsLeave : Type 0
ActsLeave = (op : ℕ) (d d' : Dial) (c c' : PsCore) → act op d c ≡ Ok (d', c') → c'.store ≡ c.store

module _ (leaves : RunsLeave) (keeps : ActsLeave) (first : StoreState) (above : Above first) where
  -- what is reached was settled
  pub reached_settles : (now : StoreState) → Reached first now → Settles first now
  reached_settles _ unmoved = (settled_same (closed_part first), above)
  reached_settles _ (onward u n m c c' reached f) =
      let here : Settles first c.store = reached_settles c.store reached in
      let there : Settles c.store c'.store = unit_settles leaves u n m c c' here.1 f in
      (settled_on (closed_part first) (closed_part c.store) (closed_part c'.store) here.0 there.0, there.1)

  -- an operator that was done leads to a store that is reached
  done_reaches : (d : Dial) (c : PsCore) (op n : ℕ) (r : Answer) (d' : Dial) (c' : PsCore) (k : ℕ) → Operates d c op n r d' c' k → r ≡ Ok tt → Reached first c.store → Reached first c'.store
  done_reaches _ _ _ _ _ _ _ _ (acted d d' c c' op n e) h reached = subst (Reached first) (sym (keeps op d d' c c' e)) reached
  done_reaches _ _ _ _ _ _ _ _ (raised d c op n x e) h reached = absurd (cc)
  done_reaches _ _ _ _ _ _ _ _ (forced d d' c c₁ c' op u n m k r e f rest) h reached = done_reaches d c₁ op m r d' c' k rest h (onward u n m c c₁ reached f)
  done_reaches _ _ _ _ _ _ _ _ (broken d c c' op u n m x e f) h reached = absurd (cc)
  done_reaches _ _ _ _ _ _ _ _ (wanting d c op n) h reached = absurd (cc)

  pub looked_reached : (now : StoreState) (j : ℕ) → Looked Operates needs first now j → Reached first now
  looked_reached _ _ nothing = unmoved
  looked_reached _ _ (after d d' c c' op n k i j looked some operates settled sum) = done_reaches d c op n (Ok tt) d' c' k operates refl (looked_reached c.store i looked)

module _ (first s : StoreState) (d d' : Dial) (op : ℕ) (taken : List Val) (left : List PsObj) where
  -- an operator gives one answer, or needs a unit, whichever functions of units were run
  abbrev pub GivesSo : Type 0
  GivesSo = (c : PsCore) (xs o : List PsObj) → Reached first c.store → Are s xs taken → c.operands ≡ xs ++ o → Gives (act op d c) d' (with_operands c (left ++ o))

module _ (leaves : RunsLeave) (keeps : ActsLeave) (first : StoreState) (above : Above first) (s : StoreState) where
  -- an operator failed, or left its answer with another store
  data Sought (d : Dial) (c : PsCore) (left : List PsObj) (n : ℕ) : Answer → Dial → PsCore → ℕ → Type 0 where
    lost : (f : PsFault) (d' : Dial) (c' : PsCore) (k : ℕ) → Sought d c left n (Err f) d' c' k
    given : (now : StoreState) (k : ℕ) → k ≤ n → Settled (closed_part c.store) (closed_part now) → Sought d c left n (Ok tt) d (record c { store = now; operands = left }) k

  carried : (d : Dial) (c c₁ : PsCore) (left : List PsObj) (n m : ℕ) (r : Answer) (d₁ : Dial) (c₂ : PsCore) (k : ℕ) → c₁ ≡ record c { store = c₁.store } → m ≤ n
      → Settled (closed_part c.store) (closed_part c₁.store) → Sought d c₁ left m r d₁ c₂ k → Sought d c left n r d₁ c₂ k
  carried d c c₁ left n m _ _ _ _ same less settled (lost f d' c' k) = lost f d' c' k
  carried d c c₁ left n m _ _ _ _ same less settled (given now k less' settled') =
      subst (λ (q : PsCore). Sought d c left n (Ok tt) d (record q { store = now; operands = left }) k) (sym same)
      (given now k (omega arith) (settled_on (closed_part c.store) (closed_part c₁.store) (closed_part now) settled settled'))

  gave : (d d' d₁ : Dial) (c c₁ : PsCore) (op n : ℕ) (left : List PsObj) → act op d c ≡ Ok (d₁, c₁) → Gives (act op d c) d' (with_operands c left) → (d₁ ≡ d') × (c₁ ≡ with_operands c left)
  gave d d' d₁ c c₁ op n left e (inl h) = (same_dial d₁ d' c₁ (with_operands c left) (act op d c) e h, same_core d₁ d' c₁ (with_operands c left) (act op d c) e h)
  gave d d' d₁ c c₁ op n left e (inr h) = absurd (let f = h.1 in cc)

  module _ (taken : List Val) (left : List PsObj) where
    sought : (d : Dial) (c : PsCore) (op n : ℕ) (r : Answer) (d₁ : Dial) (c₁ : PsCore) (k : ℕ) → Operates d c op n r d₁ c₁ k → (d' : Dial) (xs o : List PsObj) → GivesSo first s d d' op taken left
        → Reached first c.store → Are s xs taken → c.operands ≡ xs ++ o → Sought d' c (left ++ o) n r d₁ c₁ k
    sought _ _ _ _ _ _ _ _ (acted d d₁ c c₁ op n e) d' xs o so reached are eq =
        let it = gave d d' d₁ c c₁ op n (left ++ o) e (so c xs o reached are eq) in
        subst (λ x. Sought d' c (left ++ o) n (Ok tt) x c₁ n) (sym it.0)
        (subst (λ y. Sought d' c (left ++ o) n (Ok tt) d' y n) (sym it.1) (given c.store n (omega arith) (settled_same (closed_part c.store))))
    sought _ _ _ _ _ _ _ _ (raised d c op n x e) d' xs o so reached are eq = lost (Error x) d c n
    sought _ _ _ _ _ _ _ _ (forced d d₁ c c₁ c₂ op u n m k r e f rest) d' xs o so reached are eq =
        let same : c₁ ≡ record c { store = c₁.store } = unit_state leaves u n m c c₁ (reached_settles leaves keeps first above c.store reached).1 f in
        let settles : Settles c.store c₁.store = unit_settles leaves u n m c c₁ (reached_settles leaves keeps first above c.store reached).1 f in
        carried d' c c₁ (left ++ o) n m r d₁ c₂ k same (unit_steps leaves u n m c c₁ (reached_settles leaves keeps first above c.store reached).1 f) settles.0
        (sought d c₁ op m r d₁ c₂ k rest d' xs o so (onward u n m c c₁ reached f) are (ap (λ (q : PsCore). q.operands) same ∙ eq))
    sought _ _ _ _ _ _ _ _ (broken d c c₁ op u n m x e f) d' xs o so reached are eq = lost x d c₁ m
    sought _ _ _ _ _ _ _ _ (wanting d c op n) d' xs o so reached are eq = lost NoMemory d c n

    needed : (d d' : Dial) (c : PsCore) (op n : ℕ) (o : List PsObj) (r : Answer) (d₁ : Dial) (c₁ : PsCore) (k : ℕ) → needs d c op ≡ true → Sought d' c o n r d₁ c₁ k
        → Seeks (needs d c op) d' c o n r d₁ c₁ k
    needed d d' c op n o _ _ _ _ some (lost f d₁ c₁ k) = failed f d₁ c₁ k some
    needed d d' c op n o _ _ _ _ some (given now k less settled) = behind now k some less settled

    -- where something was raised, nothing was given and nothing needed
    never : (a : Act) (x : PsError) (d : Dial) (c : PsCore) → a ≡ Err (Raises x) → Gives a d c → ⊥
    never a x d c e (inl h) = absurd (cc)
    never a x d c e (inr h) = absurd (let g = h.1 in cc)

    seeks : (d : Dial) (c : PsCore) (op n : ℕ) (r : Answer) (d₁ : Dial) (c₁ : PsCore) (k : ℕ) → Operates d c op n r d₁ c₁ k → (d' : Dial) (xs o : List PsObj) → GivesSo first s d d' op taken left
        → Reached first c.store → Are s xs taken → c.operands ≡ xs ++ o → Seeks (needs d c op) d' c (left ++ o) n r d₁ c₁ k
    seeks _ _ _ _ _ _ _ _ (acted d d₁ c c₁ op n e) d' xs o so reached are eq =
        let it = gave d d' d₁ c c₁ op n (left ++ o) e (so c xs o reached are eq) in
        subst (λ x. Seeks (needs d c op) d' c (left ++ o) n (Ok tt) x c₁ n) (sym it.0)
        (subst (λ y. Seeks (needs d c op) d' c (left ++ o) n (Ok tt) d' y n) (sym it.1) at_once)
    seeks _ _ _ _ _ _ _ _ (raised d c op n x e) d' xs o so reached are eq = absurd (never (act op d c) x d' (with_operands c (left ++ o)) e (so c xs o reached are eq))
    seeks _ _ _ _ _ _ _ _ (forced d d₁ c c₁ c₂ op u n m k r e f rest) d' xs o so reached are eq =
        needed d d' c op n (left ++ o) r d₁ c₂ k (ap needs_unit e)
        (sought d c op n r d₁ c₂ k (forced d d₁ c c₁ c₂ op u n m k r e f rest) d' xs o so reached are eq)
    seeks _ _ _ _ _ _ _ _ (broken d c c₁ op u n m x e f) d' xs o so reached are eq = failed x d c₁ m (ap needs_unit e)
    seeks _ _ _ _ _ _ _ _ (wanting d c op n) d' xs o so reached are eq = lacking d c n

  -- so it finds it
  pub finds_at : (d d' : Dial) (op : ℕ) (taken : List Val) (left : List PsObj) → GivesSo first s d d' op taken left → FindsAt Operates printing s first d d' op taken left
  finds_at d d' op taken left so = λ c j xs o looked are eq n r d₁ c₁ k run.
      seeks taken left d c op n r d₁ c₁ k run d' xs o so (looked_reached leaves keeps first above c.store j looked) are eq
