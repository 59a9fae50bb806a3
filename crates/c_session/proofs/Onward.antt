-- Runs to an event are parts of a run with actions at its stops.
use Rattle.std.proofs.Common.{◌≡◌, refl, sym, ap, ◌∙◌, subst, arith, ℕ, suc, zero, ◌+◌, ◌≤◌, ◌∷◌, length, Bool, true, false, Some, None}
use Rattle.runs.specs.Runs.{Next, Goes, Passes, Exits, Undefined, Stopped, Course, Going, Comes, counted, passing, onward, until, Moment, Outcome, Reached, Breaks, Actions, here, over, after_count, past, then_on, after}
use Rattle.runs.proofs.Once.{Added, added}

some_none : {A : Type 0} {B : Type 0} (x : B) → Some x ≡ None → A
some_none x e = absurd cc

module _ {S : Type 0} where
  -- what a moment comes from, before a step's count, and before a point
  inv_count : (c : ℕ) (o : Outcome S) (m : Moment S) → after_count S c o ≡ Reached m → (m0 : Moment S) × (o ≡ Reached m0) × (m ≡ record m0 { count = c + m0.count })
  inv_count c (Reached m0) m e = (m0, refl, cc)
  inv_count c (Breaks r) m e = absurd cc

  inv_past : (q : ℕ) (o : Outcome S) (m : Moment S) → past S q o ≡ Reached m → (m0 : Moment S) × (o ≡ Reached m0) × (m ≡ record m0 { passed = q ∷ m0.passed })
  inv_past q (Reached m0) m e = (m0, refl, cc)
  inv_past q (Breaks r) m e = absurd cc

  inv_going : (d : ℕ) (o : Course S) (c : ℕ) (q : S) → counted d o ≡ Going c q → (c' : ℕ) × (o ≡ Going c' q)
  inv_going d (Going r s) c q e = (r, cc)
  inv_going d (Comes r f) c q e = absurd cc

  here_is : (s : S) (m : Moment S) → Reached (here S s) ≡ Reached m → here S s ≡ m
  here_is s m e = cc

module _ {S : Type 0} (step : S → Next S) (acts : Actions S) where
  -- behind one moment a run comes to another
  abbrev pub Extended : ℕ → S → Moment S → Moment S → Type 0
  Extended i s m m2 = (n : ℕ) × (m3 : Moment S) × (after S step acts n i s ≡ Reached m3) × (m3.exit ≡ m2.exit) × (m3.state ≡ m2.state) × (length m3.passed ≡ length m.passed + length m2.passed)

  abbrev Behind : (k i : ℕ) → Moment S → Moment S → Type 0
  Behind k i m m2 = after S step acts k (i + length m.passed) m.state ≡ Reached m2

  at_first : (k i : ℕ) (s : S) (m m2 : Moment S) → here S s ≡ m → Behind k i m m2 → Extended i s m m2
  at_first k i s m m2 e b =
      let none : i + 0 ≡ i = omega arith in
      let b' : after S step acts k (i + 0) s ≡ Reached m2 = subst (λ z. Behind k i z m2) (sym e) b in
      let long : length m2.passed ≡ 0 + length m2.passed = omega arith in
      (k, m2, subst (λ j. after S step acts k j s ≡ Reached m2) none b', refl, refl, long ∙ ap (λ (z : Moment S). length z.passed + length m2.passed) e)

  by_step : (n k i : ℕ) (s : S) (m m2 : Moment S) (x : Next S) → step s ≡ x → then_on S step acts x (after S step acts n) i ≡ Reached m → m.exit ≡ None → Behind k i m m2
      → ((j : ℕ) (t : S) (m0 : Moment S) → after S step acts n j t ≡ Reached m0 → m0.exit ≡ None → Behind k j m0 m2 → Extended j t m0 m2) → Extended i s m m2
  by_step n k i s m m2 (Goes c t) e a x b ih =
      let (m0, a0, same) = inv_count c (after S step acts n i t) m a in
      let r = ih i t m0 a0 (ap (λ (z : Moment S). z.exit) (sym same) ∙ x) (subst (λ z. Behind k i z m2) same b) in
      (suc r.0, record r.1 { count = c + r.1.count }, ap (λ z. then_on S step acts z (after S step acts r.0) i) e ∙ ap (after_count S c) r.2, r.3, r.4, r.5 ∙ ap (λ (z : Moment S). length z.passed + length m2.passed) (sym same))
  by_step n k i s m m2 (Passes q c t) e a x b ih =
      let (m1, a1, same) = inv_count c (past S q (after S step acts n (suc i) (acts i t))) m a in
      let (m0, a0, same0) = inv_past q (after S step acts n (suc i) (acts i t)) m1 a1 in
      let whole : m ≡ record m0 { passed = q ∷ m0.passed; count = c + m0.count } = same ∙ ap (λ (z : Moment S). record z { count = c + z.count }) same0 in
      let place : i + suc (length m0.passed) ≡ suc i + length m0.passed = omega arith in
      let b0 : after S step acts k (i + suc (length m0.passed)) m0.state ≡ Reached m2 = subst (λ z. Behind k i z m2) whole b in
      let r = ih (suc i) (acts i t) m0 a0 (ap (λ (z : Moment S). z.exit) (sym whole) ∙ x) (subst (λ j. after S step acts k j m0.state ≡ Reached m2) place b0) in
      let long : suc (length r.1.passed) ≡ suc (length m0.passed) + length m2.passed = omega (arith, r.5) in (
        suc r.0,
        record r.1 { passed = q ∷ r.1.passed; count = c + r.1.count },
        ap (λ z. then_on S step acts z (after S step acts r.0) i) e ∙ ap (λ z. after_count S c (past S q z)) r.2,
        r.3,
        r.4,
        long ∙ ap (λ (z : Moment S). length z.passed + length m2.passed) (sym whole),
      )
  by_step n k i s m m2 (Exits v c t) e a x b ih =
      let same : over S t v c ≡ m = cc in
      some_none v (ap (λ (z : Moment S). z.exit) same ∙ x)
  by_step n k i s m m2 (Undefined w) e a x b ih = absurd cc

  pub extend : (n k i : ℕ) (s : S) (m m2 : Moment S) → after S step acts n i s ≡ Reached m → m.exit ≡ None → Behind k i m m2 → Extended i s m m2
  extend zero k i s m m2 a x b = at_first k i s m m2 (here_is s m a) b
  extend (suc n) k i s m m2 a x b = by_step n k i s m m2 (step s) refl a x b (λ j t m0. extend n k j t m0 m2)

  -- nothing is done from this stop on
  abbrev pub Quiet : ℕ → Type 0
  Quiet i = (j : ℕ) (t : S) → i ≤ j → acts j t ≡ t

  later : (i : ℕ) → Quiet i → Quiet (suc i)
  later i q j t le = q j t (omega (arith, le))

  own : (i : ℕ) → Quiet i → (t : S) → acts i t ≡ t
  own i q t = q i t (omega arith)

  module _ (stops : ℕ → Bool) where
    abbrev pub ReachesState : ℕ → S → S → Type 0
    ReachesState i s q = (n : ℕ) × (m : Moment S) × (after S step acts n i s ≡ Reached m) × (m.exit ≡ None) × (m.state ≡ q)

    -- a moment, whose next step passes a point
    abbrev pub ReachesStop : ℕ → S → ℕ → S → Type 0
    ReachesStop i s q t = (n : ℕ) × (m : Moment S) × (after S step acts n i s ≡ Reached m) × (m.exit ≡ None) × ((c : ℕ) × (step m.state ≡ Passes q c t))

    longer : (i : ℕ) (s t q : S) (c : ℕ) → step s ≡ Goes c t → ReachesState i t q → ReachesState i s q
    longer i s t q c e (n, m, a, x, k) = (suc n, record m { count = c + m.count }, ap (λ z. then_on S step acts z (after S step acts n) i) e ∙ ap (after_count S c) a, x, k)

    passed_on : (i : ℕ) (s t q : S) (r c : ℕ) → Quiet i → step s ≡ Passes r c t → ReachesState (suc i) t q → ReachesState i s q
    passed_on i s t q r c quiet e (n, m, a, x, k) =
        (suc n, record m { passed = r ∷ m.passed; count = c + m.count }, ap (λ z. then_on S step acts z (after S step acts n) i) e ∙ ap (λ z. after_count S c (past S r (after S step acts n (suc i) z))) (own i quiet t) ∙ ap (λ z. after_count S c (past S r z)) a, x, k)

    longer_stop : (i : ℕ) (s t : S) (q : ℕ) (u : S) (c : ℕ) → step s ≡ Goes c t → ReachesStop i t q u → ReachesStop i s q u
    longer_stop i s t q u c e (n, m, a, x, k) = (suc n, record m { count = c + m.count }, ap (λ z. then_on S step acts z (after S step acts n) i) e ∙ ap (after_count S c) a, x, k)

    passed_stop : (i : ℕ) (s t : S) (q : ℕ) (u : S) (r c : ℕ) → Quiet i → step s ≡ Passes r c t → ReachesStop (suc i) t q u → ReachesStop i s q u
    passed_stop i s t q u r c quiet e (n, m, a, x, k) =
        (suc n, record m { passed = r ∷ m.passed; count = c + m.count }, ap (λ z. then_on S step acts z (after S step acts n) i) e ∙ ap (λ z. after_count S c (past S r (after S step acts n (suc i) z))) (own i quiet t) ∙ ap (λ z. after_count S c (past S r z)) a, x, k)

    -- a run on its way
    way_passing : (b : Bool) (k i : ℕ) (s t : S) (r d c : ℕ) (q : S) → Quiet i → step s ≡ Passes r d t → passing S step b r d t (until S step stops k) ≡ Going c q
        → ((c : ℕ) → until S step stops k t ≡ Going c q → ReachesState (suc i) t q) → ReachesState i s q
    way_passing true k i s t r d c q quiet e a ih = absurd cc
    way_passing false k i s t r d c q quiet e a ih =
        let g = inv_going d (until S step stops k t) c q a in
        passed_on i s t q r d quiet e (ih g.0 g.1)

    way_step : (k i : ℕ) (s : S) (x : Next S) (c : ℕ) (q : S) → Quiet i → step s ≡ x → onward S step stops x (until S step stops k) ≡ Going c q
        → ((j : ℕ) (t : S) (c : ℕ) → Quiet j → until S step stops k t ≡ Going c q → ReachesState j t q) → ReachesState i s q
    way_step k i s (Goes d t) c q quiet e a ih =
        let g = inv_going d (until S step stops k t) c q a in
        longer i s t q d e (ih i t g.0 quiet g.1)
    way_step k i s (Passes r d t) c q quiet e a ih = way_passing (stops r) k i s t r d c q quiet e a (λ c. ih (suc i) t c (later i quiet))
    way_step k i s (Exits v d t) c q quiet e a ih = absurd cc
    way_step k i s (Undefined w) c q quiet e a ih = absurd cc

    pub on_the_way : (k i : ℕ) (s : S) (c : ℕ) (q : S) → Quiet i → until S step stops k s ≡ Going c q → ReachesState i s q
    on_the_way zero i s c q quiet a = (zero, here S s, refl, refl, cc)
    on_the_way (suc k) i s c q quiet a = way_step k i s (step s) c q quiet refl a (λ j t d. on_the_way k j t d q)

    -- a run that comes to a stop
    stop_passing : (b : Bool) (k i : ℕ) (s t : S) (r d c q : ℕ) (u : S) → Quiet i → step s ≡ Passes r d t → passing S step b r d t (until S step stops k) ≡ Comes c (Stopped q u)
        → ((c : ℕ) → until S step stops k t ≡ Comes c (Stopped q u) → ReachesStop (suc i) t q u) → ReachesStop i s q u
    stop_passing true k i s t r d c q u quiet e a ih =
        let point : r ≡ q = cc in
        let state : t ≡ u = cc in
        (zero, here S s, refl, refl, (d, e ∙ ap (λ z. Passes z d t) point ∙ ap (λ z. Passes q d z) state))
    stop_passing false k i s t r d c q u quiet e a ih =
        let g : Added S d (until S step stops k t) c (Stopped q u) = added d (until S step stops k t) c (Stopped q u) a in
        passed_stop i s t q u r d quiet e (ih g.rest g.comes)

    stop_step : (k i : ℕ) (s : S) (x : Next S) (c q : ℕ) (u : S) → Quiet i → step s ≡ x → onward S step stops x (until S step stops k) ≡ Comes c (Stopped q u)
        → ((j : ℕ) (t : S) (c : ℕ) → Quiet j → until S step stops k t ≡ Comes c (Stopped q u) → ReachesStop j t q u) → ReachesStop i s q u
    stop_step k i s (Goes d t) c q u quiet e a ih =
        let g : Added S d (until S step stops k t) c (Stopped q u) = added d (until S step stops k t) c (Stopped q u) a in
        longer_stop i s t q u d e (ih i t g.rest quiet g.comes)
    stop_step k i s (Passes r d t) c q u quiet e a ih = stop_passing (stops r) k i s t r d c q u quiet e a (λ c. ih (suc i) t c (later i quiet))
    stop_step k i s (Exits v d t) c q u quiet e a ih = absurd cc
    stop_step k i s (Undefined w) c q u quiet e a ih = absurd cc

    pub comes_to_stop : (k i : ℕ) (s : S) (c q : ℕ) (u : S) → Quiet i → until S step stops k s ≡ Comes c (Stopped q u) → ReachesStop i s q u
    comes_to_stop zero i s c q u quiet a = absurd cc
    comes_to_stop (suc k) i s c q u quiet a = stop_step k i s (step s) c q u quiet refl a (λ j t d. comes_to_stop k j t d q u)

-- ---- actions that are the same up to a stop

module _ {S : Type 0} (step : S → Next S) (acts acts' : Actions S) where
  abbrev pub Alike : ℕ → Type 0
  Alike k = (j : ℕ) (t : S) → suc j ≤ k → acts j t ≡ acts' j t

  alike_step : (n i k : ℕ) (m : Moment S) (x : Next S) → Alike k → i + length m.passed ≤ k → then_on S step acts x (after S step acts n) i ≡ Reached m
      → ((j : ℕ) (t : S) (m : Moment S) → j + length m.passed ≤ k → after S step acts n j t ≡ Reached m → after S step acts' n j t ≡ Reached m) → then_on S step acts' x (after S step acts' n) i ≡ Reached m
  alike_step n i k m (Goes c t) same le a ih =
      let (m0, a0, e) = inv_count c (after S step acts n i t) m a in
      let le0 : i + length m0.passed ≤ k = subst (λ z. i + length z.passed ≤ k) e le in
      ap (after_count S c) (ih i t m0 le0 a0) ∙ ap Reached (sym e)
  alike_step n i k m (Passes q c t) same le a ih =
      let (m1, a1, e) = inv_count c (past S q (after S step acts n (suc i) (acts i t))) m a in
      let (m0, a0, e0) = inv_past q (after S step acts n (suc i) (acts i t)) m1 a1 in
      let whole : m ≡ record m0 { passed = q ∷ m0.passed; count = c + m0.count } = e ∙ ap (λ (z : Moment S). record z { count = c + z.count }) e0 in
      let le1 : i + suc (length m0.passed) ≤ k = subst (λ z. i + length z.passed ≤ k) whole le in
      let first : acts i t ≡ acts' i t = same i t (omega (arith, le1)) in
      ap (λ z. after_count S c (past S q (after S step acts' n (suc i) z))) (sym first) ∙ ap (λ z. after_count S c (past S q z)) (ih (suc i) (acts i t) m0 (omega (arith, le1)) a0) ∙ ap Reached (sym whole)
  alike_step n i k m (Exits v c t) same le a ih = a
  alike_step n i k m (Undefined w) same le a ih = a

  pub alike : (n i k : ℕ) (s : S) (m : Moment S) → Alike k → i + length m.passed ≤ k → after S step acts n i s ≡ Reached m → after S step acts' n i s ≡ Reached m
  alike zero i k s m same le a = a
  alike (suc n) i k s m same le a = alike_step n i k m (step s) same le a (λ j t m. alike n j k t m same)
