-- From single steps to whole runs.
use Rattle.std.proofs.Common.{◌≡◌, ℕ, zero, suc, ◌+◌, ◌*◌, ◌<◌, ◌≤◌, [], ◌∷◌, Option, Some, None, refl, sym, ap, ◌∙◌, subst, arith, zero-add, ◌-◌, ⊎_elim, ◌⊎◌, inl, inr, le_refl}
use Rattle.std.proofs.lemmas.Bool.{cases_lt}
use Rattle.std.specs.Prelude.{ℤ}
use Rattle.runs.specs.Runs.{Next, Goes, Passes, Exits, Undefined, Why, Moment, Outcome, Reached, Breaks, Actions, here, over, after_count, past, then_on, after}

after_count_twice : (T : Type 0) (a b c : ℕ) (o : Outcome T) → c ≡ a + b → after_count T a (after_count T b o) ≡ after_count T c o
after_count_twice T a b c (Breaks r) e = refl
after_count_twice T a b c (Reached m) e =
    let n : a + (b + m.count) ≡ c + m.count = omega arith in
    ap (λ k. Reached (record m { count = k })) n

after_count_none : (T : Type 0) (o : Outcome T) → after_count T 0 o ≡ o
after_count_none T (Breaks r) = refl
after_count_none T (Reached m) = ap (λ k. Reached (record m { count = k })) (zero-add m.count)

module _ (T : Type 0) (step : T → Next T) (resume : Actions T) (Q : T → Type 0) where
  -- n steps of this count without a stop, each from a state with Q
  abbrev pub Silent : ℕ → ℕ → T → T → Type 0
  Silent zero c t u = (c ≡ 0) × (t ≡ u)
  Silent (suc n) c t u = (a : ℕ) × (b : ℕ) × (v : T) × (c ≡ a + b) × (step t ≡ Goes a v) × Silent n b v u × Q t

  pub after_silent : (j c n m : ℕ) (h : ℕ) (t u : T) → m ≡ j + n → Silent j c t u → after T step resume m h t ≡ after_count T c (after T step resume n h u)
  after_silent zero c n m h t u e s =
      ap (λ k. after T step resume k h t) (e ∙ zero-add n) ∙ ap (after T step resume n h) s.1 ∙ sym (after_count_none T (after T step resume n h u)) ∙ ap (λ k. after_count T k (after T step resume n h u)) (sym s.0)
  after_silent (suc j) c n zero h t u e s = absurd (omega arith)
  after_silent (suc j) c n (suc m) h t u e s =
      let d : m ≡ j + n = omega arith in
      ap (λ x. then_on T step resume x (after T step resume m) h) s.4
      ∙ ap (after_count T s.0) (after_silent j s.1 n m h s.2 u d s.5)
      ∙ after_count_twice T s.0 s.1 c (after T step resume n h u) s.3

-- counts rise
abbrev IsNoMore : (S : Type 0) → Outcome S → Outcome S → Type 0
IsNoMore S (Reached k) (Reached l) = k.count ≤ l.count
IsNoMore S (Reached k) (Breaks r) = Unit {0}
IsNoMore S (Breaks r) o = Unit {0}

module _ (S : Type 0) (step : S → Next S) (acts : Actions S) where
  no_more_counted : (c : ℕ) (o n : Outcome S) → IsNoMore S o n → IsNoMore S (after_count S c o) (after_count S c n)
  no_more_counted c (Reached k) (Reached l) le = omega (arith, le)
  no_more_counted c (Reached k) (Breaks r) le = tt
  no_more_counted c (Breaks r) o le = tt

  no_more_past : (p : ℕ) (o n : Outcome S) → IsNoMore S o n → IsNoMore S (past S p o) (past S p n)
  no_more_past p (Reached k) (Reached l) le = le
  no_more_past p (Reached k) (Breaks r) le = tt
  no_more_past p (Breaks r) o le = tt

  from_none : (s : S) (o : Outcome S) → IsNoMore S (Reached (here S s)) o
  from_none s (Reached k) = omega arith
  from_none s (Breaks r) = tt

  rise_next : (rest more : ℕ → S → Outcome S) → ((h : ℕ) (s : S) → IsNoMore S (rest h s) (more h s)) → (h : ℕ) (x : Next S) → IsNoMore S (then_on S step acts x rest h) (then_on S step acts x more h)
  rise_next rest more ih h (Goes c s) = no_more_counted c (rest h s) (more h s) (ih h s)
  rise_next rest more ih h (Passes p c s) = no_more_counted c _ _ (no_more_past p _ _ (ih (suc h) (acts h s)))
  rise_next rest more ih h (Exits v c s) = le_refl c
  rise_next rest more ih h (Undefined r) = tt

  pub counts_rise : (j i h : ℕ) (s : S) → j ≤ i → IsNoMore S (after S step acts j h s) (after S step acts i h s)
  counts_rise zero i h s le = from_none s (after S step acts i h s)
  counts_rise (suc j) zero h s le = absurd (omega arith)
  counts_rise (suc j) (suc i) h s le = rise_next (after S step acts j) (after S step acts i) (λ h s. counts_rise j i h s (omega arith)) h (step s)

  pub no_fewer : (j i h : ℕ) (s : S) (k l : Moment S) → j ≤ i → after S step acts j h s ≡ Reached k → after S step acts i h s ≡ Reached l → k.count ≤ l.count
  no_fewer j i h s k l le e f = subst (λ o. IsNoMore S o (Reached l)) e (subst (IsNoMore S (after S step acts j h s)) f (counts_rise j i h s le))

module _ (S T : Type 0) (source : S → Next S) (target : T → Next T) (from : Actions S) (to : Actions T) (K : ℕ) (M E B : S → T → Type 0) (W : S → ℕ) where
  -- in no step of the target, what is left falls
  abbrev pub Falls : ℕ → ℕ → ℕ → Type 0
  Falls zero a b = a < b
  Falls (suc j) a b = Unit {0}

  -- what the target does for one step of the source from s, where B holds of s and each state on the way
  abbrev pub Answers : S → Next S → T → Type 0
  Answers o (Goes c s) t = (j : ℕ) × (k : ℕ) × (u : T) × (k ≤ K * c) × Silent T target to (B o) j k t u × M s u × Falls j (W s) (W o)
  Answers o (Passes p c s) t = (j : ℕ) × (k : ℕ) × (u : T) × (v : T) × (suc k ≤ K * c) × Silent T target to (B o) j k t u × (target u ≡ Passes p 1 v) × M s v × B o u
  Answers o (Exits n c s) t = (j : ℕ) × (k : ℕ) × (u : T) × (v : T) × (suc k ≤ K * c) × Silent T target to (B o) j k t u × (target u ≡ Exits n 1 v) × E s v × B o u
  Answers o (Undefined r) t = Unit {0}

  abbrev pub Related : Option ℤ → S → T → Type 0
  Related None s t = M s t
  Related (Some n) s t = E s t

  -- two moments at which the same was seen
  pub record Agrees (m : Moment S) (k : Moment T) : Type 0 where
    pub passed : k.passed ≡ m.passed
    pub exit : k.exit ≡ m.exit
    pub count : k.count ≤ K * m.count
    pub states : Related m.exit m.state k.state

  -- the target has come to the same
  abbrev pub Meets : Outcome S → Outcome T → Type 0
  Meets (Reached m) o = (k : Moment T) × (o ≡ Reached k) × Agrees m k
  Meets (Breaks r) o = Unit {0}

  -- of two moments of the source and those of the target that meet them: the count between the latter is bounded by that between the former
  abbrev pub IsBounded : Outcome S → Outcome S → Outcome T → Outcome T → Type 0
  IsBounded (Reached m) (Reached n) (Reached k) (Reached l) = l.count + K * m.count ≤ k.count + K * n.count
  IsBounded (Reached m) (Reached n) (Reached k) (Breaks r) = Unit {0}
  IsBounded (Reached m) (Reached n) (Breaks r) o = Unit {0}
  IsBounded (Reached m) (Breaks r) o q = Unit {0}
  IsBounded (Breaks r) n o q = Unit {0}

  -- a moment of the target on the way from one of the source to the next
  pub record IsOnTheWay (m : Moment S) (k : Moment T) : Type 0 where
    pub passed : k.passed ≡ m.passed
    pub exit : k.exit ≡ m.exit
    pub states : B m.state k.state

  abbrev pub LiesBetween : Outcome S → Outcome S → Outcome T → Type 0
  LiesBetween (Reached m) (Reached n) o = (k : Moment T) × (o ≡ Reached k) × IsOnTheWay m k
  LiesBetween (Reached m) (Breaks r) o = Unit {0}
  LiesBetween (Breaks r) n o = Unit {0}

  meets_counted : (c d : ℕ) (o : Outcome S) (q : Outcome T) → d ≤ K * c → Meets o q → Meets (after_count S c o) (after_count T d q)
  meets_counted c d (Breaks r) q le x = tt
  meets_counted c d (Reached m) q le x =
      let k = x.0 in
      let a = x.2 in
      (record k { count = d + k.count }, ap (after_count T d) x.1, record { passed = a.passed; exit = a.exit; count = grind arith; states = a.states })

  meets_past : (p : ℕ) (o : Outcome S) (q : Outcome T) → Meets o q → Meets (past S p o) (past T p q)
  meets_past p (Breaks r) q x = tt
  meets_past p (Reached m) q x =
      let k = x.0 in
      let a = x.2 in
      (record k { passed = p ∷ k.passed }, ap (past T p) x.1, record { passed = ap (λ ps. p ∷ ps) a.passed; exit = a.exit; count = a.count; states = a.states })

  bounded_counted : (c d : ℕ) (m n : Outcome S) (k l : Outcome T) → IsBounded m n k l → IsBounded (after_count S c m) (after_count S c n) (after_count T d k) (after_count T d l)
  bounded_counted c d (Reached m) (Reached n) (Reached k) (Reached l) x = grind arith
  bounded_counted c d (Reached m) (Reached n) (Reached k) (Breaks r) x = tt
  bounded_counted c d (Reached m) (Reached n) (Breaks r) o x = tt
  bounded_counted c d (Reached m) (Breaks r) o q x = tt
  bounded_counted c d (Breaks r) n o q x = tt

  bounded_past : (p : ℕ) (m n : Outcome S) (k l : Outcome T) → IsBounded m n k l → IsBounded (past S p m) (past S p n) (past T p k) (past T p l)
  bounded_past p (Reached m) (Reached n) (Reached k) (Reached l) x = x
  bounded_past p (Reached m) (Reached n) (Reached k) (Breaks r) x = tt
  bounded_past p (Reached m) (Reached n) (Breaks r) o x = tt
  bounded_past p (Reached m) (Breaks r) o q x = tt
  bounded_past p (Breaks r) n o q x = tt

  between_counted : (c d : ℕ) (o n : Outcome S) (q : Outcome T) → LiesBetween o n q → LiesBetween (after_count S c o) (after_count S c n) (after_count T d q)
  between_counted c d (Reached m) (Reached n) q x =
      let k = x.0 in
      let a = x.2 in
      (record k { count = d + k.count }, ap (after_count T d) x.1, record { passed = a.passed; exit = a.exit; states = a.states })
  between_counted c d (Reached m) (Breaks r) q x = tt
  between_counted c d (Breaks r) n q x = tt

  between_past : (p : ℕ) (o n : Outcome S) (q : Outcome T) → LiesBetween o n q → LiesBetween (past S p o) (past S p n) (past T p q)
  between_past p (Reached m) (Reached n) q x =
      let k = x.0 in
      let a = x.2 in
      (record k { passed = p ∷ k.passed }, ap (past T p) x.1, record { passed = ap (λ ps. p ∷ ps) a.passed; exit = a.exit; states = a.states })
  between_past p (Reached m) (Breaks r) q x = tt
  between_past p (Breaks r) n q x = tt

  bounded_start : (s : S) (t : T) (n : Outcome S) (l : Outcome T) → Meets n l → IsBounded (Reached (here S s)) n (Reached (here T t)) l
  bounded_start s t (Breaks r) l x = tt
  bounded_start s t (Reached n) l x = subst (λ l. IsBounded (Reached (here S s)) (Reached n) (Reached (here T t)) l) (sym x.1) (omega (arith, x.2.count))

  -- a state on the way
  on_the_way : (f : S) (i c j : ℕ) (h : ℕ) (t u : T) → j < i → Silent T target to (B f) i c t u → (v : T) × (k : ℕ) × (after T target to j h t ≡ Reached (record { state = v; passed = []; count = k; exit = None })) × B f v
  on_the_way f zero c j h t u lt s = absurd (omega arith)
  on_the_way f (suc i) c zero h t u lt s = (t, 0, refl, s.6)
  on_the_way f (suc i) c (suc j) h t u lt s =
      let w = on_the_way f i s.1 j h s.2 u (omega arith) s.5 in
      (w.0, s.0 + w.1, ap (λ x. then_on T target to x (after T target to j) h) s.4 ∙ ap (after_count T s.0) w.2, w.3)

  way_between : (f : S) (n : Outcome S) (q : Outcome T) (v : T) (k : ℕ) → q ≡ Reached (record { state = v; passed = []; count = k; exit = None }) → B f v → LiesBetween (Reached (here S f)) n q
  way_between f (Reached n) q v k e b = (record { state = v; passed = []; count = k; exit = None }, e, record { passed = refl; exit = refl; states = b })
  way_between f (Breaks r) q v k e b = tt

  bounded_same : (o r : Outcome S) (x x' y y' : Outcome T) → x ≡ x' → y ≡ y' → IsBounded o r x' y' → IsBounded o r x y
  bounded_same o r x x' y y' e f b = subst (λ z. IsBounded o r z y) (sym e) (subst (IsBounded o r x') (sym f) b)

  in_all : (a b c d x y units : ℕ) → b + K * x ≤ a + K * y → a ≤ c → d ≤ b → y ≡ x + units → d ≤ c + K * units
  in_all a b c d x y units h up down e = grind arith

  -- Each step of the source is answered, and so is what is done at a stop.
  module _ (steps : (s : S) (t : T) → M s t → Answers s (source s) t) (resumes : (i : ℕ) (s : S) (t : T) → M s t → M (from i s) (to i t)) (ends : (s : S) (t : T) → E s t → B s t) where
    -- after one step more of the source, and then n
    abbrev at_next : (n : ℕ) → ((h : ℕ) (s : S) (t : T) → M s t → ℕ) → (f : S) (h : ℕ) (t : T) (x : Next S) → Answers f x t → ℕ
    at_next n rest f h t (Goes c s) a = a.0 + rest h s a.2 a.5
    at_next n rest f h t (Passes p c s) a = suc a.0 + rest (suc h) (from h s) (to h a.3) (resumes h s a.3 a.7)
    at_next n rest f h t (Exits v c s) a = suc a.0 + n
    at_next n rest f h t (Undefined r) a = 0

    -- the number of steps of the target that meet n of the source
    abbrev pub at : (n h : ℕ) (s : S) (t : T) → M s t → ℕ
    at zero h s t m = 0
    at (suc n) h s t m = at_next n (at n) s h t (source s) (steps s t m)

    -- where a step of the source goes on, or passes a point
    goes_to : (f : S) (h : ℕ) (t : T) (c : ℕ) (s : S) (a : Answers f (Goes c s) t) (i j : ℕ) → j ≡ a.0 + i → after T target to j h t ≡ after_count T a.1 (after T target to i h a.2)
    goes_to f h t c s a i j e = after_silent T target to (B f) a.0 a.1 i j h t a.2 e a.4

    passes_to : (f : S) (h : ℕ) (t : T) (p c : ℕ) (s : S) (a : Answers f (Passes p c s) t) (i j : ℕ) → j ≡ suc a.0 + i → after T target to j h t ≡ after_count T (suc a.1) (past T p (after T target to i (suc h) (to h a.3)))
    passes_to f h t p c s a i j e =
        after_silent T target to (B f) a.0 a.1 (suc i) j h t a.2 (omega arith) a.5
        ∙ ap (λ x. after_count T a.1 (then_on T target to x (after T target to i) h)) a.6
        ∙ after_count_twice T a.1 1 (suc a.1) (past T p (after T target to i (suc h) (to h a.3))) (omega arith)

    exits_to : (f : S) (h : ℕ) (t : T) (v : ℤ) (c : ℕ) (s : S) (a : Answers f (Exits v c s) t) (i j : ℕ) → j ≡ suc a.0 + i → after T target to j h t ≡ Reached (over T a.3 v (a.1 + 1))
    exits_to f h t v c s a i j e =
        after_silent T target to (B f) a.0 a.1 (suc i) j h t a.2 (omega arith) a.5 ∙ ap (λ x. after_count T a.1 (then_on T target to x (after T target to i) h)) a.6

    -- ---- what is said of one step more

    meet_next : (n : ℕ) → ((h : ℕ) (s : S) (t : T) (m : M s t) → Meets (after S source from n h s) (after T target to (at n h s t m) h t))
        → (f : S) (h : ℕ) (t : T) (x : Next S) (a : Answers f x t) → Meets (then_on S source from x (after S source from n) h) (after T target to (at_next n (at n) f h t x a) h t)
    meet_next n ih f h t (Goes c s) a =
        let q = at n h s a.2 a.5 in
        subst (Meets (after_count S c (after S source from n h s))) (sym (goes_to f h t c s a q _ refl)) (meets_counted c a.1 _ _ a.3 (ih h s a.2 a.5))
    meet_next n ih f h t (Passes p c s) a =
        let o = resumes h s a.3 a.7 in
        let q = at n (suc h) (from h s) (to h a.3) o in
        subst (Meets (after_count S c (past S p (after S source from n (suc h) (from h s))))) (sym (passes_to f h t p c s a q _ refl)) (meets_counted c (suc a.1) _ _ a.4 (meets_past p _ _ (ih (suc h) (from h s) (to h a.3) o)))
    meet_next n ih f h t (Exits v c s) a =
        (over T a.3 v (a.1 + 1), exits_to f h t v c s a n _ refl, record { passed = refl; exit = refl; count = omega (arith, a.4); states = a.7 })
    meet_next n ih f h t (Undefined r) a = tt

    -- each moment of the source is met
    pub meets : (n h : ℕ) (s : S) (t : T) (m : M s t) → Meets (after S source from n h s) (after T target to (at n h s t m) h t)
    meets zero h s t m = (here T t, refl, record { passed = refl; exit = refl; count = omega arith; states = m })
    meets (suc n) h s t m = meet_next n (λ h s t m. meets n h s t m) s h t (source s) (steps s t m)

    ascend_next : (n : ℕ) → ((h : ℕ) (s : S) (t : T) (m : M s t) → at n h s t m ≤ at (suc n) h s t m)
        → (f : S) (h : ℕ) (t : T) (x : Next S) (a : Answers f x t) → at_next n (at n) f h t x a ≤ at_next (suc n) (at (suc n)) f h t x a
    ascend_next n ih f h t (Goes c s) a = omega (arith, ih h s a.2 a.5)
    ascend_next n ih f h t (Passes p c s) a = omega (arith, ih (suc h) (from h s) (to h a.3) (resumes h s a.3 a.7))
    ascend_next n ih f h t (Exits v c s) a = omega arith
    ascend_next n ih f h t (Undefined r) a = omega arith

    pub ascends : (n h : ℕ) (s : S) (t : T) (m : M s t) → at n h s t m ≤ at (suc n) h s t m
    ascends zero h s t m = omega arith
    ascends (suc n) h s t m = ascend_next n (λ h s t m. ascends n h s t m) s h t (source s) (steps s t m)

    bound_next : (n d : ℕ)
        → ((h : ℕ) (s : S) (t : T) (m : M s t) → IsBounded (after S source from n h s) (after S source from d h s) (after T target to (at n h s t m) h t) (after T target to (at d h s t m) h t))
        → (f : S) (h : ℕ) (t : T) (x : Next S) (a : Answers f x t)
        → IsBounded (then_on S source from x (after S source from n) h) (then_on S source from x (after S source from d) h) (after T target to (at_next n (at n) f h t x a) h t) (after T target to (at_next d (at d) f h t x a) h t)
    bound_next n d ih f h t (Goes c s) a =
        let o = after_count S c (after S source from n h s) in
        let r = after_count S c (after S source from d h s) in
        bounded_same o r _ _ _ _ (goes_to f h t c s a (at n h s a.2 a.5) (a.0 + at n h s a.2 a.5) refl) (goes_to f h t c s a (at d h s a.2 a.5) (a.0 + at d h s a.2 a.5) refl)
        (bounded_counted c a.1 _ _ _ _ (ih h s a.2 a.5))
    bound_next n d ih f h t (Passes p c s) a =
        let g = suc h in
        let s' = from h s in
        let u = to h a.3 in
        let m = resumes h s a.3 a.7 in
        let o = after_count S c (past S p (after S source from n g s')) in
        let r = after_count S c (past S p (after S source from d g s')) in
        bounded_same o r _ _ _ _ (passes_to f h t p c s a (at n g s' u m) (suc a.0 + at n g s' u m) refl) (passes_to f h t p c s a (at d g s' u m) (suc a.0 + at d g s' u m) refl)
        (bounded_counted c (suc a.1) _ _ _ _ (bounded_past p _ _ _ _ (ih g s' u m)))
    bound_next n d ih f h t (Exits v c s) a =
        let o : Outcome S = Reached (over S s v c) in
        let q : Outcome T = Reached (over T a.3 v (a.1 + 1)) in
        let same : IsBounded o o q q = omega arith in
        bounded_same o o _ q _ q (exits_to f h t v c s a n (suc a.0 + n) refl) (exits_to f h t v c s a d (suc a.0 + d) refl) same
    bound_next n d ih f h t (Undefined r) a = tt

    -- the count from one moment to a later one is bounded
    pub bounds : (n d h : ℕ) (s : S) (t : T) (m : M s t) → n ≤ d
        → IsBounded (after S source from n h s) (after S source from d h s) (after T target to (at n h s t m) h t) (after T target to (at d h s t m) h t)
    bounds zero d h s t m le = bounded_start s t (after S source from d h s) (after T target to (at d h s t m) h t) (meets d h s t m)
    bounds (suc n) zero h s t m le = absurd (omega arith)
    bounds (suc n) (suc d) h s t m le = bound_next n d (λ h s t m. bounds n d h s t m (omega arith)) s h t (source s) (steps s t m)

    -- so it is between any two moments of the target that lie there
    pub takes : (n d units h : ℕ) (s : S) (t : T) (m : M s t) (o q : Moment S) → n ≤ d → after S source from n h s ≡ Reached o → after S source from d h s ≡ Reached q → q.count ≡ o.count + units
        → (i j : ℕ) (k l : Moment T) → at n h s t m ≤ i → i ≤ j → j ≤ at d h s t m → after T target to i h t ≡ Reached k → after T target to j h t ≡ Reached l → l.count ≤ k.count + K * units
    takes n d units h s t m o q le eo eq sum i j k l from_n ij to_d ek el =
        let first = subst (λ x. Meets x (after T target to (at n h s t m) h t)) eo (meets n h s t m) in
        let last = subst (λ x. Meets x (after T target to (at d h s t m) h t)) eq (meets d h s t m) in
        let b = subst (λ x. IsBounded (Reached o) (Reached q) x (Reached last.0)) first.1 (subst (λ x. IsBounded (Reached o) (Reached q) (after T target to (at n h s t m) h t) x) last.1
        (subst (λ x. IsBounded x (Reached q) (after T target to (at n h s t m) h t) (after T target to (at d h s t m) h t)) eo
        (subst (λ x. IsBounded (after S source from n h s) x (after T target to (at n h s t m) h t) (after T target to (at d h s t m) h t)) eq (bounds n d h s t m le)))) in
        let up = no_fewer T target to (at n h s t m) i h t first.0 k from_n first.1 ek in
        let down = no_fewer T target to j (at d h s t m) h t l last.0 to_d el last.1 in
        in_all first.0.count last.0.count k.count l.count o.count q.count units b up down sum

    -- ---- moments in between

    between_first : (f : S) (h : ℕ) (t : T) (x : Next S) (a : Answers f x t) (j : ℕ) → j < at_next 0 (at 0) f h t x a → LiesBetween (Reached (here S f)) (then_on S source from x (after S source from 0) h) (after T target to j h t)
    between_first f h t (Goes c s) a j lt =
        let o = then_on S source from (Goes c s) (after S source from 0) h in
        let w = on_the_way f a.0 a.1 j h t a.2 (omega (arith, lt)) a.4 in
        way_between f o (after T target to j h t) w.0 w.1 w.2 w.3
    between_first f h t (Passes p c s) a j lt =
        let o = then_on S source from (Passes p c s) (after S source from 0) h in
        ⊎_elim
        (λ l. let w = on_the_way f a.0 a.1 j h t a.2 l a.5 in way_between f o (after T target to j h t) w.0 w.1 w.2 w.3)
        (λ ge. way_between f o (after T target to j h t) a.2 (a.1 + 0) (after_silent T target to (B f) a.0 a.1 0 j h t a.2 (omega (arith, lt, ge)) a.5) a.8)
        (cases_lt j a.0)
    between_first f h t (Exits v c s) a j lt =
        let o = then_on S source from (Exits v c s) (after S source from 0) h in
        ⊎_elim
        (λ l. let w = on_the_way f a.0 a.1 j h t a.2 l a.5 in way_between f o (after T target to j h t) w.0 w.1 w.2 w.3)
        (λ ge. way_between f o (after T target to j h t) a.2 (a.1 + 0) (after_silent T target to (B f) a.0 a.1 0 j h t a.2 (omega (arith, lt, ge)) a.5) a.8)
        (cases_lt j a.0)
    between_first f h t (Undefined r) a j lt = absurd (omega arith)

    between_next : (n : ℕ)
        → ((h : ℕ) (s : S) (t : T) (m : M s t) (j : ℕ) → at n h s t m ≤ j → j < at (suc n) h s t m → LiesBetween (after S source from n h s) (after S source from (suc n) h s) (after T target to j h t))
        → (f : S) (h : ℕ) (t : T) (x : Next S) (a : Answers f x t) (j : ℕ) → at_next n (at n) f h t x a ≤ j → j < at_next (suc n) (at (suc n)) f h t x a
        → LiesBetween (then_on S source from x (after S source from n) h) (then_on S source from x (after S source from (suc n)) h) (after T target to j h t)
    between_next n ih f h t (Goes c s) a j le lt =
        let i = j - a.0 in
        let same : j ≡ a.0 + i = omega (arith, le) in
        subst (LiesBetween (after_count S c (after S source from n h s)) (after_count S c (after S source from (suc n) h s))) (sym (goes_to f h t c s a i j same))
        (between_counted c a.1 _ _ _ (ih h s a.2 a.5 i (omega (arith, le, same)) (omega (arith, lt, same))))
    between_next n ih f h t (Passes p c s) a j le lt =
        let i = j - suc a.0 in
        let same : j ≡ suc a.0 + i = omega (arith, le) in
        let g = suc h in
        let s' = from h s in
        subst (LiesBetween (after_count S c (past S p (after S source from n g s'))) (after_count S c (past S p (after S source from (suc n) g s')))) (sym (passes_to f h t p c s a i j same))
        (between_counted c (suc a.1) _ _ _ (between_past p _ _ _ (ih g s' (to h a.3) (resumes h s a.3 a.7) i (omega (arith, le, same)) (omega (arith, lt, same)))))
    between_next n ih f h t (Exits v c s) a j le lt =
        (over T a.3 v (a.1 + 1), exits_to f h t v c s a n j (omega (arith, le, lt)), record { passed = refl; exit = refl; states = ends s a.3 a.7 })
    between_next n ih f h t (Undefined r) a j le lt = tt

    -- each moment of the target from one that meets the source to the next is on the way
    pub between : (n h : ℕ) (s : S) (t : T) (m : M s t) (j : ℕ) → at n h s t m ≤ j → j < at (suc n) h s t m → LiesBetween (after S source from n h s) (after S source from (suc n) h s) (after T target to j h t)
    between zero h s t m j le lt = between_first s h t (source s) (steps s t m) j lt
    between (suc n) h s t m j le lt = between_next n (λ h s t m j le lt. between n h s t m j le lt) s h t (source s) (steps s t m) j le lt

    -- ---- all moments

    -- the source comes so far, or is undefined
    abbrev pub ComesTo : (j h : ℕ) (s : S) (t : T) → M s t → Type 0
    ComesTo j h s t m = (n : ℕ) × ((j < at (suc n) h s t m) ⊎ ((why : Why) × (after S source from n h s ≡ Breaks why)))

    come_next : (j : ℕ) → ((i : ℕ) → i < j → (h : ℕ) (s : S) (t : T) (m : M s t) → ComesTo i h s t m) → (f : S) → ((h : ℕ) (s : S) (t : T) → W s < W f → (m : M s t) → ComesTo j h s t m)
        → (h : ℕ) (t : T) (x : Next S) (a : Answers f x t) → (n : ℕ) × ((j < at_next n (at n) f h t x a) ⊎ ((why : Why) × (then_on S source from x (after S source from n) h ≡ Breaks why)))
    come_next j fewer f less h t (Undefined r) a = (0, inr (r, refl))
    come_next j fewer f less h t (Exits v c s) a = (j, inl (omega arith))
    come_next j fewer f less h t (Goes c s) a =
        ⊎_elim
        (λ lt. (0, inl (omega (arith, lt))))
        (λ ge. further a.0 refl ge)
        (cases_lt j a.0)
      where
        lifted : (i : ℕ) → j ≡ a.0 + i → ComesTo i h s a.2 a.5 → (n : ℕ) × ((j < a.0 + at n h s a.2 a.5) ⊎ ((why : Why) × (after_count S c (after S source from n h s) ≡ Breaks why)))
        lifted i e r = ⊎_elim (λ lt. (suc r.0, inl (omega (arith, lt, e)))) (λ b. (r.0, inr (b.0, ap (after_count S c) b.1))) r.1

        further : (i : ℕ) → a.0 ≡ i → i ≤ j → (n : ℕ) × ((j < a.0 + at n h s a.2 a.5) ⊎ ((why : Why) × (after_count S c (after S source from n h s) ≡ Breaks why)))
        further zero e ge = lifted j (omega (arith, e)) (less h s a.2 (subst (λ i. Falls i (W s) (W f)) e a.6) a.5)
        further (suc i) e ge = lifted (j - a.0) (omega (arith, e, ge)) (fewer (j - a.0) (omega (arith, e, ge)) h s a.2 a.5)
    come_next j fewer f less h t (Passes p c s) a =
        ⊎_elim
        (λ lt. (0, inl (omega (arith, lt))))
        (λ ge.
        let i = j - suc a.0 in
        let o = resumes h s a.3 a.7 in
        let r = fewer i (omega arith) (suc h) (from h s) (to h a.3) o in
        ⊎_elim (λ lt. (suc r.0, inl (omega (arith, lt, ge)))) (λ b. (r.0, inr (b.0, ap (λ q. after_count S c (past S p q)) b.1))) r.1)
        (cases_lt j (suc a.0))

    after_one : (j h : ℕ) (s : S) (t : T) (m : M s t) → ((n : ℕ) × ((j < at_next n (at n) s h t (source s) (steps s t m)) ⊎ ((why : Why) × (then_on S source from (source s) (after S source from n) h ≡ Breaks why)))) → ComesTo j h s t m
    after_one j h s t m r = ⊎_elim (λ lt. (r.0, inl lt)) (λ b. (suc r.0, inr b)) r.1

    come_less : (j : ℕ) → ((i : ℕ) → i < j → (h : ℕ) (s : S) (t : T) (m : M s t) → ComesTo i h s t m) → (w : ℕ) (h : ℕ) (s : S) (t : T) → W s < w → (m : M s t) → ComesTo j h s t m
    come_less j fewer zero h s t lt m = absurd (omega arith)
    come_less j fewer (suc w) h s t lt m =
        after_one j h s t m (come_next j fewer s (λ h s' t' lt' m'. come_less j fewer w h s' t' (omega arith) m') h t (source s) (steps s t m))

    come_below : (b : ℕ) (j : ℕ) → j < b → (h : ℕ) (s : S) (t : T) (m : M s t) → ComesTo j h s t m
    come_below zero j lt h s t m = absurd (omega arith)
    come_below (suc b) j lt h s t m = come_less j (λ i lt' h s t m. come_below b i (omega arith) h s t m) (suc (W s)) h s t (omega arith) m

    -- so each moment of the target comes before one that meets the source, or the source is undefined
    pub comes_to : (j h : ℕ) (s : S) (t : T) (m : M s t) → ComesTo j h s t m
    comes_to j h s t m = come_below (suc j) j (omega arith) h s t m
