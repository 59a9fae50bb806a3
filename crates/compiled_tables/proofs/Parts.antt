-- Each function of a program is one of one file, and each point of one function.
use Rattle.std.proofs.Common.{◌≡◌, ℕ, zero, suc, ◌+◌, ◌<◌, ◌≤◌, Bool, true, false, ◌==◌, List, [], ◌∷◌, length, slice_get, refl, ap, ◌∙◌, arith, length-append}
use Rattle.std.proofs.lemmas.Bool.{eqb-true}
use Rattle.c_tree.specs.declared.rows.Program.{Program}
use Rattle.c_tree.specs.declared.rows.UnitRow.{UnitRow}
use Rattle.c_tree.specs.declared.rows.Function.{Function}
use Rattle.c_typing.specs.Programs.{numbers}
use Rattle.c_body.specs.Stops.{Stop}
use Rattle.c_file.specs.Files.{State, Bodied}
use Rattle.c_file.specs.Made.{Each, IsFunctionOf, all_stops, points_from, all_points, functions_of, AreUnits, HasRows}
use Rattle.ps_tables.specs.Rows.{weigh, total, weigh_units, points_in, points_of}
use Rattle.compiled_tables.proofs.Files.{stop_count}

-- ---- functions of files

-- what bodies count, from a number on
abbrev counts : (ℕ → ℕ) → ℕ → List Bodied → ℕ
counts w n [] = 0
counts w n (b ∷ bs) = w n + counts w (suc n) bs

-- the units' functions, from a unit on
abbrev units_of : (ℕ → ℕ) → (u count n : ℕ) → (q : State) → List Bodied → ℕ
units_of w u zero n q bs = 0
units_of w u (suc k) n q bs = weigh w (functions_of q u n bs) + units_of w (suc u) k n q bs

module _ (w : ℕ → ℕ) (q : State) where
  -- a body of an earlier unit is of none of these
  later : (u k n : ℕ) (b : Bodied) (bs : List Bodied) → b.unit < u → units_of w u k n q (b ∷ bs) ≡ units_of w u k (suc n) q bs
  later u zero n b bs l = refl
  later u (suc k) n b bs l = by (b.unit == u) refl (later (suc u) k n b bs (omega arith))
    where
      by : (c : Bool) → (b.unit == u) ≡ c → units_of w (suc u) k n q (b ∷ bs) ≡ units_of w (suc u) k (suc n) q bs → units_of w u (suc k) n q (b ∷ bs) ≡ units_of w u (suc k) (suc n) q bs
      by true e h = let f = eqb-true b.unit u e in absurd (omega arith)
      by false e h = rw e (ap (λ (x : ℕ). weigh w (functions_of q u (suc n) bs) + x) h)

  -- one more body is of one unit at most
  one_more : (u k n : ℕ) (b : Bodied) (bs : List Bodied) → units_of w u k n q (b ∷ bs) ≤ w n + units_of w u k (suc n) q bs
  one_more u zero n b bs = omega arith
  one_more u (suc k) n b bs = by (b.unit == u) refl (one_more (suc u) k n b bs) (later (suc u) k n b bs)
    where
      by : (c : Bool) → (b.unit == u) ≡ c → units_of w (suc u) k n q (b ∷ bs) ≤ w n + units_of w (suc u) k (suc n) q bs → (b.unit < suc u → units_of w (suc u) k n q (b ∷ bs) ≡ units_of w (suc u) k (suc n) q bs)
          → units_of w u (suc k) n q (b ∷ bs) ≤ w n + units_of w u (suc k) (suc n) q bs
      by true e h g = let f = eqb-true b.unit u e in let i = g (omega arith) in rw e (omega arith)
      by false e h g = rw e (omega arith)

  none : (u k n : ℕ) → units_of w u k n q [] ≡ 0
  none u zero n = refl
  none u (suc k) n = let a = none (suc u) k n in omega arith

  all_counted : (u k n : ℕ) (bs : List Bodied) → units_of w u k n q bs ≤ counts w n bs
  all_counted u k n [] = let a = none u k n in omega arith
  all_counted u k n (b ∷ bs) = let a = one_more u k n b bs in let c = all_counted u k (suc n) bs in omega arith

  rows_counted : (u : ℕ) (names : List (List ℕ)) (us : List UnitRow) → AreUnits q u names us → weigh_units w us ≡ units_of w u (length us) 0 q q.bodies
  rows_counted u [] [] h = refl
  rows_counted u [] (r ∷ us) h = absurd h
  rows_counted u (n ∷ ns) [] h = absurd h
  rows_counted u (n ∷ ns) (r ∷ us) h =
      let a = rows_counted (suc u) ns us h.2 in
      let e : weigh w r.functions ≡ weigh w (functions_of q u 0 q.bodies) = ap (weigh w) h.1 in
      omega arith

  counts_total : (n : ℕ) (bs : List Bodied) → counts w n bs + total w n ≡ total w (n + length bs)
  counts_total n [] = let e : total w n ≡ total w (n + 0) = ap (total w) (let z : n ≡ n + 0 = omega arith in z) in omega arith
  counts_total n (b ∷ bs) =
      let a = counts_total (suc n) bs in
      let e : total w (suc n + length bs) ≡ total w (n + suc (length bs)) = ap (total w) (let x : suc n + length bs ≡ n + suc (length bs) = omega arith in x) in
      omega arith

pub as_many : {A B : Type 0} (P : A → B → Type 0) (xs : List A) (ys : List B) → Each P xs ys → length xs ≡ length ys
as_many P [] [] e = refl
as_many P [] (y ∷ ys) e = absurd e
as_many P (x ∷ xs) [] e = absurd e
as_many P (x ∷ xs) (y ∷ ys) e = ap suc (as_many P xs ys e.1)

-- ---- points of functions

module _ (q : State) where
  stops_long : (f : ℕ) (ss : List Stop) → length (points_from q f ss) ≡ length ss
  stops_long f [] = refl
  stops_long f (s ∷ ss) = ap suc (stops_long f ss)

  pub points_long : (f : ℕ) (bs : List Bodied) → length (all_points q f bs) ≡ stop_count bs
  points_long f [] = refl
  points_long f (b ∷ bs) =
      let a = points_long (suc f) bs in
      let c = length-append (points_from q f (all_stops q b)) (all_points q (suc f) bs) in
      let d = stops_long f (all_stops q b) in
      omega arith

module _ (q : State) (names : List (List ℕ)) (p : Program) (rows : HasRows q names p) where
  pub functions_parted : (w : ℕ → ℕ) → weigh_units w p.units ≤ total w (length p.functions)
  functions_parted w =
      let a = rows_counted w q 0 names p.units rows.units in
      let b = all_counted w q 0 (length p.units) 0 q.bodies in
      let c = counts_total w q 0 q.bodies in
      let d = as_many (IsFunctionOf q) q.bodies p.functions rows.functions in
      let e : total w (0 + length q.bodies) ≡ total w (length p.functions) = ap (total w) (let x : 0 + length q.bodies ≡ length p.functions = omega arith in x) in
      omega arith

  numbered : (from n : ℕ) → length (numbers from n) ≡ n
  numbered from zero = refl
  numbered from (suc n) = ap suc (numbered (suc from) n)

  abbrev pub function_points : List Function → ℕ
  function_points [] = 0
  function_points (f ∷ fs) = length f.points + function_points fs

  pub functions_long : (bs : List Bodied) (fs : List Function) → Each (IsFunctionOf q) bs fs → function_points fs ≡ stop_count bs
  functions_long [] [] e = refl
  functions_long [] (f ∷ fs) e = absurd e
  functions_long (b ∷ bs) [] e = absurd e
  functions_long (b ∷ bs) (f ∷ fs) e =
      let a = functions_long bs fs e.1 in
      let c : f.points ≡ numbers b.before.points (length (all_stops q b)) = e.0.6 in
      let d : length f.points ≡ length (all_stops q b) = ap (λ (xs : List ℕ). length xs) c ∙ numbered b.before.points (length (all_stops q b)) in
      omega arith

  shifted : (v w : ℕ → ℕ) (n : ℕ) → ((i : ℕ) → v (suc i) ≡ w i) → total v (suc n) ≡ v 0 + total w n
  shifted v w zero h = omega arith
  shifted v w (suc n) h = let e = shifted v w n h in let f = h n in omega arith

  listed : (fs : List Function) → total (λ i. length (points_in (slice_get fs i))) (length fs) ≡ function_points fs
  listed [] = refl
  listed (f ∷ fs) =
      let a = listed fs in
      let b = shifted (λ i. length (points_in (slice_get (f ∷ fs) i))) (λ i. length (points_in (slice_get fs i))) (length fs) (λ i. refl) in
      omega arith

  pub points_parted : total (points_of p) (length p.functions) ≤ length p.points
  points_parted =
      let a = listed p.functions in
      let b = functions_long q.bodies p.functions rows.functions in
      let c = points_long q 0 q.bodies in
      let d : length p.points ≡ length (all_points q 0 q.bodies) = ap (λ l. length l) rows.points in
      omega arith
