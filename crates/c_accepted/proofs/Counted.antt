-- How large the static data of a program are, which functions its files have, and where its points stand.
use Rattle.std.proofs.Common.{◌≡◌, ◌≤◌, ◌<◌, refl, sym, ap, ◌∙◌, subst, arith, ℕ, suc, ◌+◌, Bool, true, false, ◌==◌, List, [], ◌∷◌, ◌++◌, length, map, Option, Some, None, if◌then◌else◌}
use Rattle.std.specs.Prelude.{slice_get, sum}
use Rattle.std.specs.Int.{next_multiple_of}
use Rattle.std.specs.List.{AllByRecursion}
use Rattle.std.proofs.lemmas.Bool.{eqb-true}
use Rattle.c_tree.specs.declared.rows.Program.{Program}
use Rattle.c_tree.specs.declared.rows.ObjectRow.{ObjectRow}
use Rattle.c_tree.specs.declared.rows.UnitRow.{UnitRow}
use Rattle.c_tree.specs.declared.rows.Function.{Function as FunctionRow}
use Rattle.c_tree.specs.declared.rows.Point.{Point}
use Rattle.c_tree.specs.Layout as layout
use Rattle.c_typing.specs.Programs.{AllFrom, IsOfUnit, IsUnit, IsPoint, IsBelow}
use Rattle.c_typing.specs.Starts.{static_room}
use Rattle.c_typing.specs.Values.{size_of}
use Rattle.c_judge.proofs.Sizes.{size_of_plain}
use Rattle.c_body.specs.Stops.{Stop}
use Rattle.c_linkage.specs.Names.{Defining}
use Rattle.c_file.specs.Files.{State, Bodied}
use Rattle.c_file.specs.Made as made
use Rattle.c_file.specs.Made.{Each, HasRows, IsObjectOf, IsFunctionOf, AreUnits, functions_of, all_stops, points_from, all_points}

pub each_count : {A B : Type 0} (P : A → B → Type 0) (xs : List A) (ys : List B) → Each P xs ys → length xs ≡ length ys
each_count P [] [] h = refl
each_count P (x ∷ xs) (y ∷ ys) h = ap suc (each_count P xs ys h.1)
each_count P [] (y ∷ ys) h = absurd h
each_count P (x ∷ xs) [] h = absurd h

plus_zero : (k : ℕ) → 0 + k ≡ k
plus_zero k = omega arith

-- ---- static data

module _ (q : State) (p : Program) (same : p.defs ≡ q.others) where
  one_room : (d : Defining) (o : ObjectRow) → IsObjectOf q d o → next_multiple_of (layout.size_of p.defs o.ctype) 4 + 4 ≡ made.object_room q d
  one_room d o h =
      ap (λ k. next_multiple_of k 4 + 4) (size_of_plain p.defs o.ctype ∙ ap (size_of p.defs) h.3 ∙ ap (λ defs. size_of defs (made.object_type q d)) same)

  rooms : (ds : List Defining) (os : List ObjectRow) → Each (IsObjectOf q) ds os → map (λ (o : ObjectRow). next_multiple_of (layout.size_of p.defs o.ctype) 4 + 4) os ≡ map (made.object_room q) ds
  rooms [] [] h = refl
  rooms (d ∷ ds) (o ∷ os) h = λ i. one_room d o h.0 i ∷ rooms ds os h.1 i
  rooms [] (o ∷ os) h = absurd h
  rooms (d ∷ ds) [] h = absurd h

pub room_kept : (q : State) (names : List (List ℕ)) (p : Program) → HasRows q names p → static_room p ≤ 1048576
room_kept q names p h =
    let objects = rooms q p h.defs (made.objects q) p.objects h.objects in
    let e : static_room p ≡ made.room q = λ i. sum (objects i) + sum (map (made.string_room q) (h.strings i)) in
    subst (λ k. k ≤ 1048576) (sym e) h.room

-- ---- files

module _ (q : State) (p : Program) where
  one_file : (u n : ℕ) (bs : List Bodied) (fs : List FunctionRow) → Each (IsFunctionOf q) bs fs → ((k : ℕ) → slice_get p.functions (n + k) ≡ slice_get fs k)
      → AllByRecursion (λ f. IsOfUnit p u (slice_get p.functions f)) (functions_of q u n bs)
  one_file u n [] [] h w = tt
  one_file u n (b ∷ bs) (f ∷ fs) h w = by (b.unit == u) refl (one_file u (suc n) bs fs h.1 (λ k. let e : suc n + k ≡ n + suc k = omega arith in ap (slice_get p.functions) e ∙ w (suc k)))
    where
      here : slice_get p.functions n ≡ Some f
      here = let e : n ≡ n + 0 = omega arith in ap (slice_get p.functions) e ∙ w 0

      by : (c : Bool) → (b.unit == u) ≡ c → AllByRecursion (λ f. IsOfUnit p u (slice_get p.functions f)) (functions_of q u (suc n) bs)
          → AllByRecursion (λ f. IsOfUnit p u (slice_get p.functions f)) (if c then n ∷ functions_of q u (suc n) bs else functions_of q u (suc n) bs)
      by true e rest = (subst (IsOfUnit p u) (sym here) (h.0.1 ∙ eqb-true b.unit u e), rest)
      by false e rest = rest
  one_file u n [] (f ∷ fs) h w = absurd h
  one_file u n (b ∷ bs) [] h w = absurd h

  files : Each (IsFunctionOf q) q.bodies p.functions → (u : ℕ) (ns : List (List ℕ)) (rs : List UnitRow) → AreUnits q u ns rs → AllFrom (IsUnit p) u rs
  files e u [] [] h = tt
  files e u (n ∷ ns) (r ∷ rs) h = (
    subst (AllByRecursion (λ f. IsOfUnit p u (slice_get p.functions f))) (sym h.1) (one_file u 0 q.bodies p.functions e (λ k. ap (slice_get p.functions) (plus_zero k))),
    files e (suc u) ns rs h.2,
  )
  files e u [] (r ∷ rs) h = absurd h
  files e u (n ∷ ns) [] h = absurd h

pub units_kept : (q : State) (names : List (List ℕ)) (p : Program) → HasRows q names p → AllFrom (IsUnit p) 0 p.units
units_kept q names p h = files q p h.functions 0 names p.units h.units

pub units_counted : (q : State) (u : ℕ) (ns : List (List ℕ)) (rs : List UnitRow) → AreUnits q u ns rs → length ns ≡ length rs
units_counted q u [] [] h = refl
units_counted q u (n ∷ ns) (r ∷ rs) h = ap suc (units_counted q (suc u) ns rs h.2)
units_counted q u [] (r ∷ rs) h = absurd h
units_counted q u (n ∷ ns) [] h = absurd h

-- ---- points

-- the name at a stop is one of so many
abbrev pub IsNamedStop : ℕ → Stop → Type 0
IsNamedStop n s = (k : ℕ) → s.symbol ≡ Some k → k < n

abbrev pub StopsNamed : State → Type 0
StopsNamed q = AllByRecursion (λ b. AllByRecursion (IsNamedStop (length q.here.names)) (all_stops q b)) q.bodies

module _ (q : State) (p : Program) (names : length q.here.names ≡ length p.symbols) where
  below : (o : Option ℕ) → ((k : ℕ) → o ≡ Some k → k < length q.here.names) → IsBelow p (length p.symbols) o
  below None w = tt
  below (Some k) w = subst (λ n. k < n) names (w k refl)

  both_parts : (P : Point → Type 0) (xs ys : List Point) → AllByRecursion P xs → AllByRecursion P ys → AllByRecursion P (xs ++ ys)
  both_parts P [] ys h k = k
  both_parts P (x ∷ xs) ys h k = (h.0, both_parts P xs ys h.1 k)

  stops : (f : ℕ) → f < length p.functions → (ss : List Stop) → AllByRecursion (IsNamedStop (length q.here.names)) ss → AllByRecursion (IsPoint p) (points_from q f ss)
  stops f l [] h = tt
  stops f l (s ∷ ss) h = ((l, below s.symbol h.0), stops f l ss h.1)

  bodies : (f : ℕ) (bs : List Bodied) → f + length bs ≡ length p.functions → AllByRecursion (λ b. AllByRecursion (IsNamedStop (length q.here.names)) (all_stops q b)) bs → AllByRecursion (IsPoint p) (all_points q f bs)
  bodies f [] l h = tt
  bodies f (b ∷ bs) l h =
      let k : f < length p.functions = omega (arith, l) in
      let m : suc f + length bs ≡ length p.functions = omega (arith, l) in
      both_parts (IsPoint p) (points_from q f (all_stops q b)) (all_points q (suc f) bs) (stops f k (all_stops q b) h.0) (bodies (suc f) bs m h.1)

pub points_kept : (q : State) (names : List (List ℕ)) (p : Program) → HasRows q names p → StopsNamed q → AllByRecursion (IsPoint p) p.points
points_kept q names p h w =
    let many : 0 + length q.bodies ≡ length p.functions = plus_zero (length q.bodies) ∙ each_count (IsFunctionOf q) q.bodies p.functions h.functions in
    subst (AllByRecursion (IsPoint p)) (sym h.points) (bodies q p (each_count (made.IsSymbolOf q) q.here.names p.symbols h.symbols) 0 q.bodies many w)
