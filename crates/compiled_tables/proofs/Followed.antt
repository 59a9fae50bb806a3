-- The symbols of each unit's points come one after another: those that stand before one that was made are made with it.
use Rattle.std.proofs.Common.{◌≡◌, ℕ, zero, suc, ◌+◌, ◌<◌, Bool, true, false, ◌==◌, nat_lt, if◌then◌else◌, List, [], ◌∷◌, ◌++◌, length, Option, Some, None, slice_get, refl, sym, ap, ◌∙◌, subst, arith, length-append, append_assoc}
use Rattle.std.proofs.lemmas.Bool.{ltb-true}
use Rattle.std.proofs.lemmas.Option.{slice_get_within}
use Rattle.std.specs.List.{AllByRecursion}
use Rattle.obj_file.specs.declared.object.FunctionRow.{FunctionRow as Placed}
use Rattle.c_trees.specs.declared.unit.External.{External}
use Rattle.c_tree.specs.declared.rows.Program.{Program}
use Rattle.c_tree.specs.declared.rows.UnitRow.{UnitRow}
use Rattle.c_tree.specs.declared.rows.Function.{Function}
use Rattle.c_tree.specs.declared.rows.Point.{Point}
use Rattle.c_tree.specs.declared.rows.SymbolRow.{SymbolRow}
use Rattle.c_typing.specs.Programs.{AllFrom, IsBelow, IsSymbol, KeepsRules, numbers}
use Rattle.c_scope.specs.Environment.{Row}
use Rattle.c_body.specs.Stops.{Stop}
use Rattle.c_file.specs.Files.{State, Bodied}
use Rattle.c_file.specs.Programs.{Well, at_first, AllFiles}
use Rattle.c_file.specs.Made.{Each, IsFunctionOf, IsSymbolOf, points_from, all_points, functions_of, AreUnits, HasRows}
use Rattle.ps_emit.specs.Symbols.{up_in, made_with}
use Rattle.ps_emit.specs.Functions.{symbol_at, made_by}
use Rattle.unit_tables.specs.Running.{first_made}
use Rattle.unit_tables.specs.Points.{IsFollowed, LeadLower, AreFollowed}
use Rattle.unit_tables.specs.Conditions.{FunctionsFollowed}
use Rattle.compiled_tables.proofs.Scopes.{Agrees, Follows, Sorted}
use Rattle.compiled_tables.proofs.Files.{stops_in, Counted}
use Rattle.compiled_tables.proofs.UnitStops.{unit_stops, with_stops, without_stops}
use Rattle.compiled_tables.proofs.Programs.{Nested, Owns, OwnsAll, all_read, each_long, at_seam, units_long}

-- ---- names lead to lower numbers

up_lower : (p : Program) (n : ℕ) (ss : List SymbolRow) (s u : ℕ) → AllFrom (IsSymbol p) n ss → up_in (slice_get ss s) ≡ Some u → u < n + s
up_lower p n [] s u h e = absurd cc
up_lower p n (row ∷ ss) zero u h e = let l : IsBelow p n (Some u) = subst (IsBelow p n) e h.0.2 in omega (arith, l)
up_lower p n (row ∷ ss) (suc s) u h e = let l = up_lower p (suc n) ss s u h.1 e in omega arith

pub lead_lower : (p : Program) → KeepsRules p → LeadLower p.symbols
lead_lower p k s u e = let l = up_lower p 0 p.symbols s u k.symbols e in omega arith

-- ---- lists

all_behind : {A : Type 0} (P : A → Type 0) (xs ys : List A) → AllByRecursion P (xs ++ ys) → AllByRecursion P ys
all_behind P [] ys h = h
all_behind P (x ∷ xs) ys h = all_behind P xs ys h.1

sorted_behind : (ss : List SymbolRow) (xs ys : List Stop) → Sorted ss (xs ++ ys) → Sorted ss ys
sorted_behind ss [] ys h = h
sorted_behind ss (x ∷ xs) ys h = sorted_behind ss xs ys h.1

module _ (p : Program) (fs : List Placed) where
  abbrev ss : List SymbolRow
  ss = p.symbols

  -- ---- the points of a function

  -- the points with these numbers have the innermost names of these
  abbrev Seen : List ℕ → List Stop → Type 0
  Seen [] [] = Unit {0}
  Seen (x ∷ xs) (y ∷ ys) = (symbol_at (slice_get p.points x) ≡ y.symbol) × Seen xs ys
  Seen xs ys = ⊥

  abbrev IsThere : Stop → Type 0
  IsThere x = (t : ℕ) → x.symbol ≡ Some t → t < length ss

  abbrev IsNext : ℕ → Stop → Type 0
  IsNext made x = IsFollowed ss made x.symbol

  above : (t : ℕ) (zs : List Stop) → AllByRecursion (Follows ss t) zs → AllByRecursion IsThere zs → AllByRecursion (IsNext (suc t)) zs
  above t [] h k = tt
  above t (z ∷ zs) h k = (record { there = k.0; stops = λ s e. h.0 s e }, above t zs h.1 k.1)

  next : (made : ℕ) (o : Option ℕ) (zs : List Stop) → ((t : ℕ) → o ≡ Some t → AllByRecursion (Follows ss t) zs) → AllByRecursion IsThere zs → AllByRecursion (IsNext made) zs → AllByRecursion (IsNext (made_with made o)) zs
  next made None zs h k f = f
  next made (Some t) zs h k f = by (nat_lt t made) refl
    where
      by : (b : Bool) → nat_lt t made ≡ b → AllByRecursion (IsNext (if nat_lt t made then made else suc t)) zs
      by true e = subst (λ (b : Bool). AllByRecursion (IsNext (if b then made else suc t)) zs) (sym e) f
      by false e = subst (λ (b : Bool). AllByRecursion (IsNext (if b then made else suc t)) zs) (sym e) (above t zs (h t refl) k)

  none_below : (n : ℕ) (x : Option ℕ) (s : ℕ) → first_made n ss 0 x ≡ Some s → ⊥
  none_below zero x s e = cc
  none_below (suc n) None s e = cc
  none_below (suc n) (Some v) s e = by (nat_lt v 0) refl (λ k. none_below n (up_in (slice_get ss v)) s k)
    where
      by : (b : Bool) → nat_lt v 0 ≡ b → (first_made n ss 0 (up_in (slice_get ss v)) ≡ Some s → ⊥) → ⊥
      by true l go = let k = ltb-true v 0 l in omega arith
      by false l go = go (sym (ap (λ b. if b then Some v else first_made n ss 0 (up_in (slice_get ss v))) l) ∙ e)

  at_start : (zs : List Stop) → AllByRecursion IsThere zs → AllByRecursion (IsNext 0) zs
  at_start [] h = tt
  at_start (z ∷ zs) h = (record { there = h.0; stops = λ s e. absurd (none_below (length ss) z.symbol s e) }, at_start zs h.1)

  -- points, and what comes behind them
  points_follow : (made : ℕ) (xs addresses : List ℕ) (here rest : List Stop) → Seen xs here → AllByRecursion IsThere (here ++ rest) → Sorted ss (here ++ rest) → AllByRecursion (IsNext made) (here ++ rest)
      → AreFollowed p.defs ss p.points made xs addresses × AllByRecursion (IsNext (made_by p fs made xs addresses)) rest
  points_follow made [] as' [] rest s t o f = (tt, f)
  points_follow made [] as' (y ∷ ys) rest s t o f = absurd s
  points_follow made (x ∷ xs) as' [] rest s t o f = absurd s
  points_follow made (x ∷ xs) [] (y ∷ ys) rest s t o f = (tt, all_behind (IsNext made) (y ∷ ys) rest f)
  points_follow made (x ∷ xs) (a ∷ as') (y ∷ ys) rest s t o f =
      let more : AllByRecursion (IsNext (made_with made y.symbol)) (ys ++ rest) = next made y.symbol (ys ++ rest) o.0 t.1 f.1 in
      let made' : ℕ = made_with made (symbol_at (slice_get p.points x)) in
      let r = points_follow made' xs as' ys rest s.1 t.1 o.1 (subst (λ (q : Option ℕ). AllByRecursion (IsNext (made_with made q)) (ys ++ rest)) (sym s.0) more) in
      ((subst (IsFollowed ss made) (sym s.0) f.0, r.0), r.1)

  module _ (q : State) (names : List (List ℕ)) (rows : HasRows q names p) where
    stops_seen : (front : List Point) (f : ℕ) (xs : List Stop) (back : List Point) → p.points ≡ front ++ (points_from q f xs ++ back) → Seen (numbers (length front) (length xs)) xs
    stops_seen front f [] back e = tt
    stops_seen front f (x ∷ xs) back e =
        let one : Point = record { function = f; line = x.line; column = x.column; symbol = x.symbol } in
        let rest : List Point = points_from q f xs ++ back in
        let whole : p.points ≡ (front ++ one ∷ []) ++ rest = e ∙ sym (append_assoc front (one ∷ []) rest) in
        let size : length (front ++ one ∷ []) ≡ suc (length front) = length-append front (one ∷ []) ∙ (let z : length front + 1 ≡ suc (length front) = omega arith in z) in (
          ap symbol_at (ap (λ (l : List Point). slice_get l (length front)) e ∙ at_seam front one rest),
          subst (λ n. Seen (numbers n (length xs)) xs) size (stops_seen (front ++ one ∷ []) f xs back whole),
        )

    points_size : (f : ℕ) (xs : List Stop) → length (points_from q f xs) ≡ length xs
    points_size f [] = refl
    points_size f (x ∷ xs) = ap suc (points_size f xs)

    -- ---- the functions of a unit

    module _ (unit : ℕ) where
      -- one function, and what comes behind it
      function_follows : (made n : ℕ) (fn : Function) (here rest : List Stop) (others : List ℕ) → slice_get p.functions n ≡ Some fn → Seen fn.points here → AllByRecursion IsThere (here ++ rest) → Sorted ss (here ++ rest) → AllByRecursion (IsNext made) (here ++ rest)
          → ((m : ℕ) → AllByRecursion (IsNext m) rest → FunctionsFollowed p fs m others) → FunctionsFollowed p fs made (n ∷ others)
      function_follows made n fn here rest others row seen t o f go = by (slice_get fs n) refl
        where
          by : (x : Option Placed) → slice_get fs n ≡ x → FunctionsFollowed p fs made (n ∷ others)
          by None e = rw (row, e) (tt, go made (all_behind (IsNext made) here rest f))
          by (Some at) e = let r = points_follow made fn.points at.points here rest seen t o f in rw (row, e) (r.0, go (made_by p fs made fn.points at.points) r.1)

      functions_follow : (made : ℕ) (front : List Point) (n : ℕ) (bs : List Bodied) (fns : List Function) → p.points ≡ front ++ all_points q n bs → Counted (length front) bs → Each (IsFunctionOf q) bs fns
          → ((j : ℕ) → slice_get p.functions (n + j) ≡ slice_get fns j) → AllByRecursion IsThere (unit_stops unit bs) → Sorted ss (unit_stops unit bs) → AllByRecursion (IsNext made) (unit_stops unit bs) → FunctionsFollowed p fs made (functions_of q unit n bs)
      functions_follow made front n [] fns e c each same t o f = tt
      functions_follow made front n (b ∷ bs) [] e c each same t o f = absurd each
      functions_follow made front n (b ∷ bs) (fn ∷ fns) e c each same t o f =
          let front' : List Point = front ++ points_from q n (stops_in b) in
          let whole : p.points ≡ front' ++ all_points q (suc n) bs = e ∙ sym (append_assoc front (points_from q n (stops_in b)) (all_points q (suc n) bs)) in
          let size : length front + length (stops_in b) ≡ length front' = sym (length-append front (points_from q n (stops_in b)) ∙ ap (λ k. length front + k) (points_size n (stops_in b))) in
          let row : slice_get p.functions n ≡ Some fn = ap (slice_get p.functions) (let z : n ≡ n + 0 = omega arith in z) ∙ same 0 in
          let points : fn.points ≡ numbers (length front) (length (stops_in b)) = each.0.6 ∙ ap (λ k. numbers k (length (stops_in b))) c.0 in
          let seen : Seen fn.points (stops_in b) = subst (λ (xs : List ℕ). Seen xs (stops_in b)) (sym points) (stops_seen front n (stops_in b) (all_points q (suc n) bs) e) in
          by (b.unit == unit) refl row seen
          (λ m t' o' f'. functions_follow m front' (suc n) bs fns whole (subst (λ k. Counted k bs) size c.1) each.1 (λ j. ap (slice_get p.functions) (let z : suc n + j ≡ n + suc j = omega arith in z) ∙ same (suc j)) t' o' f')
        where
          by : (x : Bool) → (b.unit == unit) ≡ x → slice_get p.functions n ≡ Some fn → Seen fn.points (stops_in b)
              → ((m : ℕ) → AllByRecursion IsThere (unit_stops unit bs) → Sorted ss (unit_stops unit bs) → AllByRecursion (IsNext m) (unit_stops unit bs) → FunctionsFollowed p fs m (functions_of q unit (suc n) bs)) → FunctionsFollowed p fs made (functions_of q unit n (b ∷ bs))
          by true i row seen go =
              let is = with_stops unit b bs i in
              let t' : AllByRecursion IsThere (stops_in b ++ unit_stops unit bs) = subst (AllByRecursion IsThere) is t in
              let o' : Sorted ss (stops_in b ++ unit_stops unit bs) = subst (Sorted ss) is o in
              let f' : AllByRecursion (IsNext made) (stops_in b ++ unit_stops unit bs) = subst (AllByRecursion (IsNext made)) is f in
              let done = function_follows made n fn (stops_in b) (unit_stops unit bs) (functions_of q unit (suc n) bs) row seen t' o' f'
              (λ m g. go m (all_behind IsThere (stops_in b) (unit_stops unit bs) t') (sorted_behind ss (stops_in b) (unit_stops unit bs) o') g) in
              rw i done
          by false i row seen go =
              let is = without_stops unit b bs i in
              let done = go made (subst (AllByRecursion IsThere) is t) (subst (Sorted ss) is o) (subst (AllByRecursion (IsNext made)) is f) in
              rw i done

    symbol_up : (ns : List Row) (rs : List SymbolRow) (s : ℕ) (r : Row) → Each (IsSymbolOf q) ns rs → slice_get ns s ≡ Some r → up_in (slice_get rs s) ≡ r.up
    symbol_up [] rs s r h e = absurd cc
    symbol_up (x ∷ ns) [] s r h e = absurd h
    symbol_up (x ∷ ns) (y ∷ rs) zero r h e = let same : x ≡ r = cc in h.0.3 ∙ ap (λ (z : Row). z.up) same
    symbol_up (x ∷ ns) (y ∷ rs) (suc s) r h e = symbol_up ns rs s r h.1 e

    size : length q.here.names ≡ length p.symbols
    size = each_long (IsSymbolOf q) q.here.names p.symbols rows.symbols

    symbols_agree : Agrees ss q.here.names
    symbols_agree s r e = (let l = slice_get_within q.here.names s r e in omega (arith, l, size), symbol_up q.here.names p.symbols s r rows.symbols e)

    -- ---- all units

    unit_followed : (unit : ℕ) (u : UnitRow) (low high : ℕ) → u.functions ≡ functions_of q unit 0 q.bodies → Counted 0 q.bodies → Owns q low high unit → FunctionsFollowed p fs 0 u.functions
    unit_followed unit u low high is counted o =
        let n : Nested ss (length q.here.names) (unit_stops unit q.bodies) = o.nested ss symbols_agree in
        let there : AllByRecursion IsThere (unit_stops unit q.bodies) = subst (λ k. AllByRecursion (λ (x : Stop). (t : ℕ) → x.symbol ≡ Some t → t < k) (unit_stops unit q.bodies)) size n.there in
        subst (FunctionsFollowed p fs 0) (sym is)
        (functions_follow unit 0 [] 0 q.bodies p.functions rows.points counted rows.functions (λ j. ap (slice_get p.functions) (let z : 0 + j ≡ j = omega arith in z)) there n.sorted (at_start (unit_stops unit q.bodies) there))

    units_followed : (low unit : ℕ) (ns : List (List ℕ)) (us : List UnitRow) → AreUnits q unit ns us → Counted 0 q.bodies → OwnsAll q low unit (length us) → AllByRecursion (λ (u : UnitRow). FunctionsFollowed p fs 0 u.functions) us
    units_followed low unit [] [] h c o = tt
    units_followed low unit [] (u ∷ us) h c o = absurd h
    units_followed low unit (n ∷ ns) [] h c o = absurd h
    units_followed low unit (n ∷ ns) (u ∷ us) h c o = (unit_followed unit u low o.0 h.1 c o.1, units_followed o.0 (suc unit) ns us h.2 c o.2)

    pub functions_are_followed : (tags : List (List ℕ)) (files : List (List External)) → AllFiles tags (at_first tags) files Well q → length names ≡ length files → AllByRecursion (λ (u : UnitRow). FunctionsFollowed p fs 0 u.functions) p.units
    functions_are_followed tags files h long =
        let r = all_read tags files q h in
        units_followed 3 0 names p.units rows.units r.1 (subst (OwnsAll q 3 0) (sym (units_long q names p rows 0 names p.units rows.units ∙ long)) r.0)
