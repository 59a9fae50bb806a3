-- The code's state of a program stands for the program so far.
use Rattle.std.proofs.Common.{◌≡◌, ◌≤◌, ◌<◌, ◌++◌, ◌∷◌, ◌+◌, ◌-◌, [], ℕ, zero, suc, List, length, drop, Option, Some, None, refl, sym, ap, ◌∙◌, subst, append_assoc, length-append, arith}
use Rattle.c_tree.specs.declared.rows.Function.{Function}
use Rattle.c_tree.specs.declared.rows.Point.{Point}
use Rattle.c_judge.specs.Answers.{Answer, Known, Unknown, Broken}
use Rattle.c_linkage.specs.declared.state.State.{State as Standing}
use Rattle.c_scope.specs.Environment.{Environment, Row, Visible}
use Rattle.c_file.specs.Files.{State, Bodied}
use Rattle.c_scope.specs.Findings.{Finding, Fine, fine, nothing, ◌beside◌}
use Rattle.c_file.specs.Made as made
use Rattle.c_file.specs.Made.{Each, IsFunctionOf, all_points, points_from, all_stops, local_rows}
use Rattle.c_linkage.specs.Names.{Defining, IsBefore, AreInOrder, AreWithin}
use Rattle.c_file.specs.Progress.{so_far, found_so_far, KeepsFunctions, IsSoFar, Onto}
use Rattle.c_file.specs.Standing.{Stands, AreFunctions}
use Rattle.c_body.specs.Stops.{Stop}

pub stands_is : (n : ℕ) (s : Standing) (p : State) → Stands n s p → so_far s p.bodies ≡ p
stands_is n s p h = λ i. record {
  here = h.here i;
  others = h.others i;
  names = h.names i;
  definitions = h.definitions i;
  calls = h.calls i;
  late = h.late i;
  bodies = p.bodies;
  starts = h.starts i;
  points = h.count i;
  strings = h.strings i;
}

-- ---- rows do not ask for the rest of the program

module _ (q r : State) where
  from_same : (f : ℕ) (ss : List Stop) → points_from q f ss ≡ points_from r f ss
  from_same f [] = refl
  from_same f (s ∷ ss) = ap (λ (l : List Point). record { function = f; line = s.line; column = s.column; symbol = s.symbol } ∷ l) (from_same f ss)

  pub points_same : (n : ℕ) (bs : List Bodied) → all_points q n bs ≡ all_points r n bs
  points_same n [] = refl
  points_same n (b ∷ bs) = ap (λ l. l ++ all_points q (suc n) bs) (from_same n (all_stops q b)) ∙ ap (λ l. points_from r n (all_stops r b) ++ l) (points_same (suc n) bs)

  locals_same : (rs : List Row) → local_rows q rs ≡ local_rows r rs
  locals_same [] = refl
  locals_same (x ∷ rs) = ap (λ (l : List Row). elim x.local as (λ _. List Row) [ None ↦ l | Some k ↦ x ∷ l ]) (locals_same rs)

  pub function_same : (b : Bodied) (f : Function) → IsFunctionOf q b f → IsFunctionOf r b f
  function_same b f h = (
    h.0,
    h.1,
    h.2,
    h.3,
    h.4,
    subst (λ rs. Each (made.IsLocalOf r) rs f.locals) (locals_same (drop (length b.here.names - length b.parameters) (made.behind_block q b).names)) h.5,
    h.6,
    h.7,
  )

  pub functions_same : (bs : List Bodied) (fs : List Function) → Each (IsFunctionOf q) bs fs → Each (IsFunctionOf r) bs fs
  functions_same [] [] h = tt
  functions_same [] (f ∷ fs) h = h
  functions_same (b ∷ bs) [] h = h
  functions_same (b ∷ bs) (f ∷ fs) h = (function_same b f h.0, functions_same bs fs h.1)

module _ {A B : Type 0} (P : A → B → Type 0) where
  pub each_length : (xs : List A) (ys : List B) → Each P xs ys → length ys ≡ length xs
  each_length [] [] h = refl
  each_length [] (y ∷ ys) h = absurd h
  each_length (x ∷ xs) [] h = absurd h
  each_length (x ∷ xs) (y ∷ ys) h = ap suc (each_length xs ys h.1)

  pub each_more : (xs : List A) (ys : List B) (x : A) (y : B) → Each P xs ys → P x y → Each P (xs ++ x ∷ []) (ys ++ y ∷ [])
  each_more [] [] x y h k = (k, tt)
  each_more [] (z ∷ ys) x y h k = absurd h
  each_more (z ∷ xs) [] x y h k = absurd h
  each_more (z ∷ xs) (w ∷ ys) x y h k = (h.0, each_more xs ys x y h.1 k)

pub functions_count : (p : State) (o : Option (List ℕ)) (fs : List Function) → AreFunctions p o fs → length fs ≡ length p.bodies
functions_count p None fs h = each_length (IsFunctionOf p) p.bodies fs h
functions_count p (Some name) fs h = h

pub none_behind : {A : Type 0} (xs : List A) → (xs ++ []) ≡ xs
none_behind [] = refl
none_behind (x ∷ xs) = ap (λ l. x ∷ l) (none_behind xs)

pub points_more : (q : State) (n : ℕ) (bs : List Bodied) (b : Bodied) → all_points q n (bs ++ b ∷ []) ≡ all_points q n bs ++ points_from q (n + length bs) (all_stops q b)
points_more q n [] b = none_behind (points_from q n (all_stops q b)) ∙ ap (λ k. points_from q k (all_stops q b)) (let e : n ≡ n + 0 = omega arith in e)
points_more q n (c ∷ bs) b =
    ap (λ l. points_from q n (all_stops q c) ++ l) (points_more q (suc n) bs b)
    ∙ (sym (append_assoc (points_from q n (all_stops q c)) (all_points q (suc n) bs) (points_from q (suc n + length bs) (all_stops q b)))
    ∙ ap (λ k. (points_from q n (all_stops q c) ++ all_points q (suc n) bs) ++ points_from q k (all_stops q b)) (let e : suc n + length bs ≡ n + suc (length bs) = omega arith in e))

-- ---- the first name that is not declared

unknown_told : (name : List ℕ) (o : Option (List ℕ)) → o ≡ None → ◌≡◌ {A = Finding} (Unknown name) (found_so_far o) → ⊥
unknown_told name o n b = let c : ◌≡◌ {A = Finding} (Unknown name) (Known fine) = b ∙ ap found_so_far n in cc

broken_told : (r at : ℕ) (o : Option (List ℕ)) → o ≡ None → ◌≡◌ {A = Finding} (Broken r at) (found_so_far o) → ⊥
broken_told r at o n b = let c : ◌≡◌ {A = Finding} (Broken r at) (Known fine) = b ∙ ap found_so_far n in cc

pub none_before : (u o : Option (List ℕ)) (f : Finding) → (found_so_far u beside f) ≡ found_so_far o → o ≡ None → u ≡ None
none_before None o f e n = refl
none_before (Some name) o (Known x) e n = absurd (unknown_told name o n e)
none_before (Some name) o (Unknown m) e n = absurd (unknown_told name o n e)
none_before (Some name) o (Broken r at) e n = absurd (broken_told r at o n e)

-- the same functions behind a part
module _ (p q : State) where
  pub are_still : (a b : Option (List ℕ)) (fs : List Function) → (b ≡ None → a ≡ None) → q.bodies ≡ p.bodies → AreFunctions p a fs → AreFunctions q b fs
  are_still a None fs l e h =
      subst (λ bs. Each (IsFunctionOf q) bs fs) (sym e) (functions_same p q p.bodies fs (subst (λ o. AreFunctions p o fs) (l refl) h))
  are_still a (Some name) fs l e h = functions_count p a fs h ∙ ap length (sym e)

-- ---- definitions

pub within_more : (m n : ℕ) (ds : List Defining) → m ≤ n → AreWithin m ds → AreWithin n ds
within_more m n [] l h = tt
within_more m n (d ∷ ds) l h = let k = h.0 in (omega (arith, l, k), within_more m n ds l h.1)

within_one : (n : ℕ) (ds : List Defining) (d : Defining) → AreWithin n ds → d.unit < n → AreWithin n (ds ++ d ∷ [])
within_one n [] d h k = (k, tt)
within_one n (e ∷ ds) d h k = (h.0, within_one n ds d h.1 k)

before_one : (e d : Defining) (ds : List Defining) → IsBefore e ds → e.unit ≤ d.unit → IsBefore e (ds ++ d ∷ [])
before_one e d [] h k = (k, tt)
before_one e d (x ∷ ds) h k = (h.0, before_one e d ds h.1 k)

order_one : (ds : List Defining) (d : Defining) → AreInOrder ds → AreWithin (suc d.unit) ds → AreInOrder (ds ++ d ∷ [])
order_one [] d h k = (tt, tt)
order_one (e ∷ ds) d h k = let l = k.0 in (before_one e d ds h.0 (omega (arith, l)), order_one ds d h.1 k.1)

-- definitions stand in the order of their files, of which this is the last
pub record IsOrdered (unit : ℕ) (ds : List Defining) : Type 0 where
  pub order : AreInOrder ds
  pub within : AreWithin (suc unit) ds

pub one_ordered : (u : ℕ) (ds : List Defining) (d : Defining) → d.unit ≡ u → IsOrdered u ds → IsOrdered u (ds ++ d ∷ [])
one_ordered u ds d e h = record {
  order = order_one ds d h.order (subst (λ k. AreWithin (suc k) ds) (sym e) h.within);
  within = within_one (suc u) ds d h.within (omega (arith, e));
}

-- ---- a part that has no function

module _ (s t : Standing) (p q : State) (f : Finding) where
  pub stands_on : IsSoFar s p → so_far t p.bodies ≡ q → KeepsFunctions s t → (found_so_far s.unknown beside f) ≡ found_so_far t.unknown → IsOrdered q.here.unit q.definitions → IsSoFar t q
  stands_on h e k u o =
      let bodies : q.bodies ≡ p.bodies = sym (ap (λ (x : State). x.bodies) e) in
      let unit : q.here.unit ≡ t.here.unit = sym (ap (λ (x : State). x.here.unit) e) in
      record {
        here = ap (λ (x : State). x.here) e;
        others = ap (λ (x : State). x.others) e;
        names = ap (λ (x : State). x.names) e;
        definitions = ap (λ (x : State). x.definitions) e;
        calls = ap (λ (x : State). x.calls) e;
        late = ap (λ (x : State). x.late) e;
        starts = ap (λ (x : State). x.starts) e;
        functions = subst (λ fs. AreFunctions q t.unknown fs) (sym k.functions) (are_still p q s.unknown t.unknown s.functions.items (none_before s.unknown t.unknown f u) bodies h.functions);
        points = k.points ∙ (h.points ∙ (points_same p q 0 p.bodies ∙ ap (all_points q 0) (sym bodies)));
        count = ap (λ (x : State). x.points) e;
        strings = ap (λ (x : State). x.strings) e;
        ordered = o.order;
        within = subst (λ n. AreWithin (suc n) q.definitions) unit o.within;
      }
