-- Maps whose keys are the names of files, with the digests of the names.
use Rattle.std.proofs.Common.{◌≡◌, ℕ, Bool, true, false, ◌&&◌, ◌==◌, nat_lt, List, ◌∙◌, sym, refl, ap, subst, Option, bytes_eq, if◌then◌else◌, arith, BTreeMap, Bor, Ordering, Less, Equal, Greater, nat_cmp, is_eq, ltb-true}
use Rattle.std.proofs.lemmas.Bool.{and_parts, and_from, eqb-true, eq-eqb, ne_eqb, false_from_ne_true, false≢true}
use Rattle.std.proofs.lemmas.Map.Text.{is_eq-slice_cmp}
use Rattle.std.proofs.lemmas.Slice.Eq.{bytes_eq-Decides}
use Rattle.std.specs.Ordering.{ordering_then, eq_by_cmp}
use Rattle.std.specs.Cmp.Lexicographic.{slice_cmp}
use Rattle.std.specs.Map.{lookup, IsKeyTest, AreApart, KeepsOthers}
use Rattle.std.specs.BTreeMap as tree
use Rattle.c_defs.specs.Digests.{digest, compared}
use Rattle.c_defs.proofs.Digested.{Pair, pair_cmp, both_equal, number_equal, compared_is}
use Rattle.c_linkage.specs.FileNumbers.{compared_in, with_number}

abbrev Triple : Type 0
Triple = ℕ × Pair

abbrev triple_cmp : Triple → Triple → Ordering
triple_cmp x y = ordering_then (nat_cmp x.0 y.0) (pair_cmp x.1 y.1)

abbrev same_key : (d u : ℕ) (t : List ℕ) (k : Triple) → Bool
same_key d u t k = (d == k.0) && ((u == k.1.0) && bytes_eq t k.1.1.now)

compared_in_is : (d u : ℕ) (t : List ℕ) (k : Triple) → is_eq (compared_in d u t k) ≡ same_key d u t k
compared_in_is d u t k =
    both_equal (nat_cmp d k.0) (compared u t k.1) ∙ (ap (λ b. b && is_eq (compared u t k.1)) (number_equal d k.0) ∙ ap (λ b. (d == k.0) && b) (compared_is u k.1.0 t k.1.1.now))

is_at_key : (d u : ℕ) (t : List ℕ) (k : Triple) → is_eq (compared_in d u t k) ≡ true → (d ≡ k.0) × ((u ≡ k.1.0) × (t ≡ k.1.1.now))
is_at_key d u t k e =
    let p = and_parts (d == k.0) ((u == k.1.0) && bytes_eq t k.1.1.now) (sym (compared_in_is d u t k) ∙ e) in
    let q = and_parts (u == k.1.0) (bytes_eq t k.1.1.now) p.1 in
    (eqb-true d k.0 p.0, (eqb-true u k.1.0 q.0, (bytes_eq-Decides t k.1.1.now).0 q.1))

key_test : (d v : ℕ) (t : List ℕ) → IsKeyTest (eq_by_cmp triple_cmp) (λ k. is_eq (compared_in d v t k))
key_test d v t x y e =
    let p = is_at_key d v t x e in
    ap (λ w. is_eq (compared_in w v t y)) p.0 ∙ (ap (λ w. is_eq (compared_in x.0 w t y)) p.1.0 ∙ ap (λ s. is_eq (compared_in x.0 x.1.0 s y)) p.1.1)

apart : (u v : ℕ) (bs t : List ℕ) → ((u == v) && bytes_eq bs t) ≡ false → AreApart (λ k. is_eq (compared_in (digest bs) u bs k)) (λ k. is_eq (compared_in (digest t) v t k))
apart u v bs t n k e =
    let p = is_at_key (digest bs) u bs k e in
    false_from_ne_true (is_eq (compared_in (digest t) v t k)) (λ f.
    let q = is_at_key (digest t) v t k f in
    false≢true (sym n ∙ and_from (u == v) (bytes_eq bs t) (eq-eqb u v (p.1.0 ∙ sym q.1.0)) ((bytes_eq-Decides bs t).1 (p.1.1 ∙ sym q.1.1))))

other_entries : {X : Type 0} (eq : Triple → Triple → Bool) (test : Triple → Bool) (old new : List (Triple × X)) → KeepsOthers eq test old new → (other : Triple → Bool) → IsKeyTest eq other → AreApart test other → lookup other new ≡ lookup other old
unfolding KeepsOthers
other_entries eq test old new h = h

-- a map of which one name of a file is set
pub pairs_update : {X : Type 0} (u : ℕ) (bs : List ℕ) (d : ℕ) (m n : BTreeMap Triple X) (w : Option X) → d ≡ digest bs → tree.UpdatesBy triple_cmp (compared_in d u bs) m n w
    → (v : ℕ) (t : List ℕ) → tree.get_by (compared_in (digest t) v t) n ≡ (if (u == v) && bytes_eq bs t then w else tree.get_by (compared_in (digest t) v t) m)
pairs_update u bs d m n w is g v t =
    let h = subst (λ c. tree.UpdatesBy triple_cmp (compared_in c u bs) m n w) is g in
    let P : Bool → Type 0 = λ b. ((u == v) && bytes_eq bs t) ≡ b → tree.get_by (compared_in (digest t) v t) n ≡ (if b then w else tree.get_by (compared_in (digest t) v t) m) in
    (elim ((u == v) && bytes_eq bs t) as P [
      | true ↦ λ e.
          let p = and_parts (u == v) (bytes_eq bs t) e in
          ap (λ x. tree.get_by (compared_in (digest t) x t) n) (sym (eqb-true u v p.0)) ∙ (ap (λ s. tree.get_by (compared_in (digest s) u s) n) (sym ((bytes_eq-Decides bs t).0 p.1)) ∙ h.1)
      | false ↦ λ e. other_entries (eq_by_cmp triple_cmp) (λ k. is_eq (compared_in (digest bs) u bs k)) m.entries n.entries h.3 (λ k. is_eq (compared_in (digest t) v t k)) (key_test (digest t) v t) (apart u v bs t e)
    ]) refl
