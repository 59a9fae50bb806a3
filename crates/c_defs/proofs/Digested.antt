-- Maps whose keys are names with their digests.
use Rattle.std.proofs.Common.{◌≡◌, ℕ, Bool, true, false, ◌&&◌, ◌==◌, nat_lt, List, ◌∙◌, sym, refl, ap, subst, Option, bytes_eq, if◌then◌else◌, arith, BTreeMap, Bor, Ordering, Less, Equal, Greater, nat_cmp, is_eq, ltb-true}
use Rattle.std.proofs.lemmas.Bool.{and_parts, and_from, eqb-true, eq-eqb, ne_eqb, false_from_ne_true, false≢true}
use Rattle.std.proofs.lemmas.Map.Text.{is_eq-slice_cmp}
use Rattle.std.proofs.lemmas.Slice.Eq.{bytes_eq-Decides}
use Rattle.std.specs.Ordering.{ordering_then, eq_by_cmp}
use Rattle.std.specs.Cmp.Lexicographic.{slice_cmp}
use Rattle.std.specs.Map.{update, lookup, IsKeyTest, AreApart, KeepsOthers}
use Rattle.std.specs.BTreeMap as tree
use Rattle.c_defs.specs.Digests.{digest, compared}

abbrev pub Pair : Type 0
Pair = ℕ × Bor (List ℕ)

abbrev pub pair_cmp : Pair → Pair → Ordering
pair_cmp x y = ordering_then (nat_cmp x.0 y.0) (slice_cmp nat_cmp x.1.now y.1.now)

pub both_equal : (o p : Ordering) → is_eq (ordering_then o p) ≡ (is_eq o && is_eq p)
both_equal Less p = refl
both_equal Equal p = refl
both_equal Greater p = refl

pub number_equal : (u v : ℕ) → is_eq (nat_cmp u v) ≡ (u == v)
number_equal u v =
    let P : Bool → Type 0 = λ b. nat_lt u v ≡ b → is_eq (if b then Less else (if u == v then Equal else Greater)) ≡ (u == v) in
    (elim (nat_lt u v) as P [
      | true ↦ λ e. let l = ltb-true u v e in sym (ne_eqb u v (λ f. omega arith))
      | false ↦ λ e. elim (u == v) as (λ b. is_eq (if b then Equal else Greater) ≡ b) [ true ↦ refl | false ↦ refl ]
    ]) refl

pub compared_is : (u v : ℕ) (t s : List ℕ) → is_eq (ordering_then (nat_cmp u v) (slice_cmp nat_cmp t s)) ≡ ((u == v) && bytes_eq t s)
compared_is u v t s = both_equal (nat_cmp u v) (slice_cmp nat_cmp t s) ∙ (ap (λ b. b && is_eq (slice_cmp nat_cmp t s)) (number_equal u v) ∙ ap (λ b. (u == v) && b) (is_eq-slice_cmp t s))

is_at_key : (u v : ℕ) (t s : List ℕ) → is_eq (ordering_then (nat_cmp u v) (slice_cmp nat_cmp t s)) ≡ true → (u ≡ v) × (t ≡ s)
is_at_key u v t s e =
    let p = and_parts (u == v) (bytes_eq t s) (sym (compared_is u v t s) ∙ e) in
    (eqb-true u v p.0, (bytes_eq-Decides t s).0 p.1)

key_test : (v : ℕ) (t : List ℕ) → IsKeyTest (eq_by_cmp pair_cmp) (λ k. is_eq (compared v t k))
key_test v t x y e =
    let p = is_at_key v x.0 t x.1.now e in
    ap (λ w. is_eq (compared w t y)) p.0 ∙ ap (λ s. is_eq (compared x.0 s y)) p.1

apart : (u v : ℕ) (bs t : List ℕ) → ((u == v) && bytes_eq bs t) ≡ false → AreApart (λ k. is_eq (compared u bs k)) (λ k. is_eq (compared v t k))
apart u v bs t n k e =
    let p = is_at_key u k.0 bs k.1.now e in
    false_from_ne_true (is_eq (compared v t k)) (λ f.
    let q = is_at_key v k.0 t k.1.now f in
    false≢true (sym n ∙ and_from (u == v) (bytes_eq bs t) (eq-eqb u v (p.0 ∙ sym q.0)) ((bytes_eq-Decides bs t).1 (p.1 ∙ sym q.1))))

other_entries : {X : Type 0} (eq : Pair → Pair → Bool) (test : Pair → Bool) (old new : List (Pair × X)) → KeepsOthers eq test old new → (other : Pair → Bool) → IsKeyTest eq other → AreApart test other → lookup other new ≡ lookup other old
unfolding KeepsOthers
other_entries eq test old new h = h

-- a map of which one key is set
pairs_update : {X : Type 0} (u : ℕ) (bs : List ℕ) (m n : BTreeMap Pair X) (w : Option X) → tree.UpdatesBy pair_cmp (compared u bs) m n w
    → (v : ℕ) (t : List ℕ) → tree.get_by (compared v t) n ≡ (if (u == v) && bytes_eq bs t then w else tree.get_by (compared v t) m)
pairs_update u bs m n w h v t =
    let P : Bool → Type 0 = λ b. ((u == v) && bytes_eq bs t) ≡ b → tree.get_by (compared v t) n ≡ (if b then w else tree.get_by (compared v t) m) in
    (elim ((u == v) && bytes_eq bs t) as P [
      | true ↦ λ e.
          let p = and_parts (u == v) (bytes_eq bs t) e in
          ap (λ x. tree.get_by (compared x t) n) (sym (eqb-true u v p.0)) ∙ (ap (λ s. tree.get_by (compared u s) n) (sym ((bytes_eq-Decides bs t).0 p.1)) ∙ h.1)
      | false ↦ λ e. other_entries (eq_by_cmp pair_cmp) (λ k. is_eq (compared u bs k)) m.entries n.entries h.3 (λ k. is_eq (compared v t k)) (key_test v t) (apart u v bs t e)
    ]) refl

-- names that are the same have the same digest
same_name : (bs t : List ℕ) → ((digest bs == digest t) && bytes_eq bs t) ≡ bytes_eq bs t
same_name bs t =
    let P : Bool → Type 0 = λ b. bytes_eq bs t ≡ b → ((digest bs == digest t) && b) ≡ b in
    (elim (bytes_eq bs t) as P [
      | true ↦ λ e. and_from (digest bs == digest t) true (eq-eqb (digest bs) (digest t) (ap digest ((bytes_eq-Decides bs t).0 e))) refl
      | false ↦ λ e. elim (digest bs == digest t) as (λ c. (c && false) ≡ false) [ true ↦ refl | false ↦ refl ]
    ]) refl

-- a map of which one name is set
pub digested_update : {X : Type 0} (bs : List ℕ) (d : ℕ) (m n : BTreeMap Pair X) (w : Option X) → d ≡ digest bs → tree.UpdatesBy pair_cmp (compared d bs) m n w
    → (t : List ℕ) → tree.get_by (compared (digest t) t) n ≡ update bytes_eq (λ s. tree.get_by (compared (digest s) s) m) bs w t
digested_update bs d m n w e h t =
    pairs_update (digest bs) bs m n w (subst (λ v. tree.UpdatesBy pair_cmp (compared v bs) m n w) e h) (digest t) t
    ∙ ap (λ b. if b then w else tree.get_by (compared (digest t) t) m) (same_name bs t)
