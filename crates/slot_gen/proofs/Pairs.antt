-- Rows that are made one by one.
use Rattle.std.proofs.Common.{◌≡◌, ℕ, zero, suc, ◌+◌, ◌<◌, ◌≤◌, List, [], ◌∷◌, ◌++◌, Option, Some, None, length, refl, sym, ap, ◌∙◌, arith, get_or, take, subst}
use Rattle.std.proofs.lemmas.List.{take_more, take_all}
use Rattle.std.specs.Prelude.{slice_get}
use Rattle.slot_gen.specs.Rows.{EachFrom}

module _ {A B : Type 0} (P : ℕ → A → B → Type 0) where
  each_more : (n : ℕ) (xs : List A) (bs : List B) (a : A) (b : B) → P (n + length xs) a b → EachFrom P n xs bs → EachFrom P n (xs ++ a ∷ []) (bs ++ b ∷ [])
  each_more n [] [] a b h e = let z : n + 0 ≡ n = omega arith in (subst (λ k. P k a b) z h, tt)
  each_more n [] (b' ∷ bs) a b h e = absurd e
  each_more n (a' ∷ xs) [] a b h e = absurd e
  each_more n (a' ∷ xs) (b' ∷ bs) a b h e =
      let z : n + length (a' ∷ xs) ≡ suc n + length xs = omega arith in
      (e.0, each_more (suc n) xs bs a b (subst (λ k. P k a b) z h) e.1)

  length_take : (i : ℕ) (xs : List A) → i ≤ length xs → length (take i xs) ≡ i
  length_take zero xs h = refl
  length_take (suc i) [] h = absurd (omega arith)
  length_take (suc i) (a ∷ xs) h = ap suc (length_take i xs (omega arith))

  pub each_push : (all : List A) (i n : ℕ) (bs bs' : List B) (a : A) (b : B) → i < length all → a ≡ get_or all i a → n ≡ i → P n a b → bs' ≡ bs ++ b ∷ [] → EachFrom P 0 (take i all) bs → EachFrom P 0 (take (i + 1) all) bs'
  each_push all i n bs bs' a b lt at en h push e =
      let l = length_take i all (omega arith) in
      let k : n ≡ 0 + length (take i all) = omega arith in
      let h' = each_more 0 (take i all) bs a b (subst (λ m. P m a b) k h) e in
      let one : take (i + 1) all ≡ take i all ++ a ∷ [] = take_more all i a lt ∙ ap (λ x. take i all ++ x ∷ []) (sym at) in
      subst (λ x. EachFrom P 0 (take (i + 1) all) x) (sym push) (subst (λ x. EachFrom P 0 x (bs ++ b ∷ [])) (sym one) h')

  pub each_all : (all : List A) (i : ℕ) (bs : List B) → length all ≤ i → EachFrom P 0 (take i all) bs → EachFrom P 0 all bs
  each_all all i bs le e = subst (λ x. EachFrom P 0 x bs) (take_all i all le) e

  pub each_at : (n : ℕ) (xs : List A) (bs : List B) → EachFrom P n xs bs → (i : ℕ) (a : A) → slice_get xs i ≡ Some a → (b : B) × (slice_get bs i ≡ Some b) × P (n + i) a b
  each_at n [] [] e i a g = absurd (cc g)
  each_at n [] (b ∷ bs) e i a g = absurd e
  each_at n (a' ∷ xs) [] e i a g = absurd e
  each_at n (a' ∷ xs) (b ∷ bs) e zero a g = let s : a' ≡ a = cc g in let z : n ≡ n + 0 = omega arith in (b, refl, subst (λ k. P k a b) z (subst (λ x. P n x b) s e.0))
  each_at n (a' ∷ xs) (b ∷ bs) e (suc i) a g =
      let r = each_at (suc n) xs bs e.1 i a g in
      let z : suc n + i ≡ n + suc i = omega arith in
      (r.0, r.1, subst (λ k. P k a r.0) z r.2)

  pub each_none : (n : ℕ) (xs : List A) (bs : List B) → EachFrom P n xs bs → (i : ℕ) → slice_get xs i ≡ None → slice_get bs i ≡ None
  each_none n [] [] e i g = refl
  each_none n [] (b ∷ bs) e i g = absurd e
  each_none n (a ∷ xs) [] e i g = absurd e
  each_none n (a ∷ xs) (b ∷ bs) e zero g = absurd (cc g)
  each_none n (a ∷ xs) (b ∷ bs) e (suc i) g = each_none (suc n) xs bs e.1 i g

  pub each_length : (n : ℕ) (xs : List A) (bs : List B) → EachFrom P n xs bs → length bs ≡ length xs
  each_length n [] [] e = refl
  each_length n [] (b ∷ bs) e = absurd e
  each_length n (a ∷ xs) [] e = absurd e
  each_length n (a ∷ xs) (b ∷ bs) e = ap suc (each_length (suc n) xs bs e.1)

pub each_along : {A B : Type 0} (P : ℕ → A → B → Type 0) (xs ys : List A) (bs : List B) → xs ≡ ys → EachFrom P 0 xs bs → EachFrom P 0 ys bs
each_along P xs ys bs e h = subst (λ l. EachFrom P 0 l bs) e h
