-- Bytes that are added at the end and taken from the front.
use Rattle.std.proofs.Common.{◌≡◌, ◌∙◌, sym, ap, refl, ℕ, zero, suc, ◌+◌, ◌-◌, ◌≤◌, min, nat_eq, List, [], ◌∷◌, ◌++◌, length, take, drop, arith}
use Rattle.std.proofs.lemmas.Grind.{common_steps}
use Rattle.std.proofs.lemmas.Bool.Decides.{nat_tests}
use Rattle.std.proofs.lemmas.List.{drop-drop}

pub drop_append : (n : ℕ) (xs ys : List ℕ) → n ≤ length xs → drop n (xs ++ ys) ≡ drop n xs ++ ys
drop_append n xs ys h = grind (arith, common_steps)

pub take_append : (n : ℕ) (xs ys : List ℕ) → n ≤ length xs → take n (xs ++ ys) ≡ take n xs
take_append n xs ys h = grind (arith, common_steps)

-- all of them
pub all_taken : (n : ℕ) (xs : List ℕ) → take (length xs) xs ≡ take n xs ++ drop n xs
all_taken n xs = grind (arith, common_steps)

pub none_left : (xs : List ℕ) → drop (length xs) xs ≡ []
none_left xs = grind (arith, common_steps)

pub none_behind : (n : ℕ) (xs : List ℕ) → n ≤ length xs → nat_eq (length xs) n ≡ nat_eq (length (drop n xs)) 0
none_behind n xs h = grind (arith, common_steps, nat_tests)

-- what is left of a part
pub drop_rest : (r n : ℕ) (xs : List ℕ) → n ≤ r → drop (r - n) (drop n xs) ≡ drop r xs
drop_rest r n xs h = drop-drop (r - n) n xs ∙ ap (λ (k : ℕ). drop k xs) (omega arith)

nothing_taken : (n : ℕ) → take {A = ℕ} n [] ≡ []
nothing_taken zero = refl
nothing_taken (suc n) = refl

pub take_rest : (r n : ℕ) (xs : List ℕ) → n ≤ r → take (r - n) (drop n xs) ≡ drop n (take r xs)
take_rest r zero xs h = let e : r - 0 ≡ r = omega arith in ap (λ (k : ℕ). take k xs) e
take_rest zero (suc n) xs h = absurd (omega arith)
take_rest (suc r) (suc n) [] h = nothing_taken (suc r - suc n)
take_rest (suc r) (suc n) (x ∷ xs) h =
    let e : suc r - suc n ≡ r - n = omega arith in
    ap (λ (k : ℕ). take k (drop n xs)) e ∙ take_rest r n xs (omega arith)

pub least_taken : (n len r : ℕ) (xs : List ℕ) → n ≡ min len (length (take r xs)) → n ≤ r
least_taken n len r xs e = let short : length (take r xs) ≤ r = grind (arith, common_steps) in omega (arith, e, short)

-- ---- more of the bytes become ready

taken_of : (n : ℕ) (xs : List ℕ) → take (min (length xs) n) xs ≡ take n xs
taken_of n [] = nothing_taken (min 0 n) ∙ sym (nothing_taken n)
taken_of zero (x ∷ xs) = let e : min (suc (length xs)) 0 ≡ 0 = omega arith in ap (λ (k : ℕ). take k (x ∷ xs)) e
taken_of (suc n) (x ∷ xs) =
    let e : min (suc (length xs)) (suc n) ≡ suc (min (length xs) n) = omega arith in
    ap (λ (k : ℕ). take k (x ∷ xs)) e ∙ ap (λ (l : List ℕ). x ∷ l) (taken_of n xs)

taken_sum : (r n : ℕ) (xs : List ℕ) → take (r + n) xs ≡ take r xs ++ take n (drop r xs)
taken_sum zero n xs = let e : 0 + n ≡ n = omega arith in ap (λ (k : ℕ). take k xs) e
taken_sum (suc r) n [] = nothing_taken (suc r + n) ∙ sym (nothing_taken n)
taken_sum (suc r) n (x ∷ xs) =
    let e : suc r + n ≡ suc (r + n) = omega arith in
    ap (λ (k : ℕ). take k (x ∷ xs)) e ∙ ap (λ (l : List ℕ). x ∷ l) (taken_sum r n xs)

short_take : (r n : ℕ) (xs : List ℕ) → take (min (length xs) (r + n)) xs ≡ take r xs ++ take n (drop r xs)
short_take r n xs = taken_of (r + n) xs ∙ taken_sum r n xs

pub more_taken : (r n k : ℕ) (xs : List ℕ) → r ≤ length xs → k ≡ min (length xs) (r + n) → take k xs ≡ take r xs ++ take n (drop r xs)
more_taken r n k xs h e = ap (λ (j : ℕ). take j xs) e ∙ short_take r n xs

nothing_dropped : (n : ℕ) → drop {A = ℕ} n [] ≡ []
nothing_dropped zero = refl
nothing_dropped (suc n) = refl

dropped_of : (n : ℕ) (xs : List ℕ) → drop (min (length xs) n) xs ≡ drop n xs
dropped_of n [] = nothing_dropped (min 0 n) ∙ sym (nothing_dropped n)
dropped_of zero (x ∷ xs) = let e : min (suc (length xs)) 0 ≡ 0 = omega arith in ap (λ (k : ℕ). drop k (x ∷ xs)) e
dropped_of (suc n) (x ∷ xs) =
    let e : min (suc (length xs)) (suc n) ≡ suc (min (length xs) n) = omega arith in
    ap (λ (k : ℕ). drop k (x ∷ xs)) e ∙ dropped_of n xs

short_drop : (r n : ℕ) (xs : List ℕ) → drop (min (length xs) (r + n)) xs ≡ drop n (drop r xs)
short_drop r n xs = dropped_of (r + n) xs ∙ sym (drop-drop n r xs)

pub more_left : (r n k : ℕ) (xs : List ℕ) → r ≤ length xs → k ≡ min (length xs) (r + n) → drop k xs ≡ drop n (drop r xs)
more_left r n k xs h e = ap (λ (j : ℕ). drop j xs) e ∙ short_drop r n xs
