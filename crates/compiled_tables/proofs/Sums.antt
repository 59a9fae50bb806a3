-- Sums over lists, and their lengths at a rate.
use Rattle.std.proofs.Common.{◌≡◌, ap, ℕ, ◌+◌, ◌*◌, List, [], ◌∷◌, ◌++◌, length, length-append, arith}
use Rattle.compiled_tables.specs.Weights.{total}

pub total-append : {A : Type 0} (f : A → ℕ) (xs ys : List A) → total f (xs ++ ys) ≡ total f xs + total f ys
total-append f [] ys = omega arith
total-append f (x ∷ xs) ys = omega (arith, total-append f xs ys)

pub total_of_one : {A : Type 0} (f : A → ℕ) (xs : List A) (y : A) → total f (xs ++ y ∷ []) ≡ total f xs + f y
total_of_one f xs y = omega (arith, total-append f xs (y ∷ []))

pub times_append : {A : Type 0} (n : ℕ) (xs ys : List A) → n * length (xs ++ ys) ≡ n * length xs + n * length ys
times_append n xs ys = let e = ap (λ m. n * m) (length-append xs ys) in omega (arith, e)
