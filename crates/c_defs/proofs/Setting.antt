-- One item of a list is set.
use Rattle.std.proofs.Common.{arith, ◌≡◌, ◌<◌, ◌==◌, ℕ, zero, suc, true, false, List, [], ◌∷◌, length, slice_get, slice_set, refl, ap, Some}

pub set_same : {A : Type 0} (xs : List A) (s : ℕ) (x : A) → s < length xs → slice_get (slice_set xs s x) s ≡ Some x
set_same [] s x h = absurd (omega arith)
set_same (y ∷ xs) zero x h = refl
set_same (y ∷ xs) (suc s) x h = set_same xs s x (omega arith)

one_less : (n s : ℕ) → (suc n == suc s) ≡ false → (n == s) ≡ false
one_less n s h = grind arith

pub set_other : {A : Type 0} (xs : List A) (s : ℕ) (x : A) (n : ℕ) → (n == s) ≡ false → slice_get (slice_set xs s x) n ≡ slice_get xs n
set_other [] s x n h = refl
set_other (y ∷ xs) zero x zero h = absurd (let e : true ≡ false = h in cc)
set_other (y ∷ xs) zero x (suc n) h = refl
set_other (y ∷ xs) (suc s) x zero h = refl
set_other (y ∷ xs) (suc s) x (suc n) h = set_other xs s x n (one_less n s h)

pub set_length : {A : Type 0} (xs : List A) (s : ℕ) (x : A) → length (slice_set xs s x) ≡ length xs
set_length [] s x = refl
set_length (y ∷ xs) zero x = refl
set_length (y ∷ xs) (suc s) x = ap suc (set_length xs s x)
