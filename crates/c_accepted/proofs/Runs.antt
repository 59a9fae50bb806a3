-- Numbers one after another, and parts of lists by their places.
use Rattle.std.proofs.Common.{◌≡◌, refl, sym, ap, ◌∙◌, subst, arith, ℕ, zero, suc, ◌+◌, List, [], ◌∷◌, ◌++◌, length, length-append, append_assoc, Some, None}
use Rattle.std.specs.Prelude.{slice_get}
use Rattle.std.specs.List.{AllByRecursion}
use Rattle.c_typing.specs.Programs.{numbers}

-- the numbers from one up to another
abbrev pub Runs : ℕ → List ℕ → ℕ → Type 0
Runs a [] b = a ≡ b
Runs a (q ∷ qs) b = (q ≡ a) × Runs (suc a) qs b

pub runs_on : (a b c : ℕ) (qs rs : List ℕ) → Runs a qs b → Runs b rs c → Runs a (qs ++ rs) c
runs_on a b c [] rs h k = subst (λ x. Runs x rs c) (sym h) k
runs_on a b c (q ∷ qs) rs h k = (h.0, runs_on (suc a) b c qs rs h.1 k)

pub runs_to : (a b c : ℕ) (qs : List ℕ) → Runs a qs b → b ≡ c → Runs a qs c
runs_to a b c qs h e = subst (Runs a qs) e h

pub runs_length : (a b : ℕ) (qs : List ℕ) → Runs a qs b → b ≡ a + length qs
runs_length a b [] h = omega (arith, h)
runs_length a b (q ∷ qs) h = let k = runs_length (suc a) b qs h.1 in omega (arith, k)

pub runs_numbers : (a b : ℕ) (qs : List ℕ) → Runs a qs b → qs ≡ numbers a (length qs)
runs_numbers a b [] h = refl
runs_numbers a b (q ∷ qs) h = ap (λ x. x ∷ qs) h.0 ∙ ap (λ xs. a ∷ xs) (runs_numbers (suc a) b qs h.1)

pub numbers_run : (a n : ℕ) → Runs a (numbers a n) (a + n)
numbers_run a zero = omega arith
numbers_run a (suc n) = (refl, runs_to (suc a) (suc a + n) (a + suc n) (numbers (suc a) n) (numbers_run (suc a) n) (omega arith))

pub runs_same : (a b : ℕ) (qs rs : List ℕ) → Runs a qs b → Runs a rs b → qs ≡ rs
runs_same a b qs rs h k =
    let e = runs_length a b qs h in
    let f = runs_length a b rs k in
    runs_numbers a b qs h ∙ ap (numbers a) (let n : length qs ≡ length rs = omega (arith, e, f) in n) ∙ sym (runs_numbers a b rs k)

pub numbers_length : (a n : ℕ) → length (numbers a n) ≡ n
numbers_length a zero = refl
numbers_length a (suc n) = ap suc (numbers_length (suc a) n)

-- ---- parts of a list

-- these stand in a list from a place on
abbrev pub IsAt : {A : Type 0} → List A → ℕ → List A → Type 0
IsAt xs n [] = Unit {0}
IsAt xs n (y ∷ ys) = (slice_get xs n ≡ Some y) × IsAt xs (suc n) ys

pub at_first : {A : Type 0} (xs : List A) (n : ℕ) (ys zs : List A) → IsAt xs n (ys ++ zs) → IsAt xs n ys
at_first xs n [] zs h = tt
at_first xs n (y ∷ ys) zs h = (h.0, at_first xs (suc n) ys zs h.1)

pub at_second : {A : Type 0} (xs : List A) (n m : ℕ) (ys zs : List A) → m ≡ n + length ys → IsAt xs n (ys ++ zs) → IsAt xs m zs
at_second xs n m [] zs e h = subst (λ k. IsAt xs k zs) (let f : n ≡ m = omega (arith, e) in f) h
at_second xs n m (y ∷ ys) zs e h = at_second xs (suc n) m ys zs (omega (arith, e)) h.1

pub at_one : {A : Type 0} (xs : List A) (n i : ℕ) (ys : List A) (y : A) → IsAt xs n ys → slice_get ys i ≡ Some y → slice_get xs (n + i) ≡ Some y
at_one xs n i [] y h e = absurd (let k : None ≡ Some y = e in cc)
at_one xs n zero (z ∷ ys) y h e = ap (slice_get xs) (let f : n + 0 ≡ n = omega arith in f) ∙ h.0 ∙ e
at_one xs n (suc i) (z ∷ ys) y h e = ap (slice_get xs) (let f : n + suc i ≡ suc n + i = omega arith in f) ∙ at_one xs (suc n) i ys y h.1 e

-- what stands behind others in a list
pub at_append : {A : Type 0} (ws ys zs : List A) (n : ℕ) → n ≡ length ws → IsAt (ws ++ (ys ++ zs)) n ys
at_append ws [] zs n e = tt
at_append {A} ws (y ∷ ys) zs n e = (
  here ws (ys ++ zs) n e,
  subst (λ us. IsAt us (suc n) ys) (append_assoc ws (y ∷ []) (ys ++ zs)) (at_append (ws ++ y ∷ []) ys zs (suc n) (let l = length-append ws (y ∷ []) in omega (arith, e, l))),
)
  where
    here : (us vs : List A) (n : ℕ) → n ≡ length us → slice_get (us ++ y ∷ vs) n ≡ Some y
    here [] vs zero e = refl
    here [] vs (suc n) e = absurd (omega (arith, e))
    here (u ∷ us) vs zero e = absurd (omega (arith, e))
    here (u ∷ us) vs (suc n) e = here us vs n (omega (arith, e))

-- ---- properties of all

pub all_first : {A : Type 0} (P : A → Type 0) (xs ys : List A) → AllByRecursion P (xs ++ ys) → AllByRecursion P xs
all_first P [] ys h = tt
all_first P (x ∷ xs) ys h = (h.0, all_first P xs ys h.1)

pub all_second : {A : Type 0} (P : A → Type 0) (xs ys : List A) → AllByRecursion P (xs ++ ys) → AllByRecursion P ys
all_second P [] ys h = h
all_second P (x ∷ xs) ys h = all_second P xs ys h.1

pub all_both : {A : Type 0} (P : A → Type 0) (xs ys : List A) → AllByRecursion P xs → AllByRecursion P ys → AllByRecursion P (xs ++ ys)
all_both P [] ys h k = k
all_both P (x ∷ xs) ys h k = (h.0, all_both P xs ys h.1 k)
