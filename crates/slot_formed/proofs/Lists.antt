-- Lists of which all items have a property, and options.
use Rattle.std.proofs.Common.{◌≡◌, refl, sym, ap, subst, ◌∙◌, arith, ℕ, suc, zero, ◌+◌, ◌<◌, List, [], ◌∷◌, ◌++◌, length, Bool, true, false, ◌&&◌, ◌||◌, Option, Some, None, true≢false, slice_get, map, ◌⊎◌, inl, inr}
use Rattle.std.specs.Prelude.{option_map, option_and_then, sum}
use Rattle.std.proofs.lemmas.List.Sums.{sum-map, sum_by-cons}
use Rattle.std.specs.List.{AllByRecursion}
use Rattle.c_typing.specs.Programs.{AllFrom}

pub all_append : {A : Type 0} (P : A → Type 0) (xs ys : List A) → AllByRecursion P xs → AllByRecursion P ys → AllByRecursion P (xs ++ ys)
all_append P [] ys h k = k
all_append P (x ∷ xs) ys h k = (h.0, all_append P xs ys h.1 k)

pub all_left : {A : Type 0} (P : A → Type 0) (xs ys : List A) → AllByRecursion P (xs ++ ys) → AllByRecursion P xs
all_left P [] ys h = tt
all_left P (x ∷ xs) ys h = (h.0, all_left P xs ys h.1)

pub all_right : {A : Type 0} (P : A → Type 0) (xs ys : List A) → AllByRecursion P (xs ++ ys) → AllByRecursion P ys
all_right P [] ys h = h
all_right P (x ∷ xs) ys h = all_right P xs ys h.1

pub all_map : {A : Type 0} (P Q : A → Type 0) (xs : List A) → ((x : A) → P x → Q x) → AllByRecursion P xs → AllByRecursion Q xs
all_map P Q [] f h = tt
all_map P Q (x ∷ xs) f h = (f x h.0, all_map P Q xs f h.1)

pub no_none : {A B : Type 0} (x : A) → ◌≡◌ {A = Option A} None (Some x) → B
no_none {A} {B} x e = absurd (subst (λ (q : Option A). elim q as (λ _. Type 0) [ None ↦ Unit {0} | Some y ↦ ⊥ ]) e tt)

pub some_same : {A : Type 0} (x y : A) → ◌≡◌ {A = Option A} (Some x) (Some y) → x ≡ y
some_same {A} x y e = ap (λ (q : Option A). elim q as (λ _. A) [ None ↦ x | Some z ↦ z ]) e

pub each_from : {A : Type 0} (P : ℕ → A → Type 0) (n : ℕ) (xs : List A) (i : ℕ) (x : A) → AllFrom P n xs → slice_get xs i ≡ Some x → P (i + n) x
each_from P n [] i x h e = no_none x e
each_from P n (y ∷ ys) zero x h e = let z : n ≡ 0 + n = omega arith in subst (λ m. P m x) z (subst (P n) (some_same y x e) h.0)
each_from P n (y ∷ ys) (suc i) x h e = let z : i + suc n ≡ suc i + n = omega arith in subst (λ m. P m x) z (each_from P (suc n) ys i x h.1 e)

pub each_at_zero : {A : Type 0} (P : ℕ → A → Type 0) (xs : List A) (i : ℕ) (x : A) → AllFrom P 0 xs → slice_get xs i ≡ Some x → P i x
each_at_zero P xs i x h e = let z : i + 0 ≡ i = omega arith in subst (λ m. P m x) z (each_from P 0 xs i x h e)

pub each_of : {A : Type 0} (P : A → Type 0) (xs : List A) (i : ℕ) (x : A) → AllByRecursion P xs → slice_get xs i ≡ Some x → P x
each_of P [] i x h e = no_none x e
each_of P (y ∷ ys) zero x h e = subst P (some_same y x e) h.0
each_of P (y ∷ ys) (suc i) x h e = each_of P ys i x h.1 e

pub below_length : {A : Type 0} (xs : List A) (i : ℕ) (x : A) → slice_get xs i ≡ Some x → i < length xs
below_length [] i x e = no_none x e
below_length (y ∷ ys) zero x e = omega arith
below_length (y ∷ ys) (suc i) x e = omega (arith, below_length ys i x e)

pub and_parts : (a b : Bool) → a && b ≡ true → (a ≡ true) × (b ≡ true)
and_parts true b h = (refl, h)
and_parts false b h = absurd (true≢false (sym h))

pub or_parts : (a b : Bool) → a || b ≡ true → (a ≡ true) ⊎ (b ≡ true)
or_parts true b h = inl refl
or_parts false b h = inr h

pub then_some : {A B : Type 0} (g : A → Option B) (o : Option A) (r : B) → option_and_then g o ≡ Some r → (x : A) × (o ≡ Some x) × (g x ≡ Some r)
then_some g None r h = no_none r h
then_some g (Some x) r h = (x, refl, h)

pub map_some : {A B : Type 0} (g : A → B) (o : Option A) (r : B) → option_map g o ≡ Some r → (x : A) × (o ≡ Some x) × (g x ≡ r)
map_some g None r h = no_none r h
map_some g (Some x) r h = (x, refl, some_same (g x) r h)

pub sum_more : {A : Type 0} (g : A → ℕ) (x : A) (xs : List A) → sum (map g (x ∷ xs)) ≡ g x + sum (map g xs)
sum_more g x xs = sum-map g (x ∷ xs) ∙ sum_by-cons g x xs ∙ ap (λ n. g x + n) (sym (sum-map g xs))
