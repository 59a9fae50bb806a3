-- Types that are told to be the same are equal.
use Rattle.std.proofs.Common.{◌≡◌, refl, sym, ◌∙◌, ap, arith, ℕ, true, true≢false}
use Rattle.std.specs.Prelude.{◌==◌}
use Rattle.c_typing.specs.Plain.{Plain, Char, Int, Unsigned, Void, Pointer, Array, Struct, same}
use Rattle.c_typing.proofs.Complete.{and_parts, and_true}

equal_numbers : (m n : ℕ) → (m == n) ≡ true → m ≡ n
equal_numbers m n h = grind arith

same_number : (n : ℕ) → (n == n) ≡ true
same_number n = grind arith

pub only_same : (s t : Plain) → same s t ≡ true → s ≡ t
only_same Char Char h = refl
only_same Int Int h = refl
only_same Unsigned Unsigned h = refl
only_same Void Void h = refl
only_same (Pointer s) (Pointer t) h = ap Pointer (only_same s t h)
only_same (Array s m) (Array t n) h =
    let q = and_parts (same s t) (m == n) h in
    ap (λ x. Array x m) (only_same s t q.0) ∙ ap (Array t) (equal_numbers m n q.1)
only_same (Struct m) (Struct n) h = ap Struct (equal_numbers m n h)
only_same _ _ h = absurd (true≢false (sym h))

pub all_same : (t : Plain) → same t t ≡ true
all_same Char = refl
all_same Int = refl
all_same Unsigned = refl
all_same Void = refl
all_same (Pointer t) = all_same t
all_same (Array t n) = and_true (same t t) (n == n) (all_same t) (same_number n)
all_same (Struct n) = same_number n
