-- Numbers grow with their digits.
use Rattle.std.proofs.Common.{◌≡◌, ℕ, ◌+◌, ◌*◌, ◌≤◌, ◌<◌, Bool, true, false, nat_lt, List, [], ◌∷◌, le_refl, le_trans, arith, None, ◌∙◌, ap, subst, suc, drop, length, get_or}
use Rattle.std.specs.Prelude.{if◌then◌else◌}
use Rattle.std.proofs.lemmas.Bool.Decides.{nat_tests}
use Rattle.std.proofs.Math.Seq.{drop-cons}
use Rattle.std.proofs.lemmas.Bool.{lt-ltb}
use Rattle.c_lex.specs.Bytes.{digit_of}
use Rattle.c_lex.specs.Numbers.{number_from, in_range}

step_grows : (base n d : ℕ) → 1 ≤ base → n ≤ n * base + d
step_grows base n d h = grind arith

by_test : (base n : ℕ) (b : ℕ) (bs : List ℕ) → (n ≤ number_from base (n * base + digit_of b) bs) → (v : Bool)
    → n ≤ (if v then number_from base (n * base + digit_of b) bs else n)
by_test base n b bs h true = h
by_test base n b bs h false = le_refl n

pub grows : (base n : ℕ) (bs : List ℕ) → 1 ≤ base → n ≤ number_from base n bs
grows base n [] h = le_refl n
grows base n (b ∷ bs) h = by_test base n b bs (le_trans (step_grows base n (digit_of b) h) (grows base (n * base + digit_of b) bs h)) (nat_lt (digit_of b) base)

above : (n : ℕ) → 4294967295 < n → in_range n ≡ None
above n h = grind (arith, nat_tests)

digit_taken : (base n b : ℕ) (bs : List ℕ) → digit_of b < base → number_from base n (b ∷ bs) ≡ number_from base (n * base + digit_of b) bs
digit_taken base n b bs h = ap (λ v. if v then number_from base (n * base + digit_of b) bs else n) (lt-ltb (digit_of b) base h)

-- what is too large stays so
pub too_large : (base n : ℕ) (bs : List ℕ) → 1 ≤ base → 4294967295 < n → in_range (number_from base n bs) ≡ None
too_large base n bs h k = let g = grows base n bs h in above (number_from base n bs) (omega (arith, g, k))

pub too_large_step : (base n i : ℕ) (digits : List ℕ) (d : ℕ) → i < length digits → d ≡ digit_of (get_or digits i 0) → d < base → 4294967295 < n * base + d → 1 ≤ base
    → in_range (number_from base n (drop i digits)) ≡ None
too_large_step base n i digits d h e small big some =
    let b = get_or digits i 0 in
    let P : ℕ → Type 0 = λ x. 4294967295 < n * base + x in
    let Q : ℕ → Type 0 = λ x. x < base in
    ap (λ l. in_range (number_from base n l)) (drop-cons digits i 0 h)
    ∙ ap in_range (digit_taken base n b (drop (suc i) digits) (subst Q e small))
    ∙ too_large base (n * base + digit_of b) (drop (suc i) digits) some (subst P e big)
