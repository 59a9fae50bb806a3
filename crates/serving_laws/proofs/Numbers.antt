-- Words as integers of the dialect: with a sign and without one.
use Rattle.std.proofs.Common.{◌≡◌, refl, sym, ap, ◌∙◌, ℕ, ◌-◌, ◌^◌, ◌<◌, ◌≤◌, nat_lt, ◌*◌, ◌%◌, Bool, true, false, if◌then◌else◌, Result, Ok, ℤ, pos, negsuc, ltb-true, ltb-false, lt-ltb, le-ltb, arith}
use Rattle.std.specs.Prelude.{◌==◌, not, int_lt, int_le, nat_le, bit_and, bit_or, bit_xor, neg_ℤ, ◌-ℤ◌}
use Rattle.std.specs.Int.{w8, w32, cast_signed, int_shr, int_bit_and, int_bit_or, int_bit_xor}
use Rattle.std.specs.Ordering.{int_eq, int_cmp}
use Rattle.std.proofs.lemmas.Int.{of_z-to_z}
use Rattle.std.proofs.lemmas.Bool.Decides.{Decides-eqb, Decides-int_eq}
use Rattle.ldb_words.specs.Word.{signed, word_of_signed}
use Rattle.ldb_words.specs.declared.kinds.Undef.{Undef}
use Rattle.c_operators.specs.Bits.{minus_one, low_byte, signed_shift_right}
use Rattle.std.specs.declared.cmp.Ordering.TheVariants.{Less, Equal, Greater}
use Rattle.ps_step.specs.Compare.{holds}
use Rattle.ps_step.specs.declared.compare.Relation.TheVariants.{Lt, Le, Gt, Ge}

pub back : (x : ℕ) → x < 2 ^ 32 → word_of_signed (signed x) ≡ x
back x h = of_z-to_z w32 x h

same_by : (b c : Bool) → (b ≡ true → c ≡ true) → (c ≡ true → b ≡ true) → b ≡ c
same_by true c f g = sym (f refl)
same_by false true f g = g refl
same_by false false f g = refl

pub equal_is : (x y : ℕ) → x < 2 ^ 32 → y < 2 ^ 32 → int_eq (signed x) (signed y) ≡ (x == y)
equal_is x y h k = same_by (int_eq (signed x) (signed y)) (x == y)
    (λ e. (Decides-eqb x y).1 (sym (back x h) ∙ ap word_of_signed ((Decides-int_eq (signed x) (signed y)).0 e) ∙ back y k))
    (λ e. (Decides-int_eq (signed x) (signed y)).1 (ap signed ((Decides-eqb x y).0 e)))

-- ---- order

pub less_is : (x y : ℤ) → holds Lt (int_cmp x y) ≡ int_lt x y
less_is x y = by (int_lt x y) (int_lt y x)
  where
    by : (b c : Bool) → holds Lt (if b then Less else if c then Greater else Equal) ≡ b
    by true c = refl
    by false true = refl
    by false false = refl

pub greater_is : (x y : ℤ) → holds Gt (int_cmp x y) ≡ int_lt y x
greater_is (pos a) (pos b) = grind arith
greater_is (pos a) (negsuc b) = refl
greater_is (negsuc a) (pos b) = refl
greater_is (negsuc a) (negsuc b) = grind arith

pub at_most_is : (x y : ℤ) → holds Le (int_cmp x y) ≡ int_le x y
at_most_is (pos a) (pos b) = grind arith
at_most_is (pos a) (negsuc b) = refl
at_most_is (negsuc a) (pos b) = refl
at_most_is (negsuc a) (negsuc b) = grind arith

pub at_least_is : (x y : ℤ) → holds Ge (int_cmp x y) ≡ int_le y x
at_least_is (pos a) (pos b) = grind arith
at_least_is (pos a) (negsuc b) = refl
at_least_is (negsuc a) (pos b) = refl
at_least_is (negsuc a) (negsuc b) = grind arith

pub not_less : (x y : ℕ) → not (nat_lt y x) ≡ nat_le x y
not_less x y = grind arith

-- ---- bits

pub or_is : (x y : ℕ) → x < 2 ^ 32 → y < 2 ^ 32 → int_bit_or w32 (signed x) (signed y) ≡ signed (bit_or x y)
or_is x y h k = ap (λ a. signed (bit_or a (word_of_signed (signed y)))) (back x h) ∙ ap (λ b. signed (bit_or x b)) (back y k)

pub xor_is : (x y : ℕ) → x < 2 ^ 32 → y < 2 ^ 32 → int_bit_xor w32 (signed x) (signed y) ≡ signed (bit_xor x y)
xor_is x y h k = ap (λ a. signed (bit_xor a (word_of_signed (signed y)))) (back x h) ∙ ap (λ b. signed (bit_xor x b)) (back y k)

pub and_is : (x y : ℕ) → x < 2 ^ 32 → y < 2 ^ 32 → int_bit_and w32 (signed x) (signed y) ≡ signed (bit_and x y)
and_is x y h k = ap (λ a. signed (bit_and a (word_of_signed (signed y)))) (back x h) ∙ ap (λ b. signed (bit_and x b)) (back y k)

pub complement_is : (x : ℕ) → x < 2 ^ 32 → neg_ℤ (signed x) -ℤ pos 1 ≡ signed (minus_one - x)
complement_is x h = grind arith

-- ---- the low byte, by two shifts

shifted_byte : (b : ℕ) → b < 256 → int_shr (signed (b * 16777216)) 24 ≡ cast_signed w8 b
shifted_byte b h = by (nat_lt b 128) refl
  where
    by : (low : Bool) → nat_lt b 128 ≡ low → int_shr (signed (b * 16777216)) 24 ≡ cast_signed w8 b
    by true e =
        let below : b < 128 = ltb-true _ _ e in
        let half : nat_lt (b * 16777216) 2147483648 ≡ true = lt-ltb _ _ (omega (arith, below)) in
        rw (half, e) (ap pos (omega arith))
    by false e =
        let above : 128 ≤ b = ltb-false _ _ e in
        let half : nat_lt (b * 16777216) 2147483648 ≡ false = le-ltb _ _ (omega (arith, above)) in
        rw (half, e) (ap negsuc (omega (arith, above)))

abbrev word_done : ℕ → Result ℕ Undef
word_done n = Ok n

pub done_same : (x y : ℕ) → word_done x ≡ word_done y → x ≡ y
done_same x y h = cc

pub byte_is : (x v w : ℕ) → v ≡ x * 2 ^ 24 % 2 ^ 32 → signed_shift_right v 24 ≡ Ok w → w ≡ low_byte x
byte_is x v w e h =
    let b : ℕ = x % 256 in
    let same : v ≡ b * 16777216 = omega (arith, e) in
    sym (done_same (word_of_signed (int_shr (signed v) 24)) w h) ∙ ap (λ n. word_of_signed (int_shr (signed n) 24)) same ∙ ap word_of_signed (shifted_byte b (omega arith))
