-- How long the texts of terms are in a deferred string.
use Rattle.std.proofs.Common.{◌≡◌, ◌≤◌, ◌<◌, ◌+◌, ◌-◌, ◌*◌, ◌%◌, ◌^◌, ◌==◌, ◌||◌, ℕ, ℤ, pos, negsuc, suc, Bool, true, false, nat_lt, List, [], ◌∷◌, ◌++◌, length, decimal, refl, sym, ap, ◌∙◌, subst, arith, length-append, ne_eqb, w32, if◌then◌else◌}
use Rattle.std.proofs.lemmas.Fmt.{decimal_by_steps, length-decimal-le}
use Rattle.std.proofs.lemmas.Bool.{ltb-true, ltb-false}
use Rattle.std.proofs.Math.Facts.{to_z_pos, to_z-neg}
use Rattle.std.specs.Fmt.{signed_decimal}
use Rattle.ldb_words.specs.Word.{signed}
use Rattle.ps_scan.specs.Escaping.{escaped, escaped_byte}
use Rattle.ps_text.specs.Code.{Code, Stop, Num, Word, Lit, Text, Proc, render}
use Rattle.ps_emit.specs.Terms.{◌⋯◌}
use Rattle.ps_emit.specs.Lengths.{size, written}
use Rattle.ps_emit.proofs.Followed.{render_followed, escaped_append}

-- ---- numbers

-- bytes that stand for themselves
pub record Plain (bytes : List ℕ) : Type 0 where
  pub same : escaped bytes ≡ bytes

plain_append : (xs ys : List ℕ) → Plain xs → Plain ys → Plain (xs ++ ys)
plain_append xs ys h k = record { same = escaped_append xs ys ∙ (ap (λ (zs : List ℕ). zs ++ escaped ys) h.same ∙ ap (λ (zs : List ℕ). xs ++ zs) k.same) }

plain_digit : (d : ℕ) → d < 10 → Plain ((48 + d) ∷ [])
plain_digit d h =
    let a : ((48 + d) == 40) ≡ false = ne_eqb _ _ (omega arith) in
    let b : ((48 + d) == 41) ≡ false = ne_eqb _ _ (omega arith) in
    let e : ((48 + d) == 92) ≡ false = ne_eqb _ _ (omega arith) in
    let f : ((48 + d) == 13) ≡ false = ne_eqb _ _ (omega arith) in
    record { same = rw (a, b, e, f) refl }

pub plain_decimal : (n : ℕ) → n < 2 ^ 64 → Plain (decimal n)
plain_decimal = decimal_by_steps (λ n ds. Plain ds) (λ n h. plain_digit n h) (λ n ds h k. plain_append ds ((48 + n % 10) ∷ []) k (plain_digit (n % 10) (omega arith)))

-- an integer of at most 11 bytes, in which nothing is escaped
pub record IsShort (z : ℤ) : Type 0 where
  pub plain : escaped (signed_decimal z) ≡ signed_decimal z
  pub short : length (signed_decimal z) ≤ 11

pub short_pos : (n : ℕ) → n < 2 ^ 32 → IsShort (pos n)
short_pos n h = record { plain = (plain_decimal n (omega arith)).same; short = let l : length (decimal n) ≤ 10 = length-decimal-le 10 n (omega arith) (omega arith) (omega arith) in omega arith }

short_neg : (n : ℕ) → n < 2 ^ 31 → IsShort (negsuc n)
short_neg n h = record {
  plain = ap (λ (ds : List ℕ). 45 ∷ ds) (plain_decimal (suc n) (omega arith)).same;
  short = let l : length (decimal (suc n)) ≤ 10 = length-decimal-le 10 (suc n) (omega arith) (omega arith) (omega arith) in omega arith;
}

pub short_word : (n : ℕ) → n < 2 ^ 32 → IsShort (signed n)
short_word n h = by (nat_lt n (2 ^ 31)) refl
  where
    by : (b : Bool) → nat_lt n (2 ^ 31) ≡ b → IsShort (signed n)
    by true e = let l : n < 2 ^ 31 = ltb-true n (2 ^ 31) e in subst IsShort (sym (to_z_pos w32 {n = n} l)) (short_pos n h)
    by false e =
        let l : 2 ^ 31 ≤ n = ltb-false n (2 ^ 31) e in
        let k : ℕ = 2 ^ 32 - 1 - n in
        let below : k < 2 ^ 31 = omega arith in
        let is : 2 ^ 32 - suc k ≡ n = omega arith in
        subst IsShort (sym (ap signed (sym is) ∙ to_z-neg w32 k below)) (short_neg k below)

pub short_integer : (z : ℤ) → (n : ℕ) → n < 2 ^ 32 → z ≡ signed n → IsShort z
short_integer z n h e = subst IsShort (sym e) (short_word n h)

-- ---- terms

-- at most so many bytes
abbrev pub weight : Code → ℕ
weight Stop = 0
weight (Num n rest) = 12 + weight rest
weight (Word name rest) = length name + (1 + weight rest)
weight (Lit name rest) = length name + (2 + weight rest)
weight (Text bytes rest) = length bytes + (5 + weight rest)
weight (Proc body rest) = weight body + (4 + weight rest)

abbrev pub Neat : Code → Type 0
Neat Stop = Unit {0}
Neat (Num n rest) = IsShort n × Neat rest
Neat (Word name rest) = Plain name × Neat rest
Neat (Lit name rest) = Plain name × Neat rest
Neat (Text bytes rest) = Plain bytes × Neat rest
Neat (Proc body rest) = Neat body × Neat rest

pub weight_followed : (a b : Code) → weight (a ⋯ b) ≡ weight a + weight b
weight_followed Stop b = omega arith
weight_followed (Num n rest) b = let e = weight_followed rest b in omega arith
weight_followed (Word name rest) b = let e = weight_followed rest b in omega arith
weight_followed (Lit name rest) b = let e = weight_followed rest b in omega arith
weight_followed (Text bytes rest) b = let e = weight_followed rest b in omega arith
weight_followed (Proc body rest) b = let e = weight_followed rest b in omega arith

pub neat_followed : (a b : Code) → Neat a → Neat b → Neat (a ⋯ b)
neat_followed Stop b h k = k
neat_followed (Num n rest) b h k = (h.0, neat_followed rest b h.1 k)
neat_followed (Word name rest) b h k = (h.0, neat_followed rest b h.1 k)
neat_followed (Lit name rest) b h k = (h.0, neat_followed rest b h.1 k)
neat_followed (Text bytes rest) b h k = (h.0, neat_followed rest b h.1 k)
neat_followed (Proc body rest) b h k = (h.0, neat_followed rest b h.1 k)

-- the bytes of a part that stands for itself, and of what is behind it
behind_plain : (xs ys : List ℕ) (n : ℕ) → escaped xs ≡ xs → length (escaped ys) ≤ n → length (escaped (xs ++ ys)) ≤ length xs + n
behind_plain xs ys n e l =
    let whole : length (escaped (xs ++ ys)) ≡ length xs + length (escaped ys) = ap length (escaped_append xs ys) ∙ (length-append (escaped xs) (escaped ys) ∙ ap (λ (zs : List ℕ). length zs + length (escaped ys)) e) in
    omega arith

pub neat_written : (k : Code) → Neat k → written k ≤ weight k
neat_written Stop h = omega arith
neat_written (Num n rest) h =
    let l : written rest ≤ weight rest = neat_written rest h.1 in
    let s = h.0.short in
    let b : length (escaped (signed_decimal n ++ 32 ∷ render rest)) ≤ length (signed_decimal n) + suc (weight rest) = behind_plain (signed_decimal n) (32 ∷ render rest) (suc (weight rest)) h.0.plain (omega arith) in
    omega arith
neat_written (Word name rest) h =
    let l : written rest ≤ weight rest = neat_written rest h.1 in
    let b : length (escaped (name ++ 32 ∷ render rest)) ≤ length name + suc (weight rest) = behind_plain name (32 ∷ render rest) (suc (weight rest)) h.0.same (omega arith) in
    omega arith
neat_written (Lit name rest) h =
    let l : written rest ≤ weight rest = neat_written rest h.1 in
    let b : length (escaped (name ++ 32 ∷ render rest)) ≤ length name + suc (weight rest) = behind_plain name (32 ∷ render rest) (suc (weight rest)) h.0.same (omega arith) in
    omega arith
neat_written (Text bytes rest) h =
    let l : written rest ≤ weight rest = neat_written rest h.1 in
    let b : length (escaped (bytes ++ 41 ∷ 32 ∷ render rest)) ≤ length bytes + suc (suc (suc (weight rest))) =
    behind_plain bytes (41 ∷ 32 ∷ render rest) (suc (suc (suc (weight rest)))) h.0.same (omega arith) in
    let c : length (escaped (escaped bytes ++ 41 ∷ 32 ∷ render rest)) ≤ length bytes + suc (suc (suc (weight rest))) = rw h.0.same b in
    omega arith
neat_written (Proc body rest) h =
    let l : written rest ≤ weight rest = neat_written rest h.1 in
    let m : written body ≤ weight body = neat_written body h.0 in
    let e : length (escaped (render body ++ 125 ∷ 32 ∷ render rest)) ≡ written body + suc (suc (written rest)) =
    ap length (escaped_append (render body) (125 ∷ 32 ∷ render rest)) ∙ length-append (escaped (render body)) (125 ∷ 32 ∷ escaped (render rest)) in
    omega arith

-- what is escaped is no shorter than it was
pub escaped_longer : (xs : List ℕ) → length xs ≤ length (escaped xs)
escaped_longer [] = omega arith
escaped_longer (x ∷ xs) =
    let l : length xs ≤ length (escaped xs) = escaped_longer xs in
    let one : 1 ≤ length (escaped_byte x) = byte_long (x == 40 || x == 41 || x == 92) (x == 13) in
    let e : length (escaped (x ∷ xs)) ≡ length (escaped_byte x) + length (escaped xs) = length-append (escaped_byte x) (escaped xs) in
    omega arith
  where
    byte_long : (a b : Bool) → 1 ≤ length (if a then 92 ∷ x ∷ [] else if b then 92 ∷ 114 ∷ [] else x ∷ [])
    byte_long true b = omega arith
    byte_long false true = omega arith
    byte_long false false = omega arith

-- and at most twice as long
pub escaped_twice : (xs : List ℕ) → length (escaped xs) ≤ 2 * length xs
escaped_twice [] = omega arith
escaped_twice (x ∷ xs) =
    let l : length (escaped xs) ≤ 2 * length xs = escaped_twice xs in
    let two : length (escaped_byte x) ≤ 2 = byte_short (x == 40 || x == 41 || x == 92) (x == 13) in
    let e : length (escaped (x ∷ xs)) ≡ length (escaped_byte x) + length (escaped xs) = length-append (escaped_byte x) (escaped xs) in
    omega arith
  where
    byte_short : (a b : Bool) → length (if a then 92 ∷ x ∷ [] else if b then 92 ∷ 114 ∷ [] else x ∷ []) ≤ 2
    byte_short true b = omega arith
    byte_short false true = omega arith
    byte_short false false = omega arith

pub size_written : (k : Code) → size k ≤ written k
size_written k = escaped_longer (render k)

-- two terms, one behind the other
pub written_followed : (a b : Code) → written (a ⋯ b) ≡ written a + written b
written_followed a b =
    ap (λ (ts : List ℕ). length (escaped ts)) (render_followed a b) ∙ (ap length (escaped_append (render a) (render b)) ∙ length-append (escaped (render a)) (escaped (render b)))
