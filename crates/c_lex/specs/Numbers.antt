-- Integer constants and their values (C90 6.1.3.2).
use Rattle.std.specs.Prelude.{◌≡◌, ℕ, ◌+◌, ◌*◌, ◌-◌, Bool, true, false, ◌&&◌, ◌||◌, nat_lt, nat_le, ◌==◌, if◌then◌else◌, List, [], ◌∷◌, ◌++◌, drop, length, slice_index, Option, Some, None}
use Rattle.std.specs.List.{AllByRecursion, prefix_len}
use Rattle.c_lex.specs.Bytes.{is_digit, is_octal, is_hex, digit_of, starts_with}
use Rattle.c_lex.specs.declared.number.Integer.{Integer}

abbrev pub AllAre : (ℕ → Bool) → List ℕ → Type 0
AllAre p bytes = AllByRecursion (λ b. p b ≡ true) bytes

-- a constant without its suffix
pub data IsNumber : List ℕ → Type 0 where
  decimal : (d : ℕ) (ds : List ℕ) → (d == 48) ≡ false → AllAre is_digit (d ∷ ds) → IsNumber (d ∷ ds)
  octal : (ds : List ℕ) → AllAre is_octal ds → IsNumber (48 ∷ ds)
  hexadecimal : (d : ℕ) (ds : List ℕ) → AllAre is_hex (d ∷ ds) → IsNumber (48 ∷ 120 ∷ d ∷ ds)

-- u or U
abbrev pub is_suffix : ℕ → Bool
is_suffix b = b == 117 || b == 85

pub data IsSuffix : List ℕ → Type 0 where
  no_suffix : IsSuffix []
  a_suffix : (b : ℕ) → is_suffix b ≡ true → IsSuffix (b ∷ [])

-- an integer constant
abbrev pub IsInteger : List ℕ → Type 0
IsInteger t = (ds : List ℕ) × (s : List ℕ) × (t ≡ ds ++ s) × IsNumber ds × IsSuffix s

-- the number that n and then the digits at the front are, to a base
abbrev pub number_from : ℕ → ℕ → List ℕ → ℕ
number_from base n [] = n
number_from base n (b ∷ bs) = if nat_lt (digit_of b) base then number_from base (n * base + digit_of b) bs else n

-- the value of a constant
abbrev pub value_of : List ℕ → ℕ
value_of [] = 0
value_of (b ∷ bs) =
    if b == 48 then (if starts_with 120 bs then number_from 16 0 (drop 1 bs) else number_from 8 0 bs)
    else number_from 10 0 (b ∷ bs)

-- whether there is a suffix behind the digits
abbrev pub has_suffix : List ℕ → Bool
has_suffix t = is_suffix (slice_index t (length t - 1))

-- the value and the type of a constant that is in range: unsigned with a suffix, and where it does not fit into an int
abbrev pub integer_of : List ℕ → Option Integer
integer_of t =
    if nat_le (value_of t) 4294967295
    then Some (record { value = value_of t; is_unsigned = has_suffix t || nat_lt 2147483647 (value_of t) })
    else None

-- how long the constant at the front of a text is that begins with a digit
abbrev pub starts_hex : List ℕ → Bool
starts_hex [] = false
starts_hex (x ∷ []) = false
starts_hex (x ∷ d ∷ bs) = x == 120 && is_hex d

abbrev pub zero_len : List ℕ → ℕ
zero_len bs = if starts_hex bs then prefix_len is_hex (drop 1 bs) + 2 else prefix_len is_octal bs + 1

abbrev pub number_len : List ℕ → ℕ
number_len [] = 0
number_len (b ∷ bs) = if b == 48 then zero_len bs else prefix_len is_digit (b ∷ bs)

abbrev pub suffix_len : List ℕ → ℕ
suffix_len [] = 0
suffix_len (b ∷ bs) = if is_suffix b then 1 else 0

abbrev pub integer_len : List ℕ → ℕ
integer_len text = number_len text + suffix_len (drop (number_len text) text)

-- a value of 32 bits
abbrev pub in_range : ℕ → Option ℕ
in_range n = if nat_le n 4294967295 then Some n else None
