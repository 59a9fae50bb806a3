-- Numbers in a command: decimal digits without a sign and without a needless zero in front, of at most 32 bits.
use Rattle.std.specs.Prelude.{ℕ, ◌+◌, ◌-◌, ◌*◌, Bool, false, ◌||◌, ◌&&◌, not, List, [], ◌∷◌, length, if◌then◌else◌, ◌==◌, nat_le, fold, Option, None, Some}
use Rattle.std.specs.List.{list_all}

abbrev pub is_digit : ℕ → Bool
is_digit b = nat_le 48 b && nat_le b 57

-- the number that decimal digits stand for
abbrev pub value_of : List ℕ → ℕ
value_of digits = fold (λ n b. n * 10 + (b - 48)) 0 digits

-- `0` alone, or some bytes that don't begin with `0`
abbrev pub is_plain : List ℕ → Bool
is_plain [] = false
is_plain (b ∷ rest) = not (b == 48) || length rest == 0

-- up to ten digits without a needless zero in front
abbrev pub is_numeral : List ℕ → Bool
is_numeral w = is_plain w && (nat_le (length w) 10 && list_all is_digit w)

abbrev pub number_of : List ℕ → Option ℕ
number_of w = if is_numeral w && nat_le (value_of w) 4294967295 then Some (value_of w) else None

abbrev pub among : ℕ → ℕ → Option ℕ → Option ℕ
among least most None = None
among least most (Some n) = if nat_le least n && nat_le n most then Some n else None

-- a line or a column, which begin with 1
abbrev pub position_of : List ℕ → Option ℕ
position_of w = among 1 4294967295 (number_of w)

-- the most instructions of a resume: from 1 to 1,000,000,000
abbrev pub limit_of : List ℕ → Option ℕ
limit_of w = among 1 1000000000 (number_of w)
