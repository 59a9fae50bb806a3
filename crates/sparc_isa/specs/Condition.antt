-- Conditions of branches and traps: the SPARC V8 manual, sections B.21 and B.27.
use Rattle.std.specs.Prelude.{ℕ, Bool, true, false, not, ◌||◌, ◌/◌, ◌%◌, nat_eq, if◌then◌else◌}
use Rattle.sparc_isa.specs.declared.condition.Condition.{Condition}
use Rattle.sparc_isa.specs.declared.condition.Condition.TheVariants.{Never, Equal, LessOrEqual, Less, LessOrEqualUnsigned, CarrySet, Negative, OverflowSet, Always, NotEqual, Greater, GreaterOrEqual, GreaterUnsigned, CarryClear, Positive, OverflowClear}

-- the code of a condition
unfoldable pub condition_code : Condition → ℕ
condition_code Never = 0
condition_code Equal = 1
condition_code LessOrEqual = 2
condition_code Less = 3
condition_code LessOrEqualUnsigned = 4
condition_code CarrySet = 5
condition_code Negative = 6
condition_code OverflowSet = 7
condition_code Always = 8
condition_code NotEqual = 9
condition_code Greater = 10
condition_code GreaterOrEqual = 11
condition_code GreaterUnsigned = 12
condition_code CarryClear = 13
condition_code Positive = 14
condition_code OverflowClear = 15

-- the condition of a code below 16
unfoldable pub condition_of : ℕ → Condition
condition_of n =
    if nat_eq n 0 then Never else
    if nat_eq n 1 then Equal else
    if nat_eq n 2 then LessOrEqual else
    if nat_eq n 3 then Less else
    if nat_eq n 4 then LessOrEqualUnsigned else
    if nat_eq n 5 then CarrySet else
    if nat_eq n 6 then Negative else
    if nat_eq n 7 then OverflowSet else
    if nat_eq n 8 then Always else
    if nat_eq n 9 then NotEqual else
    if nat_eq n 10 then Greater else
    if nat_eq n 11 then GreaterOrEqual else
    if nat_eq n 12 then GreaterUnsigned else
    if nat_eq n 13 then CarryClear else
    if nat_eq n 14 then Positive else
    OverflowClear

-- ---- the codes N, Z, V and C, which are a number's bits from bit 3 down

abbrev pub is_negative : ℕ → Bool
is_negative codes = nat_eq (codes / 8 % 2) 1

abbrev pub is_zero : ℕ → Bool
is_zero codes = nat_eq (codes / 4 % 2) 1

abbrev pub is_overflow : ℕ → Bool
is_overflow codes = nat_eq (codes / 2 % 2) 1

abbrev pub is_carry : ℕ → Bool
is_carry codes = nat_eq (codes % 2) 1

-- N xor V: the first operand is less, as numbers with a sign
abbrev pub is_less : ℕ → Bool
is_less codes = if is_negative codes then not (is_overflow codes) else is_overflow codes

-- whether a condition holds
unfoldable pub holds : Condition → ℕ → Bool
holds Never codes = false
holds Equal codes = is_zero codes
holds LessOrEqual codes = is_zero codes || is_less codes
holds Less codes = is_less codes
holds LessOrEqualUnsigned codes = is_carry codes || is_zero codes
holds CarrySet codes = is_carry codes
holds Negative codes = is_negative codes
holds OverflowSet codes = is_overflow codes
holds Always codes = true
holds NotEqual codes = not (is_zero codes)
holds Greater codes = not (is_zero codes || is_less codes)
holds GreaterOrEqual codes = not (is_less codes)
holds GreaterUnsigned codes = not (is_carry codes || is_zero codes)
holds CarryClear codes = not (is_carry codes)
holds Positive codes = not (is_negative codes)
holds OverflowClear codes = not (is_overflow codes)

-- whether it asks for any of the codes
unfoldable pub is_conditional : Condition → Bool
is_conditional Never = false
is_conditional Always = false
is_conditional _ = true
