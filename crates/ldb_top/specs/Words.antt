-- The words that have a form, beside those that ask to compile.
use Rattle.std.specs.Prelude.{ℕ, ◌+◌, ◌-◌, ◌*◌, ◌^◌, Bool, true, false, ◌||◌, ◌&&◌, not, List, [], ◌∷◌, length, take, drop, if◌then◌else◌, ◌==◌, nat_le, nat_lt, fold, codes, Option, Some, None}
use Rattle.std.specs.List.{list_all}
use Rattle.std.specs.Str.{bytes_eq}
use Rattle.cc_call.specs.Words.{is_count, are_sources, all_differ}
use Rattle.ldb_top.specs.declared.words.Request.{Request}
use Rattle.ldb_top.specs.declared.words.Request.TheVariants as request

-- ---- numbers: decimal digits without a sign and without a needless zero in front

abbrev pub is_digit : ℕ → Bool
is_digit b = nat_le 48 b && nat_le b 57

-- the number that decimal digits stand for
abbrev pub value_of : List ℕ → ℕ
value_of digits = fold (λ n b. n * 10 + (b - 48)) 0 digits

-- `0` alone, or some bytes that don't begin with `0`
abbrev pub is_plain : List ℕ → Bool
is_plain [] = false
is_plain (b ∷ rest) = not (b == 48) || length rest == 0

abbrev pub is_numeral : List ℕ → Bool
is_numeral w = is_plain w && (nat_le (length w) 20 && list_all is_digit w)

-- a number of at most 64 bits
abbrev pub number_of : List ℕ → Option ℕ
number_of w = if is_numeral w && nat_lt (value_of w) (2 ^ 64) then Some (value_of w) else None

abbrev pub is_some : Option ℕ → Bool
is_some None = false
is_some (Some n) = true

abbrev pub is_within : ℕ → Option ℕ → Bool
is_within most None = false
is_within most (Some n) = nat_le n most

-- the number of a generated program: at most 999,999
abbrev pub is_program : List ℕ → Bool
is_program w = is_within 999999 (number_of w)

-- `schedule=N`
abbrev pub schedule_in : List ℕ → Option ℕ
schedule_in w = if bytes_eq (take 9 w) (codes "schedule=") then number_of (drop 9 w) else None

-- ---- the forms

abbrev pub is_schedule : List (List ℕ) → Bool
is_schedule (w ∷ []) = is_some (schedule_in w)
is_schedule _ = false

-- without a last word that names a schedule
abbrev pub unscheduled : List (List ℕ) → List (List ℕ)
unscheduled words = if is_schedule (drop (length words - 1) words) then take (length words - 1) words else words

abbrev pub is_target : List ℕ → Bool
is_target w = bytes_eq w (codes "both") || (bytes_eq w (codes "mips") || bytes_eq w (codes "sparc"))

-- IMAGE TABLE INPUT OUTPUT
abbrev pub is_debug : List (List ℕ) → Bool
is_debug words = length words == 4 && all_differ words

-- TARGET INPUT OUTPUT SRC..
abbrev pub is_plain_go : List (List ℕ) → Bool
is_plain_go (target ∷ input ∷ output ∷ sources) =
    is_count (length sources) && (are_sources sources && (all_differ (input ∷ output ∷ sources) && is_target target))
is_plain_go _ = false

-- the same, and perhaps a schedule
abbrev pub is_go : List (List ℕ) → Bool
is_go words = is_plain_go (unscheduled words)

-- N
abbrev pub is_lone_number : List (List ℕ) → Bool
is_lone_number (w ∷ []) = is_program w
is_lone_number _ = false

-- what the words begin with
pub data Form : Type 0 where
  Debug : Form
  Go : Form
  Make : Form
  Own : Form

abbrev pub form_if : Bool → Form → Option Form
form_if true form = Some form
form_if false form = None

-- the form of the words, if they have one of these
abbrev pub form_of : List (List ℕ) → Option Form
form_of [] = None
form_of (first ∷ rest) =
    if bytes_eq first (codes "debug") then form_if (is_debug rest) Debug
    else if bytes_eq first (codes "go") then form_if (is_go rest) Go
    else if bytes_eq first (codes "make") then form_if (is_lone_number rest) Make
    else if bytes_eq first (codes "self") then form_if (is_lone_number rest) Own
    else None

-- the form of a request
abbrev pub form_in : Request → Form
form_in (request.Debug r) = Debug
form_in (request.Go r) = Go
form_in (request.Make n) = Make
form_in (request.Own n) = Own

-- forms whose work reads no command
abbrev pub IsQuiet : Option Form → Type 0
IsQuiet (Some Debug) = ⊥
IsQuiet (Some Go) = ⊥
IsQuiet _ = Unit {0}
