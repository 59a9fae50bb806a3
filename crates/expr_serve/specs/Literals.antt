-- Names as literal names of PostScript.
use Rattle.std.specs.Prelude.{ℕ, ◌/◌, ◌%◌, Bool, false, ◌||◌, ◌==◌, if◌then◌else◌, List, [], ◌∷◌, ◌++◌}
use Rattle.std.specs.List.{list_all}
use Rattle.std.specs.Char.{is_ascii_alphanumeric}
use Rattle.std.specs.Fmt.{digit_glyph}
use Rattle.ps_text.specs.Code.{Code, Stop, Lit, Word}
use Rattle.ps_emit.specs.Terms.{word}

-- a byte of an identifier
abbrev pub is_part : ℕ → Bool
is_part b = is_ascii_alphanumeric b || b == 95

-- bytes, each as two hexadecimal digits
abbrev pub digits_of : ℕ → List ℕ
digits_of b = digit_glyph false (b / 16) ∷ digit_glyph false (b % 16) ∷ []

abbrev pub in_digits : List ℕ → List ℕ
in_digits [] = []
in_digits (b ∷ bs) = digits_of b ++ in_digits bs

-- A literal name. One with other bytes, as only a table that was made by hand has it, is made of a string of hexadecimal digits.
abbrev pub literal : List ℕ → Code
literal name = if list_all is_part name then Lit name Stop else Word (60 ∷ (in_digits name ++ 62 ∷ [])) (word "cvn")
