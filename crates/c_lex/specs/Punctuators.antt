-- Operators and punctuators (C90 6.1.5, 6.1.6), without `...` and `#`.
use Rattle.std.specs.Prelude.{ℕ, ◌==◌, ◌&&◌, if◌then◌else◌, List, [], ◌∷◌, Option, None}
use Rattle.c_lex.specs.Bytes.{lookup}
use Rattle.c_lex.specs.declared.punctuator.Punctuator.{Punctuator}
use Rattle.c_lex.specs.declared.punctuator.Punctuator.TheVariants.{OpenBracket, CloseBracket, OpenParen, CloseParen, OpenBrace, CloseBrace, Dot, Comma, Semicolon, Colon, Question, Tilde, Exclamation, Ampersand, Star, Plus, Minus, Slash, Percent, Less, Greater, Caret, Bar, Equal, LessEqual, GreaterEqual, EqualEqual, ExclamationEqual, StarEqual, SlashEqual, PercentEqual, PlusEqual, MinusEqual, AmpersandEqual, CaretEqual, BarEqual, Arrow, GreaterGreater, PlusPlus, MinusMinus, LessLess, AmpersandAmpersand, BarBar, LessLessEqual, GreaterGreaterEqual}

abbrev pub Row : Type 0
Row = ℕ × Punctuator

-- [ ] ( ) { } . , ; : ? ~ ! & * + - / % < > ^ | =
abbrev pub ones : List Row
ones = (91, OpenBracket) ∷ (93, CloseBracket) ∷ (40, OpenParen) ∷ (41, CloseParen) ∷ (123, OpenBrace) ∷ (125, CloseBrace) ∷ (46, Dot) ∷ (44, Comma) ∷ (59, Semicolon) ∷ (58, Colon) ∷ (63, Question) ∷ (126, Tilde) ∷ (33, Exclamation) ∷ (38, Ampersand) ∷ (42, Star) ∷ (43, Plus) ∷ (45, Minus) ∷ (47, Slash) ∷ (37, Percent) ∷ (60, Less) ∷ (62, Greater) ∷ (94, Caret) ∷ (124, Bar) ∷ (61, Equal) ∷ []

-- <= >= == != *= /= %= += -= &= ^= |=
abbrev pub before_equal : List Row
before_equal = (60, LessEqual) ∷ (62, GreaterEqual) ∷ (61, EqualEqual) ∷ (33, ExclamationEqual) ∷ (42, StarEqual) ∷ (47, SlashEqual) ∷ (37, PercentEqual) ∷ (43, PlusEqual) ∷ (45, MinusEqual) ∷ (38, AmpersandEqual) ∷ (94, CaretEqual) ∷ (124, BarEqual) ∷ []

-- -> >>
abbrev pub before_greater : List Row
before_greater = (45, Arrow) ∷ (62, GreaterGreater) ∷ []

-- ++ -- << && ||
abbrev pub twins : List Row
twins = (43, PlusPlus) ∷ (45, MinusMinus) ∷ (60, LessLess) ∷ (38, AmpersandAmpersand) ∷ (124, BarBar) ∷ []

-- <<= >>=
abbrev pub shifts : List Row
shifts = (60, LessLessEqual) ∷ (62, GreaterGreaterEqual) ∷ []

abbrev pub two_bytes : ℕ → ℕ → Option Punctuator
two_bytes a b = if b == 61 then lookup before_equal a else if b == 62 then lookup before_greater a else if a == b then lookup twins a else None

abbrev pub three_bytes : ℕ → ℕ → ℕ → Option Punctuator
three_bytes a b c = if a == b && c == 61 then lookup shifts a else None

abbrev pub punctuator_of : List ℕ → Option Punctuator
punctuator_of [] = None
punctuator_of (a ∷ []) = lookup ones a
punctuator_of (a ∷ b ∷ []) = two_bytes a b
punctuator_of (a ∷ b ∷ c ∷ []) = three_bytes a b c
punctuator_of (a ∷ b ∷ c ∷ d ∷ more) = None
