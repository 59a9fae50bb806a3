-- What the first bytes of a text tell of the token there.
use Rattle.std.specs.Prelude.{◌≡◌, ℕ, ◌≤◌, Bool, true, ◌&&◌, nat_le, ◌==◌, if◌then◌else◌, List, [], ◌∷◌, length, take, Option, Some, None}
use Rattle.c_lex.specs.declared.token.TokenKind.{TokenKind}
use Rattle.c_lex.specs.declared.token.TokenKind.TheVariants.{Identifier, Keyword, Integer, Character, Str, Punctuator}
use Rattle.c_lex.specs.declared.longest.Class.{Class}
use Rattle.c_lex.specs.declared.longest.Class.TheVariants.{Word, Number, Quote, DoubleQuote, Other}
use Rattle.c_lex.specs.Keywords as keywords
use Rattle.c_lex.specs.declared.token.Place.{Place}
use Rattle.c_lex.specs.Bytes.{is_letter, is_digit}
use Rattle.c_lex.specs.Punctuators.{punctuator_of}
use Rattle.c_lex.specs.Grammar.{is_some, is_barred, Longest, NoToken, Faults, fits}

-- what the first byte tells
abbrev pub class_of : List ℕ → Class
class_of [] = Other
class_of (b ∷ bs) =
    if is_letter b then Word
    else if is_digit b then Number
    else if b == 39 then Quote
    else if b == 34 then DoubleQuote
    else Other

-- the class of each kind
abbrev pub base : TokenKind → Class
base Identifier = Word
base Keyword = Word
base Integer = Number
base Character = Quote
base Str = DoubleQuote
base Punctuator = Other

abbrev pub word_kind : List ℕ → TokenKind
word_kind t = if is_some (keywords.keyword_of t) then Keyword else Identifier

-- whether the first n bytes are a punctuator
abbrev pub has_mark : List ℕ → ℕ → Bool
has_mark text n = nat_le n (length text) && is_some (punctuator_of (take n text))

-- how long the punctuator at the front is
abbrev pub mark_len : List ℕ → Option ℕ
mark_len text =
    if is_barred text then None
    else if has_mark text 3 then Some 3
    else if has_mark text 2 then Some 2
    else if has_mark text 1 then Some 1
    else None

-- the longest token at the front, if there is one
abbrev pub Front : List ℕ → Option (TokenKind × ℕ) → Type 0
Front text None = NoToken text
Front text (Some p) = Longest p.0 text p.1

-- the token at the front, unless none begins there or it is out of range
abbrev pub Begins : List ℕ → Option (TokenKind × ℕ) → Type 0
Begins text None = (p : Place) → Faults p text p.at
Begins text (Some t) = Longest t.0 text t.1 × (fits t.0 (take t.1 text) ≡ true) × (1 ≤ t.1)
