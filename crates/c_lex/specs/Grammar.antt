-- Tokens, and the tokens of a text (C90 6.1).
use Rattle.std.specs.Prelude.{◌≡◌, ℕ, ◌+◌, ◌≤◌, ◌<◌, Bool, true, false, ◌&&◌, ◌||◌, nat_le, ◌==◌, if◌then◌else◌, List, [], ◌∷◌, ◌++◌, length, take, drop, Option, Some, None}
use Rattle.c_lex.specs.declared.token.TokenKind.{TokenKind}
use Rattle.c_lex.specs.declared.token.TokenKind.TheVariants.{Identifier, Keyword, Integer, Character, Str, Punctuator}
use Rattle.c_lex.specs.declared.token.Token.{Token}
use Rattle.c_lex.specs.declared.token.Place.{Place}
use Rattle.c_lex.specs.declared.token.LexFault.{LexFault}
use Rattle.c_lex.specs.declared.token.LexFault.TheVariants.{Bad, TooMany, NoMemory}
use Rattle.c_lex.specs.Bytes.{is_letter, is_part, is_blank, starts_with}
use Rattle.c_lex.specs.Keywords as keywords
use Rattle.c_lex.specs.Punctuators as punctuators
use Rattle.c_lex.specs.Numbers.{AllAre, IsInteger, value_of}
use Rattle.c_lex.specs.Literals.{Literal, is_trigraph, starts}

abbrev pub is_some : {V : Type 0} → Option V → Bool
is_some None = false
is_some (Some v) = true

-- a letter or _, and letters, digits and _
abbrev pub IsWord : List ℕ → Type 0
IsWord t = (starts is_letter t ≡ true) × AllAre is_part t

-- where no token begins: /* and //, and a trigraph
abbrev pub is_barred : List ℕ → Bool
is_barred [] = false
is_barred (b ∷ bs) = (b == 47 && starts_with 42 bs) || (b == 47 && starts_with 47 bs) || is_trigraph (b ∷ bs)

-- IsToken kind t rest: the bytes t are such a token where the rest follows
abbrev pub IsToken : TokenKind → List ℕ → List ℕ → Type 0
IsToken Identifier t rest = IsWord t × (is_some (keywords.keyword_of t) ≡ false)
IsToken Keyword t rest = IsWord t × (is_some (keywords.keyword_of t) ≡ true)
IsToken Integer t rest = IsInteger t
IsToken Character t rest = (body : List ℕ) × (v : ℕ) × (t ≡ 39 ∷ body) × Literal 39 (body ++ rest) (v ∷ []) rest
IsToken Str t rest = (body : List ℕ) × (values : List ℕ) × (t ≡ 34 ∷ body) × Literal 34 (body ++ rest) values rest
IsToken Punctuator t rest = (is_some (punctuators.punctuator_of t) ≡ true) × (is_barred (t ++ rest) ≡ false)

-- the longest token at the front of a text is of this kind and has n bytes
pub record Longest (kind : TokenKind) (text : List ℕ) (n : ℕ) : Type 0 where
  pub within : n ≤ length text
  pub is : IsToken kind (take n text) (drop n text)
  pub most : (k : TokenKind) (m : ℕ) → m ≤ length text → IsToken k (take m text) (drop m text) → m ≤ n

-- no token stands at the front
abbrev pub NoToken : List ℕ → Type 0
NoToken text = (k : TokenKind) (m : ℕ) → m ≤ length text → IsToken k (take m text) (drop m text) → ⊥

-- what is in range: 63 bytes of a word, 32 bits of an integer constant
abbrev pub fits : TokenKind → List ℕ → Bool
fits Identifier t = nat_le (length t) 63
fits Keyword t = nat_le (length t) 63
fits Integer t = nat_le (value_of t) 4294967295
fits _ t = true

-- where the next */ ends
abbrev pub comment_end : ℕ → List ℕ → Option ℕ
comment_end at [] = None
comment_end at (b ∷ bs) = if b == 42 && starts_with 47 bs then Some (at + 2) else comment_end (at + 1) bs

-- how long the white space or the comment at the front is: one byte, or /* to the next */
abbrev pub gap_of : List ℕ → Option ℕ
gap_of [] = None
gap_of (b ∷ bs) =
    if is_blank b then Some 1
    else if b == 47 && starts_with 42 bs then comment_end 2 (drop 1 bs)
    else None

-- the place behind some bytes
abbrev pub past : Place → ℕ → Place
past p b =
    if b == 10 then record { at = p.at + 1; line = p.line + 1; column = 1 }
    else record { at = p.at + 1; line = p.line; column = p.column + 1 }

abbrev pub after : Place → List ℕ → Place
after p [] = p
after p (b ∷ bs) = after (past p b) bs

-- a token of n bytes that begins at a place
abbrev pub token_at : TokenKind → Place → ℕ → Token
token_at kind p n = record { kind = kind; at = p.at; len = n; line = p.line; column = p.column }

-- Lexes p text ts: from the place p on, the text has the tokens ts
pub data Lexes : Place → List ℕ → List Token → Type 0 where
  ended : (p : Place) → Lexes p [] []
  gap : (p : Place) (text : List ℕ) (n : ℕ) {ts : List Token} → gap_of text ≡ Some n → Lexes (after p (take n text)) (drop n text) ts → Lexes p text ts
  token : (p : Place) (text : List ℕ) (kind : TokenKind) (n : ℕ) {ts : List Token} → gap_of text ≡ None → Longest kind text n → fits kind (take n text) ≡ true
      → Lexes (after p (take n text)) (drop n text) ts → Lexes p text (token_at kind p n ∷ ts)

-- Faults p text at: from the place p on, the text has tokens up to `at`, and there none begins, or one that is out of range
pub data Faults : Place → List ℕ → ℕ → Type 0 where
  none_begins : (p : Place) (b : ℕ) (bs : List ℕ) → gap_of (b ∷ bs) ≡ None → NoToken (b ∷ bs) → Faults p (b ∷ bs) p.at
  out_of_range : (p : Place) (text : List ℕ) (kind : TokenKind) (n : ℕ) → gap_of text ≡ None → Longest kind text n → fits kind (take n text) ≡ false → Faults p text p.at
  behind_gap : (p : Place) (text : List ℕ) (n : ℕ) {at : ℕ} → gap_of text ≡ Some n → Faults (after p (take n text)) (drop n text) at → Faults p text at
  behind_token : (p : Place) (text : List ℕ) (kind : TokenKind) (n : ℕ) {at : ℕ} → gap_of text ≡ None → Longest kind text n → fits kind (take n text) ≡ true
      → Faults (after p (take n text)) (drop n text) at → Faults p text at

abbrev pub start : Place
start = record { at = 0; line = 1; column = 1 }

-- the tokens of a text, if they are at most 40,000
abbrev pub HasTokens : List ℕ → List Token → Type 0
HasTokens text ts = Lexes start text ts × (length ts ≤ 40000)

-- the first fault of a text, or more than 40,000 tokens
abbrev pub HasFault : List ℕ → LexFault → Type 0
HasFault text (Bad at) = Faults start text at
HasFault text TooMany = (ts : List Token) × Lexes start text ts × (40000 < length ts)
HasFault text NoMemory = Unit {0}
