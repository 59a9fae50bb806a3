-- The terminals of a text begin at different places, and its integer constants are words.
use Rattle.std.proofs.Common.{◌≡◌, ◌≤◌, ◌<◌, refl, sym, arith, ℕ, suc, ◌+◌, ◌-◌, ◌^◌, ℤ, pos, negsuc, Bool, true, false, true≢false, ◌&&◌, ◌==◌, List, [], ◌∷◌, ◌++◌, length, map, take, drop, Option, Some, None}
use Rattle.std.specs.Prelude.{if◌then◌else◌, nat_le, nat_lt, ◌||◌}
use Rattle.std.specs.List.{AllByRecursion}
use Rattle.ldb_words.specs.Word.{word_of_signed}
use Rattle.c_lex.specs.declared.token.Place.{Place}
use Rattle.c_lex.specs.declared.token.Token.{Token}
use Rattle.c_lex.specs.declared.token.TokenKind.{TokenKind}
use Rattle.c_lex.specs.declared.token.TokenKind.TheVariants as kind
use Rattle.c_lex.specs.declared.keyword.Keyword.{Keyword}
use Rattle.c_lex.specs.declared.keyword.Keyword.TheVariants as keyword
use Rattle.c_lex.specs.declared.punctuator.Punctuator.{Punctuator}
use Rattle.c_lex.specs.declared.punctuator.Punctuator.TheVariants as punctuator
use Rattle.c_lex.specs.Keywords.{keyword_of}
use Rattle.c_lex.specs.Punctuators.{punctuator_of}
use Rattle.c_lex.specs.Numbers.{IsNumber, decimal, octal, hexadecimal, value_of, integer_of, has_suffix}
use Rattle.c_lex.specs.Literals.{item_of, signed_char, character_of}
use Rattle.c_lex.specs.Grammar.{IsToken, past, after, Lexes, ended, gap, token}
use Rattle.c_symbol.specs.declared.symbol.LeafKind.TheVariants as leaf
use Rattle.c_symbol.specs.declared.symbol.Symbol.{Symbol}
use Rattle.c_symbol.specs.declared.symbol.Symbol.TheVariants as symbol
use Rattle.c_symbol.specs.declared.terminal.Terminal.{Terminal}
use Rattle.c_symbol.specs.Symbols.{keyword_symbol, punctuator_symbol, keyword_or_other, integer_or_other, punctuator_or_other, symbol_of}
use Rattle.c_symbol.specs.Terminals.{spelling, terminal_of, is_text, merged, join, joined, terminals}
use Rattle.c_mentions.specs.Literals.{Literal}
use Rattle.c_accepted.specs.Sources.{AreApart}
use Rattle.c_accepted.proofs.SpelledLiterals.{literal_by, literals_of}
use Rattle.c_accepted.proofs.SpelledWords.{IsWordSymbol, HaveWords}

-- ---- tokens

-- a token has a byte
integer_some : (ds s : List ℕ) → [] ≡ ds ++ s → IsNumber ds → ⊥
integer_some ds s e (decimal d ds' n a) = absurd cc
integer_some ds s e (octal ds' a) = absurd cc
integer_some ds s e (hexadecimal d ds' a) = absurd cc

token_some : (k : TokenKind) (rest : List ℕ) → IsToken k [] rest → ⊥
token_some kind.Identifier rest h = true≢false (sym h.0.0)
token_some kind.Keyword rest h = true≢false (sym h.0.0)
token_some kind.Integer rest (ds, s, e, n, x) = integer_some ds s e n
token_some kind.Character rest (body, v, e, l) = absurd cc
token_some kind.Str rest (body, values, e, l) = absurd cc
token_some kind.Punctuator rest h = true≢false (sym h.0)

-- how far a text is behind some bytes
past_one : (p : Place) (b : ℕ) → (past p b).at ≡ p.at + 1
past_one p b = by (b == 10)
  where
    by : (c : Bool) → (if◌then◌else◌ {A = Place} c (record { at = p.at + 1; line = p.line + 1; column = 1 }) (record { at = p.at + 1; line = p.line; column = p.column + 1 })).at ≡ p.at + 1
    by true = refl
    by false = refl

behind_bytes : (p : Place) (bs : List ℕ) → (after p bs).at ≡ p.at + length bs
behind_bytes p [] = omega arith
behind_bytes p (b ∷ bs) = omega (arith, behind_bytes (past p b) bs, past_one p b)

token_moves : (p : Place) (k : TokenKind) (bs rest : List ℕ) → IsToken k bs rest → p.at < (after p bs).at
token_moves p k [] rest h = absurd (token_some k rest h)
token_moves p k (b ∷ bs) rest h = omega (arith, behind_bytes p (b ∷ bs))

-- tokens that begin one behind the other, from a place on
abbrev pub FromTokens : ℕ → List Token → Type 0
FromTokens n [] = Unit {0}
FromTokens n (t ∷ ts) = (n ≤ t.at) × FromTokens (suc t.at) ts

tokens_before : (m n : ℕ) (ts : List Token) → m ≤ n → FromTokens n ts → FromTokens m ts
tokens_before m n [] l h = tt
tokens_before m n (t ∷ ts) l h = (let k = h.0 in omega (arith, k, l), h.1)

tokens_from : {p : Place} {text : List ℕ} {ts : List Token} → Lexes p text ts → FromTokens p.at ts
tokens_from (ended p) = tt
tokens_from (gap p text n {ts} e d) = tokens_before p.at (after p (take n text)).at ts (omega (arith, behind_bytes p (take n text))) (tokens_from d)
tokens_from (token p text kind n {ts} e l f d) = (omega arith, tokens_before (suc p.at) (after p (take n text)).at ts (token_moves p kind (take n text) (drop n text) l.is) (tokens_from d))

-- ---- terminals

abbrev pub From : ℕ → List Terminal → Type 0
From n [] = Unit {0}
From n (t ∷ ts) = (n ≤ t.place.at) × From (suc t.place.at) ts

from_before : (m n : ℕ) (ts : List Terminal) → m ≤ n → From n ts → From m ts
from_before m n [] l h = tt
from_before m n (t ∷ ts) l h = (let k = h.0 in omega (arith, k, l), h.1)

terminals_from : (text : List ℕ) (n : ℕ) (ts : List Token) → FromTokens n ts → From n (map (terminal_of text) ts)
terminals_from text n [] h = tt
terminals_from text n (t ∷ ts) h = (h.0, terminals_from text (suc t.at) ts h.1)

join_from : (n : ℕ) (t : Terminal) (us : List Terminal) → From n (t ∷ us) → From n (join t us)
join_from n t [] h = h
join_from n t (u ∷ us) h = by (is_text t.symbol && is_text u.symbol)
  where
    by : (b : Bool) → From n (if b then merged t u ∷ us else t ∷ u ∷ us)
    by true = (h.0, from_before (suc t.place.at) (suc u.place.at) us (let k = h.1.0 in omega (arith, k)) h.1.1)
    by false = h

joined_from : (n : ℕ) (ts : List Terminal) → From n ts → From n (joined ts)
joined_from n [] h = tt
joined_from n (t ∷ ts) h = join_from n t (joined ts) (h.0, joined_from (suc t.place.at) ts h.1)

-- ---- literals

-- all begin behind a place
abbrev AreBehind : ℕ → List Literal → Type 0
AreBehind n ls = AllByRecursion (λ (m : Literal). (n == m.at) ≡ false) ls

not_same : (m n : ℕ) → m < n → (m == n) ≡ false
not_same m n l = grind arith

far : (n : ℕ) (ts : List Terminal) → From (suc n) ts → AreBehind n (literals_of ts)
far n [] h = tt
far n (t ∷ ts) h = by t.symbol (far n ts (from_before (suc n) (suc t.place.at) ts (let k = h.0 in omega (arith, k)) h.1))
  where
    by : (y : Symbol) → AreBehind n (literals_of ts) → AreBehind n (literal_by t y ++ literals_of ts)
    by (symbol.Leaf leaf.Text) r = (not_same n t.place.at h.0, r)
    by _ r = r

pub apart : (n : ℕ) (ts : List Terminal) → From n ts → AreApart (literals_of ts)
apart n [] h = tt
apart n (t ∷ ts) h = by t.symbol (far t.place.at ts h.1) (apart (suc t.place.at) ts h.1)
  where
    by : (y : Symbol) → AreBehind t.place.at (literals_of ts) → AreApart (literals_of ts) → AreApart (literal_by t y ++ literals_of ts)
    by (symbol.Leaf leaf.Text) f r = (f, r)
    by _ f r = r

pub terminals_apart : (p : Place) (text : List ℕ) (ts : List Token) → Lexes p text ts → AreApart (literals_of (terminals text ts))
terminals_apart p text ts d = apart p.at (terminals text ts) (joined_from p.at (map (terminal_of text) ts) (terminals_from text p.at ts (tokens_from d)))

-- ---- words

keyword_word : (k : Keyword) → IsWordSymbol (keyword_symbol k)
keyword_word keyword.Char = tt
keyword_word _ = tt

keyword_or_other_word : (k : Option Keyword) → IsWordSymbol (keyword_or_other k)
keyword_or_other_word None = tt
keyword_or_other_word (Some k) = keyword_word k

punctuator_word : (p : Punctuator) → IsWordSymbol (punctuator_symbol p)
punctuator_word punctuator.Comma = tt
punctuator_word _ = tt

punctuator_or_other_word : (p : Option Punctuator) → IsWordSymbol (punctuator_or_other p)
punctuator_or_other_word None = tt
punctuator_or_other_word (Some p) = punctuator_word p

in_range : (m : ℕ) → nat_le m 4294967295 ≡ true → m < 2 ^ 32
in_range m h = grind arith

integer_word : (t : List ℕ) → IsWordSymbol (integer_or_other (integer_of t))
integer_word t = by (nat_le (value_of t) 4294967295) refl
  where
    by : (b : Bool) → nat_le (value_of t) 4294967295 ≡ b → IsWordSymbol (integer_or_other (if b then Some (record { value = value_of t; is_unsigned = has_suffix t || nat_lt 2147483647 (value_of t) }) else None))
    by true e = in_range (value_of t) e
    by false e = tt

char_word : (v : ℕ) → word_of_signed (signed_char v) < 2 ^ 32
char_word v = by (nat_lt v 128) refl
  where
    by : (b : Bool) → nat_lt v 128 ≡ b → word_of_signed (if b then pos v else negsuc (255 - v)) < 2 ^ 32
    by true e = let l : v < 128 = grind arith in omega (arith, l)
    by false e = omega arith

character_word : (t : List ℕ) → word_of_signed (character_of t) < 2 ^ 32
character_word t = by (item_of 39 t)
  where
    by : (o : Option (ℕ × ℕ)) → word_of_signed (elim o as (λ _. ℤ) [ None ↦ pos 0 | Some p ↦ signed_char p.1 ]) < 2 ^ 32
    by None = omega arith
    by (Some p) = char_word p.1

symbol_word : (k : TokenKind) (t : List ℕ) → IsWordSymbol (symbol_of k t)
symbol_word kind.Identifier t = tt
symbol_word kind.Keyword t = keyword_or_other_word (keyword_of t)
symbol_word kind.Integer t = integer_word t
symbol_word kind.Character t = character_word (drop 1 t)
symbol_word kind.Str t = tt
symbol_word kind.Punctuator t = punctuator_or_other_word (punctuator_of t)

terminals_words : (text : List ℕ) (ts : List Token) → HaveWords (map (terminal_of text) ts)
terminals_words text [] = tt
terminals_words text (t ∷ ts) = (symbol_word t.kind (spelling text t), terminals_words text ts)

join_words : (t : Terminal) (us : List Terminal) → HaveWords (t ∷ us) → HaveWords (join t us)
join_words t [] w = w
join_words t (u ∷ us) w = by (is_text t.symbol && is_text u.symbol)
  where
    by : (b : Bool) → HaveWords (if b then merged t u ∷ us else t ∷ u ∷ us)
    by true = (w.0, w.1.1)
    by false = w

joined_words : (ts : List Terminal) → HaveWords ts → HaveWords (joined ts)
joined_words [] w = tt
joined_words (t ∷ ts) w = join_words t (joined ts) (w.0, joined_words ts w.1)

pub all_words : (text : List ℕ) (ts : List Token) → HaveWords (terminals text ts)
all_words text ts = joined_words (map (terminal_of text) ts) (terminals_words text ts)
