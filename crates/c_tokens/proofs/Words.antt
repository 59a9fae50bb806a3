-- The names among the terminals of a text are identifiers.
use Rattle.std.proofs.Common.{◌≡◌, refl, sym, ap, ◌∙◌, subst, ℕ, zero, suc, ◌+◌, ◌≤◌, Bool, true, false, true≢false, ◌&&◌, ◌==◌, List, [], ◌∷◌, ◌++◌, length, map, take, drop, Option, Some, None, arith}
use Rattle.std.specs.Prelude.{if◌then◌else◌, nat_le}
use Rattle.std.specs.List.{AllByRecursion}
use Rattle.std.proofs.lemmas.List.{drop-drop}
use Rattle.c_lex.specs.declared.token.Place.{Place}
use Rattle.c_lex.specs.declared.token.Token.{Token}
use Rattle.c_lex.specs.declared.token.TokenKind.{TokenKind}
use Rattle.c_lex.specs.declared.token.TokenKind.TheVariants as kind
use Rattle.c_lex.specs.declared.keyword.Keyword.{Keyword}
use Rattle.c_lex.specs.declared.keyword.Keyword.TheVariants as keyword
use Rattle.c_lex.specs.declared.punctuator.Punctuator.{Punctuator}
use Rattle.c_lex.specs.declared.punctuator.Punctuator.TheVariants as punctuator
use Rattle.c_lex.specs.declared.number.Integer.{Integer}
use Rattle.c_lex.specs.Keywords.{keyword_of}
use Rattle.c_lex.specs.Punctuators.{punctuator_of}
use Rattle.c_lex.specs.Numbers.{integer_of}
use Rattle.c_lex.specs.Grammar.{IsToken, fits, past, after, start, Lexes, ended, gap, token}
use Rattle.c_symbol.specs.declared.symbol.LeafKind.TheVariants as leaf
use Rattle.c_symbol.specs.declared.symbol.Symbol.{Symbol}
use Rattle.c_symbol.specs.declared.symbol.Symbol.TheVariants.{Leaf}
use Rattle.c_symbol.specs.declared.terminal.Terminal.{Terminal}
use Rattle.c_symbol.specs.Symbols.{keyword_symbol, punctuator_symbol, keyword_or_other, integer_or_other, punctuator_or_other, symbol_of}
use Rattle.c_symbol.specs.Terminals.{spelling, text_of, terminal_of, is_text, merged, join, joined, terminals}
use Rattle.c_tokens.specs.Identifiers.{IsIdentifier}

-- the text of a name is an identifier
abbrev pub IsNamedBy : Symbol → List ℕ → Type 0
IsNamedBy (Leaf leaf.Name) text = IsIdentifier text
IsNamedBy _ text = Unit {0}

abbrev pub IsNamed : Terminal → Type 0
IsNamed t = IsNamedBy t.symbol t.text

abbrev pub AreNamed : List Terminal → Type 0
AreNamed ts = AllByRecursion IsNamed ts

pub named : (t : Terminal) → t.symbol ≡ Leaf leaf.Name → IsNamed t → IsIdentifier t.text
named t e h = subst (λ y. IsNamedBy y t.text) e h

pub front : (us vs : List Terminal) → AreNamed (us ++ vs) → AreNamed us
front [] vs h = tt
front (u ∷ us) vs h = (h.0, front us vs h.1)

pub back : (us vs : List Terminal) → AreNamed (us ++ vs) → AreNamed vs
back [] vs h = h
back (u ∷ us) vs h = back us vs h.1

-- ---- symbols

keyword_named : (k : Keyword) (text : List ℕ) → IsNamedBy (keyword_symbol k) text
keyword_named keyword.Char text = tt
keyword_named _ text = tt

punctuator_named : (p : Punctuator) (text : List ℕ) → IsNamedBy (punctuator_symbol p) text
punctuator_named punctuator.Comma text = tt
punctuator_named _ text = tt

keyword_or_other_named : (k : Option Keyword) (text : List ℕ) → IsNamedBy (keyword_or_other k) text
keyword_or_other_named None text = tt
keyword_or_other_named (Some k) text = keyword_named k text

integer_or_other_named : (i : Option Integer) (text : List ℕ) → IsNamedBy (integer_or_other i) text
integer_or_other_named None text = tt
integer_or_other_named (Some i) text = tt

punctuator_or_other_named : (p : Option Punctuator) (text : List ℕ) → IsNamedBy (punctuator_or_other p) text
punctuator_or_other_named None text = tt
punctuator_or_other_named (Some p) text = punctuator_named p text

-- ---- tokens

-- what stands in a text where an identifier does is one
abbrev IsSpelled : List ℕ → Token → Type 0
IsSpelled text t = t.kind ≡ kind.Identifier → IsIdentifier (spelling text t)

within : (n : ℕ) → nat_le n 63 ≡ true → n ≤ 63
within n h = grind arith

short : (k : TokenKind) (t rest : List ℕ) → IsToken k t rest → fits k t ≡ true → k ≡ kind.Identifier → IsIdentifier t
short k t rest h f e =
    record { word = (subst (λ (x : TokenKind). IsToken x t rest) e h).0; short = within (length t) (subst (λ (x : TokenKind). fits x t ≡ true) e f) }

past_one : (p : Place) (b : ℕ) → (past p b).at ≡ p.at + 1
past_one p b = by (b == 10)
  where
    by : (c : Bool) → (if◌then◌else◌ {A = Place} c (record { at = p.at + 1; line = p.line + 1; column = 1 }) (record { at = p.at + 1; line = p.line; column = p.column + 1 })).at ≡ p.at + 1
    by true = refl
    by false = refl

behind_bytes : (p : Place) (bs : List ℕ) → (after p bs).at ≡ p.at + length bs
behind_bytes p [] = omega arith
behind_bytes p (b ∷ bs) = omega (arith, behind_bytes (past p b) bs, past_one p b)

drop_taken : (n : ℕ) (xs : List ℕ) → drop (length (take n xs)) xs ≡ drop n xs
drop_taken zero xs = refl
drop_taken (suc n) [] = refl
drop_taken (suc n) (x ∷ xs) = drop_taken n xs

-- a text from the place behind some of its bytes on
behind : (text rest : List ℕ) (p : Place) (n : ℕ) → drop p.at text ≡ rest → drop (after p (take n rest)).at text ≡ drop n rest
behind text rest p n e =
    let m = length (take n rest) in
    ap (λ k. drop k text) (behind_bytes p (take n rest)) ∙ (sym (drop-drop m p.at text) ∙ (ap (λ (xs : List ℕ). drop m xs) e ∙ drop_taken n rest))

spelled : (text : List ℕ) {p : Place} {rest : List ℕ} {ts : List Token} → Lexes p rest ts → drop p.at text ≡ rest → AllByRecursion (IsSpelled text) ts
spelled text (ended p) e = tt
spelled text (gap p rest n {ts} g d) e = spelled text d (behind text rest p n e)
spelled text (token p rest kind n {ts} g l f d) e =
    ((λ k. subst (λ (xs : List ℕ). IsIdentifier (take n xs)) (sym e) (short kind (take n rest) (drop n rest) l.is f k)), spelled text d (behind text rest p n e))

-- ---- terminals

token_named : (k : TokenKind) (s : List ℕ) → (k ≡ kind.Identifier → IsIdentifier s) → IsNamedBy (symbol_of k s) (text_of k s)
token_named kind.Identifier s h = h refl
token_named kind.Keyword s h = keyword_or_other_named (keyword_of s) []
token_named kind.Integer s h = integer_or_other_named (integer_of s) []
token_named kind.Character s h = tt
token_named kind.Str s h = tt
token_named kind.Punctuator s h = punctuator_or_other_named (punctuator_of s) []

tokens_named : (text : List ℕ) (ts : List Token) → AllByRecursion (IsSpelled text) ts → AreNamed (map (terminal_of text) ts)
tokens_named text [] h = tt
tokens_named text (t ∷ ts) h = (token_named t.kind (spelling text t) h.0, tokens_named text ts h.1)

text_named : (y z : Symbol) (text : List ℕ) → is_text y && is_text z ≡ true → IsNamedBy y text
text_named (Leaf leaf.Name) z text e = absurd (true≢false (sym e))
text_named _ z text e = tt

join_named : (t : Terminal) (us : List Terminal) → AreNamed (t ∷ us) → AreNamed (join t us)
join_named t [] h = h
join_named t (u ∷ us) h = by (is_text t.symbol && is_text u.symbol) refl
  where
    by : (b : Bool) → is_text t.symbol && is_text u.symbol ≡ b → AreNamed (if b then merged t u ∷ us else t ∷ u ∷ us)
    by true e = (text_named t.symbol u.symbol (t.text ++ u.text) e, h.1.1)
    by false e = h

joined_named : (ts : List Terminal) → AreNamed ts → AreNamed (joined ts)
joined_named [] h = tt
joined_named (t ∷ ts) h = join_named t (joined ts) (h.0, joined_named ts h.1)

pub terminals_named : (text : List ℕ) (ts : List Token) → Lexes start text ts → AreNamed (terminals text ts)
terminals_named text ts d = joined_named (map (terminal_of text) ts) (tokens_named text ts (spelled text d refl))
