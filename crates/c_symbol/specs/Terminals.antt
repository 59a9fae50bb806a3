-- Terminals of the grammar: the symbol, the place, and the text of a name or of joined string literals.
use Rattle.std.specs.Prelude.{◌≡◌, ℕ, List, [], ◌∷◌, ◌++◌, Bool, true, false, ◌&&◌, if◌then◌else◌, Option, Some, None, take, drop, map}
use Rattle.c_lex.specs.declared.token.Place.{Place}
use Rattle.c_lex.specs.declared.token.Token.{Token}
use Rattle.c_lex.specs.declared.token.TokenKind.{TokenKind}
use Rattle.c_lex.specs.declared.token.TokenKind.TheVariants as kind
use Rattle.c_lex.specs.Literals.{values_of}
use Rattle.c_symbol.specs.declared.symbol.LeafKind.TheVariants.{Text}
use Rattle.c_symbol.specs.declared.symbol.Symbol.{Symbol}
use Rattle.c_symbol.specs.declared.symbol.Symbol.TheVariants.{Leaf}
use Rattle.c_symbol.specs.declared.terminal.Terminal.{Terminal}
use Rattle.c_symbol.specs.Symbols.{symbol_of}

abbrev pub place_of : Token → Place
place_of t = record { at = t.at; line = t.line; column = t.column }

abbrev pub spelling : List ℕ → Token → List ℕ
spelling text t = take t.len (drop t.at text)

-- the bytes of a name, and those that a string literal stands for
abbrev pub text_of : TokenKind → List ℕ → List ℕ
text_of kind.Identifier t = t
text_of kind.Str t = values_of 0 (drop 1 t)
text_of _ t = []

-- the terminal that one token of a text is
abbrev pub terminal_of : List ℕ → Token → Terminal
terminal_of text t = record { symbol = symbol_of t.kind (spelling text t); place = place_of t; text = text_of t.kind (spelling text t) }

abbrev pub is_text : Symbol → Bool
is_text (Leaf Text) = true
is_text _ = false

-- two literals as one, at the place of the first
abbrev pub merged : Terminal → Terminal → Terminal
merged t u = record { symbol = t.symbol; place = t.place; text = t.text ++ u.text }

-- adjacent string literals are joined (C90 5.1.1.2)
abbrev pub join : Terminal → List Terminal → List Terminal
join t [] = t ∷ []
join t (u ∷ us) = if is_text t.symbol && is_text u.symbol then merged t u ∷ us else t ∷ u ∷ us

abbrev pub joined : List Terminal → List Terminal
joined [] = []
joined (t ∷ ts) = join t (joined ts)

-- the terminals of a text, of which these are the tokens
abbrev pub terminals : List ℕ → List Token → List Terminal
terminals text ts = joined (map (terminal_of text) ts)

-- none or one
abbrev pub waiting : Option Terminal → List Terminal
waiting None = []
waiting (Some t) = t ∷ []

-- behind a terminal that was kept back comes one more: what is whole then, and what is kept back
abbrev pub pushed : Option Terminal → Terminal → Option Terminal × Option Terminal
pushed None t = (None, Some t)
pushed (Some u) t = if is_text u.symbol && is_text t.symbol then (None, Some (merged u t)) else (Some u, Some t)

-- joining one by one is joining all
abbrev pub JoinsAll : Type 0
JoinsAll = (last : Option Terminal) (t : Terminal) (rest : List Terminal) → joined (waiting last ++ t ∷ rest) ≡ waiting (pushed last t).0 ++ joined (waiting (pushed last t).1 ++ rest)
