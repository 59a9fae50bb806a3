-- What a choice by a token comes to.
use Rattle.std.proofs.Common.{◌≡◌, if◌then◌else◌, Option, None, refl}
use Rattle.c_lex.specs.declared.keyword.Keyword.{Keyword}
use Rattle.c_symbol.specs.declared.symbol.Symbol.{Symbol}
use Rattle.c_symbol.specs.declared.symbol.Symbol.TheVariants as symbol
use Rattle.c_statement.specs.Tokens.{is_semicolon, is_open_brace, word_of}

-- a token that is neither `;` nor `{` nor a keyword
pub no_sign : {T : Type 0} (y : Symbol) (a b : T) (f : Option Keyword → T) → (y ≡ symbol.Semicolon → ⊥) → (y ≡ symbol.OpenBrace → ⊥)
    → ((k : Keyword) → y ≡ symbol.Keyword k → ⊥) → (if is_semicolon y then a else if is_open_brace y then b else f (word_of y)) ≡ f None
no_sign symbol.Semicolon a b f p q r = absurd (p refl)
no_sign symbol.OpenBrace a b f p q r = absurd (q refl)
no_sign (symbol.Keyword k) a b f p q r = absurd (r k refl)
no_sign _ a b f p q r = refl
