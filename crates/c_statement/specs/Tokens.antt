-- Whether a token is this one. Each question has a definition of its own, since a last case stands once for each symbol that it covers.
use Rattle.std.specs.Prelude.{Bool, true, false, Option, Some, None}
use Rattle.c_lex.specs.declared.keyword.Keyword.{Keyword}
use Rattle.c_lex.specs.declared.keyword.Keyword.TheVariants.{Else, While}
use Rattle.c_symbol.specs.declared.symbol.Symbol.{Symbol}
use Rattle.c_symbol.specs.declared.symbol.Symbol.TheVariants.{Semicolon, OpenParen, OpenBrace, CloseBrace, Keyword as Word}

abbrev pub is_semicolon : Symbol → Bool
is_semicolon Semicolon = true
is_semicolon _ = false

abbrev pub is_open_paren : Symbol → Bool
is_open_paren OpenParen = true
is_open_paren _ = false

abbrev pub is_open_brace : Symbol → Bool
is_open_brace OpenBrace = true
is_open_brace _ = false

abbrev pub is_close_brace : Symbol → Bool
is_close_brace CloseBrace = true
is_close_brace _ = false

abbrev pub is_else : Symbol → Bool
is_else (Word Else) = true
is_else _ = false

abbrev pub is_while : Symbol → Bool
is_while (Word While) = true
is_while _ = false

abbrev pub word_of : Symbol → Option Keyword
word_of (Word k) = Some k
word_of _ = None
