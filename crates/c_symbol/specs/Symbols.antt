-- The symbols of keywords, of operators and punctuators, and of tokens.
use Rattle.std.specs.Prelude.{ℕ, List, drop, Option, Some, None}
use Rattle.c_lex.specs.declared.token.TokenKind.{TokenKind}
use Rattle.c_lex.specs.declared.token.TokenKind.TheVariants as kind
use Rattle.c_lex.specs.declared.keyword.Keyword.{Keyword}
use Rattle.c_lex.specs.declared.keyword.Keyword.TheVariants as keyword
use Rattle.c_lex.specs.declared.punctuator.Punctuator.{Punctuator}
use Rattle.c_lex.specs.declared.punctuator.Punctuator.TheVariants as punctuator
use Rattle.c_lex.specs.declared.number.Integer.{Integer}
use Rattle.c_lex.specs.Keywords.{keyword_of}
use Rattle.c_lex.specs.Punctuators.{punctuator_of}
use Rattle.c_lex.specs.Numbers.{integer_of}
use Rattle.c_lex.specs.Literals.{character_of}
use Rattle.c_symbol.specs.declared.symbol.LeafKind.TheVariants.{Name, Constant, Character, Text}
use Rattle.c_symbol.specs.declared.symbol.TypeWord.TheVariants as word
use Rattle.c_symbol.specs.declared.symbol.Access.TheVariants as access
use Rattle.c_symbol.specs.declared.symbol.Step.TheVariants as step
use Rattle.c_symbol.specs.declared.symbol.BinaryOp.TheVariants as op
use Rattle.c_symbol.specs.declared.symbol.AssignOp.TheVariants as assign
use Rattle.c_symbol.specs.declared.symbol.Symbol.{Symbol}
use Rattle.c_symbol.specs.declared.symbol.Symbol.TheVariants as symbol

abbrev pub keyword_symbol : Keyword → Symbol
keyword_symbol keyword.Char = symbol.Word word.Char
keyword_symbol keyword.Int = symbol.Word word.Int
keyword_symbol keyword.Unsigned = symbol.Word word.Unsigned
keyword_symbol keyword.Void = symbol.Word word.Void
keyword_symbol keyword.Sizeof = symbol.Sizeof
keyword_symbol keyword.Struct = symbol.Struct
keyword_symbol k = symbol.Keyword k

abbrev pub punctuator_symbol : Punctuator → Symbol
punctuator_symbol punctuator.OpenBracket = symbol.OpenBracket
punctuator_symbol punctuator.CloseBracket = symbol.CloseBracket
punctuator_symbol punctuator.OpenParen = symbol.OpenParen
punctuator_symbol punctuator.CloseParen = symbol.CloseParen
punctuator_symbol punctuator.Dot = symbol.Access access.Dot
punctuator_symbol punctuator.Arrow = symbol.Access access.Arrow
punctuator_symbol punctuator.Comma = symbol.Binary op.Comma
punctuator_symbol punctuator.Colon = symbol.Colon
punctuator_symbol punctuator.Question = symbol.Question
punctuator_symbol punctuator.Tilde = symbol.Complement
punctuator_symbol punctuator.Exclamation = symbol.Not
punctuator_symbol punctuator.PlusPlus = symbol.Step step.Increment
punctuator_symbol punctuator.MinusMinus = symbol.Step step.Decrement
punctuator_symbol punctuator.Ampersand = symbol.Binary op.BitAnd
punctuator_symbol punctuator.Star = symbol.Binary op.Multiply
punctuator_symbol punctuator.Plus = symbol.Binary op.Add
punctuator_symbol punctuator.Minus = symbol.Binary op.Subtract
punctuator_symbol punctuator.Slash = symbol.Binary op.Divide
punctuator_symbol punctuator.Percent = symbol.Binary op.Remainder
punctuator_symbol punctuator.Less = symbol.Binary op.Less
punctuator_symbol punctuator.Greater = symbol.Binary op.Greater
punctuator_symbol punctuator.Caret = symbol.Binary op.BitXor
punctuator_symbol punctuator.Bar = symbol.Binary op.BitOr
punctuator_symbol punctuator.LessLess = symbol.Binary op.ShiftLeft
punctuator_symbol punctuator.GreaterGreater = symbol.Binary op.ShiftRight
punctuator_symbol punctuator.AmpersandAmpersand = symbol.Binary op.LogicalAnd
punctuator_symbol punctuator.BarBar = symbol.Binary op.LogicalOr
punctuator_symbol punctuator.LessEqual = symbol.Binary op.LessEqual
punctuator_symbol punctuator.GreaterEqual = symbol.Binary op.GreaterEqual
punctuator_symbol punctuator.EqualEqual = symbol.Binary op.Equal
punctuator_symbol punctuator.ExclamationEqual = symbol.Binary op.NotEqual
punctuator_symbol punctuator.Equal = symbol.Binary (op.Assign assign.Plain)
punctuator_symbol punctuator.StarEqual = symbol.Binary (op.Assign assign.Multiply)
punctuator_symbol punctuator.SlashEqual = symbol.Binary (op.Assign assign.Divide)
punctuator_symbol punctuator.PercentEqual = symbol.Binary (op.Assign assign.Remainder)
punctuator_symbol punctuator.PlusEqual = symbol.Binary (op.Assign assign.Add)
punctuator_symbol punctuator.MinusEqual = symbol.Binary (op.Assign assign.Subtract)
punctuator_symbol punctuator.AmpersandEqual = symbol.Binary (op.Assign assign.And)
punctuator_symbol punctuator.CaretEqual = symbol.Binary (op.Assign assign.Xor)
punctuator_symbol punctuator.BarEqual = symbol.Binary (op.Assign assign.Or)
punctuator_symbol punctuator.LessLessEqual = symbol.Binary (op.Assign assign.ShiftLeft)
punctuator_symbol punctuator.GreaterGreaterEqual = symbol.Binary (op.Assign assign.ShiftRight)
punctuator_symbol punctuator.OpenBrace = symbol.OpenBrace
punctuator_symbol punctuator.CloseBrace = symbol.CloseBrace
punctuator_symbol punctuator.Semicolon = symbol.Semicolon

abbrev pub keyword_or_other : Option Keyword → Symbol
keyword_or_other None = symbol.Other
keyword_or_other (Some k) = keyword_symbol k

abbrev pub integer_or_other : Option Integer → Symbol
integer_or_other None = symbol.Other
integer_or_other (Some i) = symbol.Leaf (Constant i)

abbrev pub punctuator_or_other : Option Punctuator → Symbol
punctuator_or_other None = symbol.Other
punctuator_or_other (Some p) = punctuator_symbol p

-- the symbol of a token, from its kind and its bytes
abbrev pub symbol_of : TokenKind → List ℕ → Symbol
symbol_of kind.Identifier t = symbol.Leaf Name
symbol_of kind.Keyword t = keyword_or_other (keyword_of t)
symbol_of kind.Integer t = integer_or_other (integer_of t)
symbol_of kind.Character t = symbol.Leaf (Character (character_of (drop 1 t)))
symbol_of kind.Str t = symbol.Leaf Text
symbol_of kind.Punctuator t = punctuator_or_other (punctuator_of t)
