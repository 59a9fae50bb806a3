-- What a text is that is served.
use Rattle.std.specs.Prelude.{ℕ, ◌≤◌, ◌≢◌, List}
use Rattle.std.specs.List.{AllByRecursion}
use Rattle.c_lex.specs.declared.token.Token.{Token}
use Rattle.c_lex.specs.Grammar.{HasTokens}
use Rattle.c_symbol.specs.declared.terminal.Terminal.{Terminal}
use Rattle.c_symbol.specs.Terminals.{terminals}
use Rattle.c_trees.specs.Expressions.{Tree}
use Rattle.c_expr.specs.Grammar.{Spells}

-- terminals are an expression of at most 64 levels
abbrev pub AreExpression : List Terminal → Type 0
AreExpression ts = (e : Tree) × (h : ℕ) × (h ≤ 64) × Spells ts e h

-- a text's tokens are one
abbrev pub IsExpression : List ℕ → Type 0
IsExpression text = (ts : List Token) × HasTokens text ts × AreExpression (terminals text ts)

-- one line: there is no line feed
abbrev pub IsLine : List ℕ → Type 0
IsLine text = AllByRecursion (λ c. c ≢ 10) text
