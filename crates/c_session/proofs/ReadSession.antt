-- The first program, of which `x` is evaluated: the text is read, and the session is allowed.
use Rattle.std.proofs.Common.{◌≡◌, refl, ℕ, ◌≤◌, List, [], ◌∷◌, Option, Some, None, lit≤}
use Rattle.std.specs.Prelude.{Box, codes, length, take, drop}
use Rattle.std.specs.declared.alloc.Global.{Global}
use Rattle.c_lex.specs.declared.token.Token.{Token}
use Rattle.c_lex.specs.declared.token.TokenKind.{TokenKind}
use Rattle.c_lex.specs.declared.token.TokenKind.TheVariants.{Identifier}
use Rattle.c_lex.specs.Grammar.{IsToken, Longest, HasTokens, token, ended, token_at, start}
use Rattle.c_symbol.specs.declared.symbol.LeafKind.TheVariants.{Name as ANode}
use Rattle.c_symbol.specs.Terminals.{terminal_of}
use Rattle.c_trees.specs.Expressions.{Tree, Leaf}
use Rattle.c_expr.specs.Grammar.{leaf}
use Rattle.c_tree.specs.declared.types.CType.TheVariants.{Int}
use Rattle.c_tree.specs.declared.typed.Typed.{Typed}
use Rattle.c_tree.specs.declared.typed.Typed.TheVariants.{Name}
use Rattle.c_reading.specs.Readings.{AsValue, Read, IsExpression, Reads}
use Rattle.c_session.specs.declared.command.Command.{Command}
use Rattle.c_session.specs.declared.command.Command.TheVariants as command
use Rattle.c_session.specs.Commands.{OneSide}
use Rattle.c_session.specs.Allowed.{Lines, Allowed}
use Rattle.c_session.proofs.Computed.{Reader, reader, session, computing}
use Rattle.c_session.proofs.Allows.{allows}
use Rattle.c_session.proofs.Trees.{of_type}
use Rattle.c_session.proofs.AssignmentSession.{program}

abbrev text : List ℕ
text = codes "x"

-- ---- what the text is

abbrev tokens : List Token
tokens = token_at Identifier start 1 ∷ []

longest : Longest Identifier text 1
longest = record { within = lit≤ tt; is = ((refl, (refl, tt)), refl); most = λ k m h i. h }

has_tokens : HasTokens text tokens
has_tokens = (token start text Identifier 1 refl longest refl (ended _), lit≤ tt)

abbrev tree : Tree
tree = Leaf start ANode text

is_expression : IsExpression text tree
is_expression = record { tokens = tokens; has = has_tokens; height = 1; low = lit≤ tt; spells = (start, leaf 1 (terminal_of text (token_at Identifier start 1)) ANode (lit≤ tt) refl) }

-- ---- the session

module _ (b : Box (Unit {0}) Global) where
  abbrev read : Typed
  read = Name (of_type Int) 3

  reads : Reads (program b) AsValue 2 text (Read read)
  reads = (tree, is_expression, (refl, tt, refl, ((refl, refl), refl)))

  abbrev texts : Reader
  texts = reader (record { point = 2; text = text; reading = Read read } ∷ []) []

  abbrev commands : List (Option Command)
  commands = Some command.Step ∷ Some command.Step ∷ Some command.Step ∷ Some (command.Eval text) ∷ Some command.Continue ∷ []

  abbrev lines : Lines
  lines = codes "stop a.c:1.23 main" ∷ codes "stop a.c:1.25 main" ∷ codes "stop a.c:1.32 main" ∷ codes "value 3" ∷ codes "exited 3" ∷ []

  it_tells : (session (program b) texts 2000 [] commands).lines ≡ lines
  unfolding computing
  it_tells = refl

  allowed : Allowed (program b) OneSide [] commands lines []
  unfolding computing
  allowed = allows (program b) texts 2000 [] commands (tt, tt, (tt, tt, (tt, tt, (reads, tt, (tt, tt, tt)))))
