-- What a text of a session is: an identifier; an expression that keeps to the rules, or the first reason why it is none.
use Rattle.std.specs.Prelude.{◌≡◌, ◌⊎◌, ◌≤◌, ℕ, Bool, ◌&&◌, not, nat_le, List, length, Ok, Err, Option}
use Rattle.std.specs.List.{list_all}
use Rattle.c_lex.specs.declared.token.Token.{Token}
use Rattle.c_lex.specs.Bytes.{is_letter, is_part}
use Rattle.c_lex.specs.Keywords.{keyword_of}
use Rattle.c_lex.specs.Literals.{starts}
use Rattle.c_lex.specs.Grammar.{HasTokens, is_some}
use Rattle.c_symbol.specs.Terminals.{terminals}
use Rattle.c_trees.specs.Expressions.{Tree}
use Rattle.c_expr.specs.Grammar.{Spells}
use Rattle.c_tree.specs.declared.typed.Typed.{Typed}
use Rattle.c_tree.specs.declared.rows.Program.{Program}
use Rattle.c_judge.specs.declared.check.Mode.{Mode}
use Rattle.c_judge.specs.declared.check.Mode.TheVariants as mode
use Rattle.c_judge.specs.declared.fault.ExprFault.TheVariants as fault
use Rattle.c_judge.specs.Checks.{Checks}
use Rattle.c_reading.specs.Scope.{scope_of}

-- what a text is read for: an expression's value, or a plain assignment
pub data Use : Type 0 where
  AsValue AsAssignment : Use

-- why a text is refused, in the order in which it is asked
pub data Unreadable : Type 0 where
  BadSyntax NoScope BadType : Unreadable

-- what reading a text gives: a refusal, or a typed expression over the program's symbols
pub data Reading : Type 0 where
  Unread : (why : Unreadable) → Reading
  Read : (e : Typed) → Reading

-- ---- identifiers (C90 6.1.2)

-- a letter or _, then letters, digits and _, at most 63 bytes and no keyword
abbrev pub is_identifier : List ℕ → Bool
is_identifier text = starts is_letter text && list_all is_part text && nat_le (length text) 63 && not (is_some (keyword_of text))

-- ---- expressions

-- a text's tokens are this expression, of at most 64 levels
pub record IsExpression (text : List ℕ) (e : Tree) : Type 0 where
  pub tokens : List Token
  pub has : HasTokens text tokens
  pub height : ℕ
  pub low : height ≤ 64
  pub spells : Spells (terminals text tokens) e height

abbrev pub mode_of : Use → Mode
mode_of AsValue = mode.Value
mode_of AsAssignment = mode.Assign

module _ (p : Program) (u : Use) (point : ℕ) where
  -- the expression is typed so among the names at the point
  abbrev pub IsTypedAs : Tree → Typed → Type 0
  IsTypedAs e x = Checks (scope_of p point) (mode_of u) e (Ok x)

  -- a name of it is not in scope
  abbrev pub LacksName : Tree → Type 0
  LacksName e = (name : List ℕ) × Checks (scope_of p point) (mode_of u) e (Err (fault.Scope name))

  -- all names are, and a rule is broken, or where none is, a form stands in it that is forbidden here
  abbrev pub BreaksRule : Tree → Type 0
  BreaksRule e = ((rule : ℕ) × Checks (scope_of p point) (mode_of u) e (Err (fault.Rule rule))) ⊎ ((at : ℕ) × Checks (scope_of p point) (mode_of u) e (Err (fault.Forbidden at)))

-- what a text is at a stopping point; the refusals come in this order
abbrev pub Reads : Program → Use → (point : ℕ) → List ℕ → Reading → Type 0
Reads p u q text (Unread BadSyntax) = (e : Tree) → IsExpression text e → ⊥
Reads p u q text (Unread NoScope) = (e : Tree) × IsExpression text e × LacksName p u q e
Reads p u q text (Unread BadType) = (e : Tree) × IsExpression text e × BreaksRule p u q e
Reads p u q text (Read x) = (e : Tree) × IsExpression text e × IsTypedAs p u q e x

-- readings that may be of one text: the same refusal, or the same expression
abbrev pub Agree : Program → Use → (point : ℕ) → List ℕ → Reading → Reading → Type 0
Agree p u q text (Unread r) (Unread r') = r ≡ r'
Agree p u q text (Read x) (Read y) = (e : Tree) × IsExpression text e × IsTypedAs p u q e x × IsTypedAs p u q e y
Agree p u q text _ _ = ⊥
