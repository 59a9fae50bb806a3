-- Reading a block token by token, with what is begun on a stack.
use Rattle.std.specs.Prelude.{◌≡◌, ℕ, Bool, true, false, not, if◌then◌else◌, List, [], ◌∷◌, drop, Option, Some, None, Result, Ok, Err}
use Rattle.c_lex.specs.declared.token.Place.{Place}
use Rattle.c_lex.specs.declared.keyword.Keyword.{Keyword}
use Rattle.c_lex.specs.declared.keyword.Keyword.TheVariants as word
use Rattle.c_symbol.specs.declared.terminal.Terminal.{Terminal}
use Rattle.c_symbol.specs.declared.symbol.Symbol.{Symbol}
use Rattle.c_symbol.specs.declared.symbol.Symbol.TheVariants.{CloseParen, Semicolon, Colon as ColonSign, Struct as StructWord, Word as TypeWord, Keyword as Word}
use Rattle.c_trees.specs.Expressions.{Tree}
use Rattle.c_expr.specs.First.{first}
use Rattle.c_expr.specs.Machine.{start}
use Rattle.c_expr.specs.Inside.{offer}
use Rattle.c_expr.specs.declared.grown.Grown.{Grown}
use Rattle.c_expr.specs.declared.frame.Least.{Least}
use Rattle.c_expr.specs.declared.frame.Least.TheVariants.{Expression, Constant}
use Rattle.c_expr.specs.declared.inside.Offered.{Offered}
use Rattle.c_expr.specs.declared.inside.Offered.TheVariants.{Goes, Ends as EndsBefore}
use Rattle.c_expr.specs.declared.state.SynFault.{SynFault}
use Rattle.c_expr.specs.declared.state.SynFault.TheVariants.{Syntax, Deep, NoMemory}
use Rattle.c_declaration.specs.declared.built.Built.{Built}
use Rattle.c_declaration.specs.declared.step.Step.{Step}
use Rattle.c_declaration.specs.declared.step.Step.TheVariants as step
use Rattle.c_declaration.specs.declared.state.LocalParser.{LocalParser}
use Rattle.c_declaration.specs.declared.state.LocalParser.TheVariants as local
use Rattle.c_declaration.specs.declared.state.ReadLocal.{ReadLocal}
use Rattle.c_declaration.specs.LocalReading.{local_offer}
use Rattle.c_trees.specs.declared.statement.Head.{Head}
use Rattle.c_trees.specs.declared.statement.Head.TheVariants as head
use Rattle.c_trees.specs.Statements.{StatementTree, Empty, Break, Continue}
use Rattle.c_statement.specs.declared.state.Control.{Control}
use Rattle.c_statement.specs.declared.state.Control.TheVariants as control
use Rattle.c_statement.specs.declared.state.Frame.{Frame}
use Rattle.c_statement.specs.declared.state.Frame.TheVariants as frame
use Rattle.c_statement.specs.declared.state.Required.{Required}
use Rattle.c_statement.specs.declared.state.Required.TheVariants as required
use Rattle.c_statement.specs.declared.state.Optional.{Optional}
use Rattle.c_statement.specs.declared.state.Optional.TheVariants as optional
use Rattle.c_statement.specs.declared.state.Purpose.{Purpose}
use Rattle.c_statement.specs.declared.state.Purpose.TheVariants.{Must, May as Maybe}
use Rattle.c_statement.specs.declared.state.Opener.{Opener}
use Rattle.c_statement.specs.declared.state.Opener.TheVariants as opener
use Rattle.c_statement.specs.declared.state.Closer.{Closer}
use Rattle.c_statement.specs.declared.state.Closer.TheVariants as closer
use Rattle.c_statement.specs.declared.state.Outer.{Outer}
use Rattle.c_statement.specs.declared.state.Outer.TheVariants as outer
use Rattle.c_statement.specs.declared.state.Mode.{Mode}
use Rattle.c_statement.specs.declared.state.Mode.TheVariants.{Begin, Items, Declaring, After, Done, Paren, Ends, Colon, May, Value}
use Rattle.c_statement.specs.declared.state.Reader.{Reader}
use Rattle.c_statement.specs.Tokens.{is_semicolon, is_open_paren, is_open_brace, is_close_brace, is_else, is_while, word_of}
use Rattle.c_statement.specs.Parts.{kept, paired, expr_part, absent_part, present_part, statement_part, placed, evaluate_of, return_of, if_of, if_else_of, headed_of, do_of, for_of, begun_of, declares_of, also_of, closed_of}

-- the next state, or no tree
abbrev pub Next : Type 0
Next = Option Reader

abbrev pub goes : Mode → List Frame → Next
goes mode s = Some (record { stack = s; mode = mode })

-- an answer is the next state, unless memory ran out
abbrev pub Gives : Result Reader SynFault → Next → Type 0
Gives (Ok p) next = next ≡ Some p
Gives (Err (Syntax _)) next = next ≡ None
Gives (Err (Deep _)) next = ⊥
Gives (Err NoMemory) next = Unit {0}

-- what an expression must be, and what stands behind it
abbrev pub least_for : Purpose → Least
least_for (Must (required.Case _)) = Constant
least_for _ = Expression

abbrev pub closer_of : Purpose → Closer
closer_of (Must required.Evaluate) = closer.Semicolon
closer_of (Must (required.Control _ _)) = closer.Paren
closer_of (Must (required.Until _)) = closer.Paren
closer_of (Must (required.Case _)) = closer.Colon
closer_of (Maybe (optional.First _)) = closer.Semicolon
closer_of (Maybe (optional.Second _)) = closer.Semicolon
closer_of (Maybe (optional.Third _)) = closer.Paren
closer_of (Maybe (optional.Return _)) = closer.Semicolon

abbrev pub is_closer : Closer → Symbol → Bool
is_closer closer.Semicolon Semicolon = true
is_closer closer.Paren CloseParen = true
is_closer closer.Colon ColonSign = true
is_closer _ _ = false

-- the frame behind a controlling expression
abbrev pub control_frame : Control → Place → Option (Built Tree) → Frame
control_frame control.If at e = frame.If (placed at e)
control_frame control.While at e = frame.Headed (kept (head.While at) e)
control_frame control.Switch at e = frame.Headed (kept (head.Switch at) e)

-- what is read with the expression
abbrev pub with_value : Required → Option (Built Tree) → List Frame → Next
with_value required.Evaluate e s = goes (After (evaluate_of e)) s
with_value (required.Control k at) e s = goes Begin (control_frame k at e ∷ s)
with_value (required.Until p) e s = goes (Ends (do_of p e)) s
with_value (required.Case at) e s = goes Begin (frame.Headed (kept (head.Case at) e) ∷ s)

abbrev pub with_optional : Optional → Option (Built (Option Tree)) → List Frame → Next
with_optional (optional.First at) e s = goes (May (optional.Second (placed at e))) s
with_optional (optional.Second p) e s = goes (May (optional.Third (paired p e))) s
with_optional (optional.Third p) e s = goes Begin (frame.Headed (for_of p e) ∷ s)
with_optional (optional.Return at) e s = goes (After (return_of at e)) s

abbrev pub used : Purpose → Option (Built Tree) → List Frame → Next
used (Must r) e s = with_value r e s
used (Maybe o) e s = with_optional o (present_part e) s

-- one token more of an expression, or the token behind it
abbrev pub valued : Purpose → List Frame → Symbol → Option Offered → Next
valued p s y None = None
valued p s y (Some (Goes q)) = goes (Value p q) s
valued p s y (Some (EndsBefore g)) = if is_closer (closer_of p) y then used p (expr_part g.tree) s else None

-- its first token
abbrev pub value_begins : Purpose → List Frame → Terminal → Next
value_begins p s t = valued p s t.symbol (offer (least_for p) (start (least_for p)) t)

abbrev pub waits : Required → List Frame → Next
waits r s = goes (Value (Must r) (start (least_for (Must r)))) s

-- a keyword that begins a statement
abbrev pub keyword : Keyword → Place → List Frame → Next
keyword word.If at s = goes (Paren (opener.Control control.If at)) s
keyword word.While at s = goes (Paren (opener.Control control.While at)) s
keyword word.Switch at s = goes (Paren (opener.Control control.Switch at)) s
keyword word.Do at s = goes Begin (frame.Do at ∷ s)
keyword word.For at s = goes (Paren (opener.For at)) s
keyword word.Case at s = waits (required.Case at) s
keyword word.Default at s = goes (Colon at) s
keyword word.Break at s = goes (Ends (statement_part (Break at))) s
keyword word.Continue at s = goes (Ends (statement_part (Continue at))) s
keyword word.Return at s = goes (May (optional.Return at)) s
keyword _ at s = None

-- the first token of a statement
abbrev pub begins_word : Option Keyword → List Frame → Terminal → Next
begins_word None s t = value_begins (Must required.Evaluate) s t
begins_word (Some k) s t = keyword k t.place s

abbrev pub begins : Symbol → List Frame → Terminal → Next
begins y s t =
    if is_semicolon y then goes (After (statement_part (Empty t.place))) s
    else if is_open_brace y then goes (Items (begun_of t.place)) s
    else begins_word (word_of y) s t

-- the `}` of a block: nothing may stand behind the outermost one
abbrev pub ends_block : Option (Built StatementTree) → List Frame → Next
ends_block b [] = goes (Done b) []
ends_block b (f ∷ s) = goes (After b) (f ∷ s)

-- a token behind a part of a block
abbrev pub inside : Symbol → Option (Built StatementTree) → List Frame → Terminal → Next
inside y b s t = if is_close_brace y then ends_block (closed_of b t.place) s else begins y (frame.Block b ∷ s) t

-- one token more of a declaration in a block
abbrev pub declaring : Option (Built StatementTree) → List Frame → Option (Step LocalParser ReadLocal) → Next
declaring b s None = None
declaring b s (Some (step.Goes q)) = goes (Declaring b q) s
declaring b s (Some (step.Ends r)) = goes (Items (declares_of b r.local)) s

-- whether a declaration begins
abbrev pub starts_local : Symbol → Bool
starts_local (TypeWord _) = true
starts_local StructWord = true
starts_local (Word word.Register) = true
starts_local _ = false

-- a token behind the declarations of a block
abbrev pub items : Symbol → Option (Built StatementTree) → List Frame → Terminal → Next
items y b s t = if starts_local y then declaring b s (local_offer local.Begin t) else inside y b s t

-- whether a statement ends behind its part before a token other than `else`, and before `else`
abbrev pub ends_before : Bool → Frame → Bool
ends_before is_else (frame.If _) = not is_else
ends_before is_else (frame.Else _) = true
ends_before is_else (frame.Headed _) = true
ends_before is_else (frame.Do _) = false
ends_before is_else (frame.Block _) = false

abbrev pub top_ends : Bool → Option Frame → Bool
top_ends is_else None = false
top_ends is_else (Some f) = ends_before is_else f

-- the statement in its frame
abbrev pub plug : Frame → Option (Built StatementTree) → Option (Built StatementTree)
plug (frame.If p) g = if_of p g
plug (frame.Else p) g = if_else_of p g
plug (frame.Headed p) g = headed_of p g
plug (frame.Do _) g = g
plug (frame.Block _) g = g

-- the statements that end
abbrev pub settle : Bool → Option (Built StatementTree) → List Frame → Option (Built StatementTree) × List Frame
settle is_else g [] = (g, [])
settle is_else g (f ∷ s) = if ends_before is_else f then settle is_else (plug f g) s else (g, f ∷ s)

-- the `if` that an `else` belongs to
abbrev pub if_by : Frame → Option (Option (Built (Place × Tree)))
if_by (frame.If p) = Some p
if_by _ = None

abbrev pub if_part : Option Frame → Option (Option (Built (Place × Tree)))
if_part None = None
if_part (Some f) = if_by f

abbrev pub takes_else : Option (Option (Built (Place × Tree))) → Option (Built StatementTree) → List Frame → Next
takes_else None g s = None
takes_else (Some p) g s = goes Begin (frame.Else (paired p g) ∷ s)

abbrev pub on_else : Option (Built StatementTree) × List Frame → Next
on_else (g, s) = takes_else (if_part (first s)) g (drop 1 s)

-- what goes on behind a statement
abbrev pub outer_by : Frame → Outer
outer_by (frame.If _) = outer.Other
outer_by (frame.Else _) = outer.Other
outer_by (frame.Headed _) = outer.Other
outer_by (frame.Do at) = outer.Do at
outer_by (frame.Block b) = outer.Block b

abbrev pub outer_of : Option Frame → Outer
outer_of None = outer.Other
outer_of (Some f) = outer_by f

abbrev pub until : Symbol → Place → Option (Built StatementTree) → List Frame → Next
until y at g s = if is_while y then goes (Paren (opener.Until (placed at g))) s else None

abbrev pub continues : Outer → Option (Built StatementTree) → List Frame → Terminal → Next
continues (outer.Do at) g s t = until t.symbol at g s
continues (outer.Block b) g s t = inside t.symbol (also_of b g) s t
continues outer.Other g s t = None

abbrev pub behind : Option (Built StatementTree) × List Frame → Terminal → Next
behind (g, s) t = continues (outer_of (first s)) g (drop 1 s) t

-- a token behind a statement
abbrev pub after : Symbol → Option (Built StatementTree) → List Frame → Terminal → Next
after y g s t = if is_else y then on_else (settle true g s) else behind (settle false g s) t

-- a `(`
abbrev pub opens : Opener → List Frame → Next
opens (opener.Control k at) s = waits (required.Control k at) s
opens (opener.Until p) s = waits (required.Until p) s
opens (opener.For at) s = goes (May (optional.First at)) s

abbrev pub paren : Symbol → Opener → List Frame → Next
paren y o s = if is_open_paren y then opens o s else None

-- the `;` of a statement, and the `:` of `default`
abbrev pub semicolon : Symbol → Option (Built StatementTree) → List Frame → Next
semicolon y g s = if is_semicolon y then goes (After g) s else None

abbrev pub colon : Symbol → Place → List Frame → Next
colon ColonSign at s = goes Begin (frame.Headed (Some (record { height = 0; tree = head.Default at })) ∷ s)
colon _ at s = None

abbrev pub maybe : Optional → List Frame → Terminal → Next
maybe o s t = if is_closer (closer_of (Maybe o)) t.symbol then with_optional o absent_part s else value_begins (Maybe o) s t

abbrev pub shift_mode : Mode → List Frame → Terminal → Next
shift_mode Begin s t = begins t.symbol s t
shift_mode (Items b) s t = items t.symbol b s t
shift_mode (Declaring b p) s t = declaring b s (local_offer p t)
shift_mode (After g) s t = after t.symbol g s t
shift_mode (Done g) s t = None
shift_mode (Paren o) s t = paren t.symbol o s
shift_mode (Ends g) s t = semicolon t.symbol g s
shift_mode (Colon at) s t = colon t.symbol at s
shift_mode (May o) s t = maybe o s t
shift_mode (Value p q) s t = valued p s t.symbol (offer (least_for p) q t)

-- one token more
abbrev pub shift : Reader → Terminal → Next
shift p t = shift_mode p.mode p.stack t

-- all tokens
abbrev pub run : List Terminal → Reader → Next
run [] p = Some p
run (t ∷ ts) p = elim (shift p t) [ None ↦ None | Some q ↦ run ts q ]

-- nothing was read of a block, and only its `{`
abbrev pub start_block : Reader
start_block = record { stack = []; mode = Begin }

abbrev pub begun_block : Place → Reader
begun_block at = record { stack = []; mode = Items (begun_of at) }
