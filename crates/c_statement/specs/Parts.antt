-- Parts of statements with their heights, kept where they are at most 64 high.
use Rattle.std.specs.Prelude.{ℕ, ◌+◌, max, nat_lt, if◌then◌else◌, Option, Some, None}
use Rattle.c_lex.specs.declared.token.Place.{Place}
use Rattle.c_trees.specs.Expressions.{Tree}
use Rattle.c_expr.specs.declared.grown.Built.{Built as BuiltExpr}
use Rattle.c_declaration.specs.declared.built.Built.{Built}
use Rattle.c_trees.specs.declared.declaration.Local.{Local}
use Rattle.c_trees.specs.declared.statement.Head.{Head}
use Rattle.c_trees.specs.declared.statement.Head.TheVariants as head
use Rattle.c_trees.specs.Statements.{StatementTree, Empty, Evaluate, Begun, Declares, Also, Closed, If, IfElse, Headed, Do, Break, Continue, Return}

-- the same parts, otherwise put together
abbrev pub kept : {A B : Type 0} → (A → B) → Option (Built A) → Option (Built B)
kept f None = None
kept f (Some a) = Some (record { height = a.height; tree = f a.tree })

-- parts of a tree that is one higher
abbrev pub taller : {T : Type 0} → Option (Built T) → Option (Built T)
taller None = None
taller (Some a) = if nat_lt a.height 64 then Some (record { height = a.height + 1; tree = a.tree }) else None

-- two parts of one tree
abbrev pub paired : {A B : Type 0} → Option (Built A) → Option (Built B) → Option (Built (A × B))
paired None b = None
paired (Some a) None = None
paired (Some a) (Some b) = Some (record { height = max a.height b.height; tree = (a.tree, b.tree) })

abbrev pub expr_part : Option BuiltExpr → Option (Built Tree)
expr_part None = None
expr_part (Some e) = Some (record { height = e.height; tree = e.expr })

-- an expression where one may be absent
abbrev pub absent_part : Option (Built (Option Tree))
absent_part = Some (record { height = 0; tree = None })

abbrev pub present_part : Option (Built Tree) → Option (Built (Option Tree))
present_part e = kept Some e

abbrev pub statement_part : StatementTree → Option (Built StatementTree)
statement_part s = Some (record { height = 1; tree = s })

abbrev pub evaluate_of : Option (Built Tree) → Option (Built StatementTree)
evaluate_of e = kept Evaluate (taller e)

abbrev pub return_of : Place → Option (Built (Option Tree)) → Option (Built StatementTree)
return_of at e = kept (Return at) (taller e)

-- a controlling expression and the place of its keyword
abbrev pub placed : {T : Type 0} → Place → Option (Built T) → Option (Built (Place × T))
placed at e = kept (λ x. (at, x)) e

abbrev pub if_of : Option (Built (Place × Tree)) → Option (Built StatementTree) → Option (Built StatementTree)
if_of p s = kept (λ x. If x.0.0 x.0.1 x.1) (taller (paired p s))

abbrev pub if_else_of : Option (Built ((Place × Tree) × StatementTree)) → Option (Built StatementTree) → Option (Built StatementTree)
if_else_of p s = kept (λ x. IfElse x.0.0.0 x.0.0.1 x.0.1 x.1) (taller (paired p s))

abbrev pub headed_of : Option (Built Head) → Option (Built StatementTree) → Option (Built StatementTree)
headed_of h s = kept (λ x. Headed x.0 x.1) (taller (paired h s))

abbrev pub do_of : Option (Built (Place × StatementTree)) → Option (Built Tree) → Option (Built StatementTree)
do_of p e = kept (λ x. Do x.0.0 x.0.1 x.1) (taller (paired p e))

abbrev pub for_of : Option (Built ((Place × Option Tree) × Option Tree)) → Option (Built (Option Tree)) → Option (Built Head)
for_of p e = kept (λ x. head.For x.0.0.0 x.0.0.1 x.0.1 x.1) (paired p e)

-- a block so far: only its `{`, with one declaration or statement more, and with its `}`
abbrev pub begun_of : Place → Option (Built StatementTree)
begun_of at = Some (record { height = 0; tree = Begun at })

abbrev pub declares_of : Option (Built StatementTree) → Option (Built Local) → Option (Built StatementTree)
declares_of b l = kept (λ x. Declares x.0 x.1) (paired b (taller l))

abbrev pub also_of : Option (Built StatementTree) → Option (Built StatementTree) → Option (Built StatementTree)
also_of b s = kept (λ x. Also x.0 x.1) (paired b (taller s))

abbrev pub closed_of : Option (Built StatementTree) → Place → Option (Built StatementTree)
closed_of b at = kept (λ x. Closed x at) (taller b)
