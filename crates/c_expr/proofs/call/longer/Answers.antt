use Rattle.std.proofs.Common.{ℕ, suc, ◌+◌, max, nat_lt, Option, Some, sym, ◌∙◌, ap, ap₂, le-leb}
use Rattle.c_trees.specs.Expressions.{Tree, Call, With, with_arguments}
use Rattle.c_expr.specs.declared.grown.Built.{Built}
use Rattle.c_expr.proofs.Pieces.{if_true}
use Rattle.c_expr.proofs.Pushed.{one_more_argument}
use Rattle.c_expr.proofs.call.longer.Goals as goal

pub returns-then-argument : goal.returns-then-argument
returns-then-argument c =
    let made : Tree → ℕ → Option Built = λ t h. Some (record { height = h; expr = t }) in
    let f : Tree = Call c.call.inside.place c.call.inside.callee.value in
    let tree_of : Built → Tree = λ b. b.expr in
    let height_of : Built → ℕ = λ b. b.height in
    ap₂ made
    (ap (with_arguments f) c.in_ok-push.ensures.items
    ∙ one_more_argument f c.call.inside.arguments.items c.into_inner.result
    ∙ ap (λ t. With t c.into_inner.result) (ap tree_of c.call.view_is)
    ∙ ap (With c.args.call.expr) c.into_inner.ensures)
    (c.greater.ensures ∙ ap (λ h. max h (c.args.argument.height + 2)) (ap height_of c.call.view_is))
    ∙ sym (if_true (nat_lt c.args.argument.height 63) _ _ (le-leb (suc c.args.argument.height) 63 c.if-argument.true))
