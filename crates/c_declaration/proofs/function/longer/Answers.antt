use Rattle.std.proofs.Common.{◌≡◌, ℕ, suc, ◌+◌, max, nat_lt, Option, Some, sym, ◌∙◌, ap, ap₂, le-leb}
use Rattle.c_trees.specs.Declarators.{DeclaratorTree, Function, Taking, with_parameters}
use Rattle.c_declaration.specs.declared.built.Built.{Built}
use Rattle.c_declaration.proofs.Pieces.{if_true}
use Rattle.c_declaration.proofs.Pushed.{one_more_parameter}
use Rattle.c_declaration.proofs.function.longer.Goals as goal

pub returns-then-parameter : goal.returns-then-parameter
returns-then-parameter c =
    let made : DeclaratorTree → ℕ → Option (Built DeclaratorTree) = λ t h. Some (record { height = h; tree = t }) in
    let f : DeclaratorTree = Function c.function.inside.place c.function.inside.declarator.value in
    let tree_of : Built DeclaratorTree → DeclaratorTree = λ b. b.tree in
    let height_of : Built DeclaratorTree → ℕ = λ b. b.height in
    ap₂ made
    (ap (with_parameters f) c.in_ok-push.ensures.items
    ∙ one_more_parameter f c.function.inside.parameters.items c.args.parameter.tree
    ∙ ap (λ t. Taking t c.args.parameter.tree) (ap tree_of c.function.view_is))
    (c.greater.ensures ∙ ap (λ h. max h (c.args.parameter.height + 2)) (ap height_of c.function.view_is))
    ∙ sym (if_true (nat_lt c.args.parameter.height 63) _ _ (le-leb (suc c.args.parameter.height) 63 c.if-parameter.true))
