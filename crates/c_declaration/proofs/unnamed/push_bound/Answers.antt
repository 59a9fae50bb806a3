use Rattle.std.proofs.Common.{sym, ◌∙◌, ap}
use Rattle.c_trees.specs.Expressions.{behind_stars, bound_behind, with_bounds}
use Rattle.c_declaration.proofs.Pushed.{one_more_bound}
use Rattle.c_declaration.proofs.unnamed.push_bound.Goals as goal

pub returns : goal.returns
returns c =
    let d = behind_stars (λ b. b.value) c.declarator.inside.stars c.declarator.inside.inner in
    ap (with_bounds d) c.in_ok-push.ensures.items
    ∙ one_more_bound d c.declarator.inside.bounds.items c.args.bound
    ∙ ap (λ t. bound_behind t c.args.bound) c.declarator.view_is
