use Rattle.std.proofs.Common.{◌+◌, ◌∷◌, drop, sym, ap, ◌∙◌}
use Rattle.std.proofs.lemmas.List.{drop_more}
use Rattle.ps_step.proofs.stack.Stack.at.Goals as goal

pub returns-clause-next : goal.returns-clause-next
returns-clause-next g c =
    let xs = c.args.self.now in
    drop_more xs c.args.depth c.item.result c.requires ∙ ap (λ x. x ∷ drop (c.args.depth + 1) xs) (sym (c.item.ensures c.item.result))
