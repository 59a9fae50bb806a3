use Rattle.std.proofs.Common.{sym, ◌∙◌, ap}
use Rattle.c_trees.specs.Statements.{Begun, Declares, with_locals}
use Rattle.c_statement.proofs.Pushed.{one_more_local}
use Rattle.c_statement.proofs.block.Opened.with_local.Goals as goal

pub returns : goal.returns
returns c =
    let b = Begun c.self.inside.place in
    ap (with_locals b) c.in_ok-push.ensures.ok
    ∙ one_more_local b c.self.inside.locals c.args.local
    ∙ ap (λ t. Declares t c.args.local) c.self.view_is
