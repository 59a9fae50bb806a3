use Rattle.std.proofs.Common.{sym, ◌∙◌, ap}
use Rattle.c_trees.specs.Statements.{Begun, Also, with_locals, with_statements}
use Rattle.c_statement.proofs.Pushed.{one_more_statement}
use Rattle.c_statement.proofs.block.Block.with_statement.Goals as goal

pub returns : goal.returns
returns c =
    let b = with_locals (Begun c.self.inside.place) c.self.inside.locals in
    ap (with_statements b) c.in_ok-push.ensures.items
    ∙ one_more_statement b c.self.inside.statements.items c.args.statement
    ∙ ap (λ t. Also t c.args.statement) c.self.view_is
