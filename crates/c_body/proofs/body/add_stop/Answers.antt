use Rattle.c_body.proofs.EndedBodies.{one_stop}
use Rattle.c_body.proofs.body.add_stop.Goals as goal

pub returns-in-Ok-clause-ok : goal.returns-in-Ok-clause-ok
returns-in-Ok-clause-ok c =
    one_stop c.args.walk.now c.push.new.self.items (record { line = c.args.at.line; column = c.args.at.column; symbol = c.innermost.result }) c.args.at c.in-Ok.ensures.items
    (λ i. record { line = c.args.at.line; column = c.args.at.column; symbol = c.innermost.ensures i })
