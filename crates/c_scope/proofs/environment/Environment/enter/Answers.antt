use Rattle.std.proofs.Common.{arith}
use Rattle.c_scope.proofs.Rowing.{rows_length}
use Rattle.c_scope.proofs.environment.Environment.enter.Goals as goal

pub returns-clause-bounded : goal.returns-clause-bounded
returns-clause-bounded c =
    let t = c.args.self.now.table in
    let a = c.begin.ensures.aligned in
    let e = rows_length t.symbols t.parameters t.links a.parameters a.links in
    let b = c.begin.ensures.bounded in
    omega (arith, e, b)
