use Rattle.std.proofs.Common.{subst}
use Rattle.ldb_top.specs.Why.{IsTableStop}
use Rattle.ldb_top.proofs.opening.Sides.add.Goals as goal

pub returns-in-Err-clause-told : goal.returns-in-Err-clause-told
returns-in-Err-clause-told c =
    subst (λ t. IsTableStop t c.args.table.now c.bad_table.result) c.target.ensures.value (c.bad_table.ensures.told c.args.table.now c.target.result c.in-Err.ensures.comes)
