use Rattle.std.proofs.Common.{Option}
use Rattle.ps_ops.proofs.Looking.{found_halts}
use Rattle.table_model.specs.declared.found.Found.{Found}
use Rattle.ps_ops.proofs.Calls.{led_halted}
use Rattle.ps_ops.proofs.asking.found.Goals as goal

pub returns-in-Err-clause-looks : goal.returns-in-Err-clause-looks
returns-in-Err-clause-looks g c =
    rw c.halted.ensures
    (found_halts c.args.view.now c.args.table.now (g.M.AbsMem.seen c.args.m.now) (g.M.AbsMem.seen c.find.new.m) c.args.address c.in-Err.fault c.if-address-eq0.false c.in-Err.ensures.meaning)

pub returns-in-Err-clause-calls : goal.returns-in-Err-clause-calls
returns-in-Err-clause-calls g c = rw c.halted.ensures (led_halted g.M.AbsMem.leads (Option Found) c.args.m.now c.find.new.m c.in-Err.fault c.in-Err.ensures.calls)
