use Rattle.c_check.proofs.Checked.{made_finished, fault_told}
use Rattle.c_check.proofs.program.finished.Goals as goal

pub returns-in-Ok : goal.returns-in-Ok
returns-in-Ok c = made_finished c.args.units c.args.names.now c.args.state c.made.result c.in-Ok.ensures c.made.ensures

pub returns-in-Err : goal.returns-in-Err
returns-in-Err c = fault_told c.args.units c.args.names.now c.args.state c.in-Err.f c.in-Err.ensures
