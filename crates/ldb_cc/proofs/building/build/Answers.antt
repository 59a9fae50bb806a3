use Rattle.ldb_cc.proofs.Made.{made}
use Rattle.ldb_cc.proofs.building.build.Goals as goal

pub returns : goal.returns
returns c = made c.args.aim c.args.program.now c.in_ok-code.code c.in_ok-object.object _ _ c.in_ok-code.ensures.rows c.in_ok-code.ensures.formed c.in_ok-code.ensures.runs c.in_ok-code.ensures.pointers c.in_ok-object.ensures c.in_ok-image.ensures
