use Rattle.std.proofs.Common.{sym}
use Rattle.c_judge.specs.Judges.{scope_of}
use Rattle.c_judge.proofs.Wholes.{out_checks}
use Rattle.c_judge.proofs.check.check_in.Goals as goal

pub returns-in-Some : goal.returns-in-Some
returns-in-Some c = out_checks (scope_of c.args.v.now) c.args.mode c.args.e.now c.in-Some.name.now c.out_of_scope.result c.out_of_scope.ensures (sym c.in-Some.ensures)
