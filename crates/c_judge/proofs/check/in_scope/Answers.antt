use Rattle.std.proofs.Common.{subst}
use Rattle.c_judge.specs.Judgement.{judged}
use Rattle.c_judge.specs.Judges.{IsFault, scope_of}
use Rattle.c_judge.proofs.Visible.{none_unknown}
use Rattle.c_judge.proofs.check.in_scope.Goals as goal

pub returns-in-Ok : goal.returns-in-Ok
returns-in-Ok c = c.accepted.ensures (scope_of c.args.v.now) c.requires c.in-Ok.ensures

pub unreachable-requires : goal.unreachable-requires
unreachable-requires c =
    let v = scope_of c.args.v.now in
    none_unknown v c.args.e.now c.in-Err-Unknown.field-0-0 c.requires (subst (IsFault (judged v c.args.e.now)) c.in-Err-Unknown.field-0-is c.in-Err-Unknown.ensures)
