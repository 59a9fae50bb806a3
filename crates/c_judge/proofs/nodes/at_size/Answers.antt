use Rattle.std.proofs.Common.{subst}
use Rattle.c_typing.specs.Plain.{plain}
use Rattle.c_judge.specs.Answers.{Known}
use Rattle.c_judge.specs.Judgement.{declared, spec_type}
use Rattle.c_judge.specs.Judges.{scope_of, Gives}
use Rattle.c_judge.proofs.Made.{size_judges, size_fails}
use Rattle.c_judge.proofs.nodes.at_size.Goals as goal

pub returns-in-Ok : goal.returns-in-Ok
returns-in-Ok c = λ s d h. let v = scope_of c.args.v.now in size_judges v c.args.at s d c.in-Ok.t c.size_of_type.result (subst (Gives plain (declared v c.args.at.at d (Known (spec_type v s)))) c.in-Ok.is h) (rw c.defs.ensures at c.size_of_type.ensures)

pub returns-in-Err : goal.returns-in-Err
returns-in-Err c = λ s d h. let v = scope_of c.args.v.now in size_fails v c.args.at s d c.in-Err.f (subst (Gives plain (declared v c.args.at.at d (Known (spec_type v s)))) c.in-Err.is h)
