use Rattle.std.proofs.Common.{subst, sym}
use Rattle.c_typing.specs.Plain.{plain}
use Rattle.c_judge.specs.Judgement.{pointers}
use Rattle.c_judge.specs.Judges.{Gives}
use Rattle.c_judge.proofs.Faults.{then_fails, then_gives}
use Rattle.c_judge.proofs.nodes.starred.Goals as goal

pub returns-in-Ok : goal.returns-in-Ok
returns-in-Ok c = λ j h. subst (λ w. Gives plain w c.pointers.result) (sym (then_gives j (plain c.in-Ok.t) (pointers c.args.defs.now c.args.at c.args.n) (subst (Gives plain j) c.in-Ok.is h))) c.pointers.ensures

pub returns-in-Err : goal.returns-in-Err
returns-in-Err c = λ j h. then_fails j (pointers c.args.defs.now c.args.at c.args.n) c.in-Err.f (subst (Gives plain j) c.in-Err.is h)
