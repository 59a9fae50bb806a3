use Rattle.std.proofs.Common.{◌≡◌}
use Rattle.c_typing.specs.Plain.{plain}
use Rattle.c_judge.specs.Judgement.{pointers}
use Rattle.c_judge.proofs.limits.pointers.Given as goal

-- what is left to do gives what was to be given
abbrev pub invariant-pointing : goal.invariant-pointing
invariant-pointing l = pointers l.defs l.at l.left (plain l.t) ≡ pointers l.defs l.at l.fn.n (plain l.fn.t)

abbrev pub decreases-pointing : goal.decreases-pointing
decreases-pointing l = l.left
