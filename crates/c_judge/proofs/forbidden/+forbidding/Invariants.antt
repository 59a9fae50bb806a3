use Rattle.std.proofs.Common.{◌≡◌, ◌*◌, ◌+◌, drop}
use Rattle.c_trees.specs.Expressions.{depth}
use Rattle.c_judge.specs.Forms.{forbidden_bounds}
use Rattle.c_judge.proofs.Depths.{bound_depths}
use Rattle.c_judge.proofs.forbidden.+forbidding.Given as goal

abbrev pub decreases-forbidden : goal.decreases-forbidden
decreases-forbidden l = 4 * depth l.e.now + 4

abbrev pub decreases-forbidden_two : goal.decreases-forbidden_two
decreases-forbidden_two l = 4 * (depth l.a.now + depth l.b.now) + 5

abbrev pub decreases-forbidden_declarator : goal.decreases-forbidden_declarator
decreases-forbidden_declarator l = 4 * depth l.d.now + 3

abbrev pub decreases-forbidden_bounds : goal.decreases-forbidden_bounds
decreases-forbidden_bounds l = 4 * bound_depths l.bounds.now + 2

abbrev pub invariant-forbidden_bounds-loop-bound : goal.invariant-forbidden_bounds-loop-bound
invariant-forbidden_bounds-loop-bound l = forbidden_bounds (drop l.bound-index l.bounds) ≡ forbidden_bounds l.bounds
