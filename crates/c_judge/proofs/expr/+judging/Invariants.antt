use Rattle.std.proofs.Common.{◌≤◌, ◌*◌, ◌+◌, ◌-◌, take, drop, length}
use Rattle.c_trees.specs.Expressions.{Call, depth, with_arguments}
use Rattle.c_typing.specs.Plain.{Plain}
use Rattle.c_judge.specs.Answers.{Answer}
use Rattle.c_judge.specs.Bounds.{all_bounds}
use Rattle.c_judge.specs.Calls.{Gathers}
use Rattle.c_judge.specs.Judges.{Denotes, scope_of}
use Rattle.c_judge.proofs.Depths.{bound_depth, bound_depths, depths}
use Rattle.c_judge.proofs.expr.+judging.Given as goal

abbrev pub decreases-judge : goal.decreases-judge
decreases-judge l = 8 * depth l.e.now + 4

abbrev pub decreases-written_type : goal.decreases-written_type
decreases-written_type l = 8 * depth l.name.now.declarator + 6

abbrev pub decreases-declared : goal.decreases-declared
decreases-declared l = 8 * depth l.d.now + 3

abbrev pub decreases-within_bounds : goal.decreases-within_bounds
decreases-within_bounds l = 8 * bound_depths l.bounds.now + 2

abbrev pub decreases-gathered : goal.decreases-gathered
decreases-gathered l = 8 * (depth l.f.now + depths l.arguments.now) + 7

abbrev pub decreases-one_bound : goal.decreases-one_bound
decreases-one_bound l = 8 * bound_depth l.bound.now + 1

abbrev pub decreases-callee : goal.decreases-callee
decreases-callee l = 8 * depth l.f.now + 5

abbrev pub invariant-gathered-gathering : goal.invariant-gathered-gathering
invariant-gathered-gathering l = record {
  inside : l.i ≤ length l.arguments;
  gathers : Gathers (scope_of l.v) (length l.arguments) (with_arguments (Call l.fn.at l.f) (take l.i l.arguments)) l.calling;
}

abbrev pub decreases-gathered-gathering : goal.decreases-gathered-gathering
decreases-gathered-gathering l = length l.arguments - l.i

abbrev pub invariant-within_bounds-bounding : goal.invariant-within_bounds-bounding
invariant-within_bounds-bounding l = record {
  inside : l.i ≤ length l.bounds;
  typed : (j : Answer Plain) → Denotes j l.fn.t → Denotes (all_bounds (scope_of l.v) l.at (drop l.i l.bounds) j) l.t;
}

abbrev pub decreases-within_bounds-bounding : goal.decreases-within_bounds-bounding
decreases-within_bounds-bounding l = l.i
