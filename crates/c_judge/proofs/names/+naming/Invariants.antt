use Rattle.std.proofs.Common.{◌≡◌, ◌*◌, ◌+◌, drop}
use Rattle.c_trees.specs.Expressions.{depth}
use Rattle.c_judge.specs.Judges.{scope_of}
use Rattle.c_judge.specs.Forms.{unknown_all, unknown_bounds}
use Rattle.c_judge.proofs.Depths.{depths, bound_depths}
use Rattle.c_judge.proofs.names.+naming.Given as goal

abbrev pub decreases-unknown : goal.decreases-unknown
decreases-unknown l = 4 * depth l.e.now + 4

abbrev pub decreases-unknown_two : goal.decreases-unknown_two
decreases-unknown_two l = 4 * (depth l.a.now + depth l.b.now) + 5

abbrev pub decreases-unknown_among : goal.decreases-unknown_among
decreases-unknown_among l = 4 * depths l.args.now + 3

abbrev pub decreases-unknown_in : goal.decreases-unknown_in
decreases-unknown_in l = 4 * depth l.d.now + 3

abbrev pub decreases-unknown_bounds : goal.decreases-unknown_bounds
decreases-unknown_bounds l = 4 * bound_depths l.bounds.now + 2

abbrev pub invariant-unknown_among-loop-arg : goal.invariant-unknown_among-loop-arg
invariant-unknown_among-loop-arg l = unknown_all (scope_of l.v) (drop l.arg-index l.args) ≡ unknown_all (scope_of l.v) l.args

abbrev pub invariant-unknown_bounds-loop-bound : goal.invariant-unknown_bounds-loop-bound
invariant-unknown_bounds-loop-bound l = unknown_bounds (scope_of l.v) (drop l.bound-index l.bounds) ≡ unknown_bounds (scope_of l.v) l.bounds
