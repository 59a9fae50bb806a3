use Rattle.std.proofs.Common.{◌≡◌, ◌*◌, ◌+◌, drop, [], map}
use Rattle.c_trees.specs.Declarators.{depth}
use Rattle.c_scope.specs.Gathered.{gathered}
use Rattle.c_scope.specs.Here.{environment_of}
use Rattle.c_scope.specs.Shapes.{parameter_of}
use Rattle.c_scope.proofs.Applied.{depths}
use Rattle.c_scope.proofs.shaping.+shaping.Given as goal

abbrev pub decreases-shape : goal.decreases-shape
decreases-shape l = 8 * depth l.d.now + 2

abbrev pub decreases-at_pointers : goal.decreases-at_pointers
decreases-at_pointers l = 8 * depth l.d.now + 3

abbrev pub decreases-at_array : goal.decreases-at_array
decreases-at_array l = 8 * depth l.d.now + 3

abbrev pub decreases-at_function : goal.decreases-at_function
decreases-at_function l = 8 * (depth l.d.now + 1 + depths l.ps.now) + 1

abbrev pub decreases-parameters : goal.decreases-parameters
decreases-parameters l = 8 * depths l.ps.now + 1

abbrev pub decreases-with_taken : goal.decreases-with_taken
decreases-with_taken l = 8 * depth l.p.now + 7

abbrev pub decreases-taken : goal.decreases-taken
decreases-taken l = 8 * depth l.p.now + 6

abbrev pub decreases-taken_named : goal.decreases-taken_named
decreases-taken_named l = 8 * depth l.d.now + 5

abbrev pub invariant-parameters-loop-p : goal.invariant-parameters-loop-p
invariant-parameters-loop-p l = gathered (environment_of l.here) (map parameter_of l.taken.items) (drop l.p-index l.ps) ≡ gathered (environment_of l.here) [] l.ps
