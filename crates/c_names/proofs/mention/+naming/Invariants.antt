use Rattle.std.proofs.Common.{◌≡◌, ◌+◌, ◌*◌, ◌++◌, drop}
use Rattle.c_trees.specs.Expressions.{depth}
use Rattle.c_names.specs.Mentions.{mentions, in_all, in_part}
use Rattle.c_names.proofs.Measures.{argument_depths, bound_depths, bound_depth}
use Rattle.c_names.proofs.mention.+naming.Given as goal

abbrev pub decreases-in_tree : goal.decreases-in_tree
decreases-in_tree l = 4 * depth l.e.now + 4

abbrev pub decreases-in_two : goal.decreases-in_two
decreases-in_two l = 4 * (depth l.a.now + depth l.b.now) + 5

abbrev pub decreases-in_arguments : goal.decreases-in_arguments
decreases-in_arguments l = 4 * argument_depths l.arguments.now + 3

abbrev pub decreases-in_type : goal.decreases-in_type
decreases-in_type l = 4 * depth l.name.now.declarator + 4

abbrev pub decreases-in_abstract : goal.decreases-in_abstract
decreases-in_abstract l = 4 * depth l.d.now + 3

abbrev pub decreases-in_bounds : goal.decreases-in_bounds
decreases-in_bounds l = 4 * bound_depths l.bounds.now + 2

abbrev pub decreases-in_part : goal.decreases-in_part
decreases-in_part l = 4 * bound_depth l.part.now + 1

abbrev pub invariant-in_arguments-loop-argument : goal.invariant-in_arguments-loop-argument
invariant-in_arguments-loop-argument l = l.found.items ++ in_all mentions (drop l.argument-index l.arguments) ≡ l.initial.found.items ++ in_all mentions l.arguments

abbrev pub invariant-in_bounds-loop-bound : goal.invariant-in_bounds-loop-bound
invariant-in_bounds-loop-bound l = l.found.items ++ in_all (in_part mentions) (drop l.bound-index l.bounds) ≡ l.initial.found.items ++ in_all (in_part mentions) l.bounds
