use Rattle.std.proofs.Common.{◌≡◌, ◌+◌, ◌*◌, ◌++◌, map, drop}
use Rattle.c_trees.specs.Declarators.{depth}
use Rattle.c_mentions.specs.Tags.{now, in_all, in_declarator}
use Rattle.c_mentions.proofs.Measures.{parameter_depths}
use Rattle.c_mentions.proofs.tags.+tagging_declarators.Given as goal

abbrev pub decreases-in_declarator : goal.decreases-in_declarator
decreases-in_declarator l = 4 * depth l.d.now + 4

abbrev pub decreases-in_parameters : goal.decreases-in_parameters
decreases-in_parameters l = 4 * parameter_depths l.parameters.now + 3

abbrev pub decreases-in_parameter : goal.decreases-in_parameter
decreases-in_parameter l = 4 * depth l.p.now + 4

abbrev pub invariant-in_parameters-loop-parameter : goal.invariant-in_parameters-loop-parameter
invariant-in_parameters-loop-parameter l = map now l.found.items ++ in_all in_declarator (drop l.parameter-index l.parameters) ≡ map now l.initial.found.items ++ in_all in_declarator l.parameters
