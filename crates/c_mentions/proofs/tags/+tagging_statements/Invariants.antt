use Rattle.std.proofs.Common.{◌≡◌, ◌+◌, ◌*◌, ◌++◌, map, drop}
use Rattle.c_trees.specs.Statements.{depth}
use Rattle.c_mentions.specs.Tags.{now, in_all, in_statement}
use Rattle.c_mentions.proofs.Measures.{statement_depths}
use Rattle.c_mentions.proofs.tags.+tagging_statements.Given as goal

abbrev pub decreases-in_statement : goal.decreases-in_statement
decreases-in_statement l = 4 * depth l.s.now + 4

abbrev pub decreases-in_headed : goal.decreases-in_headed
decreases-in_headed l = 4 * depth l.s.now + 5

abbrev pub decreases-in_statements : goal.decreases-in_statements
decreases-in_statements l = 4 * statement_depths l.statements.now + 3

abbrev pub invariant-in_statements-loop-statement : goal.invariant-in_statements-loop-statement
invariant-in_statements-loop-statement l = map now l.found.items ++ in_all in_statement (drop l.statement-index l.statements) ≡ map now l.initial.found.items ++ in_all in_statement l.statements
