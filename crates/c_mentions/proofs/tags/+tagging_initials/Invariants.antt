use Rattle.std.proofs.Common.{◌≡◌, ◌+◌, ◌*◌, ◌++◌, map, drop}
use Rattle.c_trees.specs.Initializers.{depth}
use Rattle.c_mentions.specs.Tags.{now, in_all, in_initial}
use Rattle.c_mentions.proofs.Measures.{item_depths}
use Rattle.c_mentions.proofs.tags.+tagging_initials.Given as goal

abbrev pub decreases-in_initial : goal.decreases-in_initial
decreases-in_initial l = 4 * depth l.i.now + 4

abbrev pub decreases-in_items : goal.decreases-in_items
decreases-in_items l = 4 * item_depths l.items.now + 3

abbrev pub invariant-in_items-loop-item : goal.invariant-in_items-loop-item
invariant-in_items-loop-item l = map now l.found.items ++ in_all in_initial (drop l.item-index l.items) ≡ map now l.initial.found.items ++ in_all in_initial l.items
