use Rattle.std.proofs.Common.{◌*◌, ◌+◌}
use Rattle.c_trees.specs.Initializers.{depth}
use Rattle.c_typing.specs.Plain.{plain}
use Rattle.c_scope.specs.Here.{environment_of}
use Rattle.c_initial.specs.Starts.{given_of}
use Rattle.c_mentions.proofs.Measures.{item_depths}
use Rattle.c_initial.proofs.Braced.{AreAdded}
use Rattle.c_initial.proofs.starting.+starting.Given as goal

abbrev pub decreases-add_initial : goal.decreases-add_initial
decreases-add_initial l = 4 * depth l.i.now + 5

abbrev pub decreases-add_items : goal.decreases-add_items
decreases-add_items l = 4 * item_depths l.items.now + 3

abbrev pub decreases-add_list : goal.decreases-add_list
decreases-add_list l = 4 * item_depths l.items.now + 4

abbrev pub decreases-add_item : goal.decreases-add_item
decreases-add_item l = 4 * depth l.item.now + 6

-- some items are added, and the others are left
abbrev pub invariant-add_items-loop-k : goal.invariant-add_items-loop-k
invariant-add_items-loop-k l = AreAdded (environment_of l.here) (plain l.t) l.fn.at l.items l.k l.first (given_of l.initial.out) (given_of l.out)
