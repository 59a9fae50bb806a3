use Rattle.std.proofs.Common.{◌≡◌, ◌+◌, ◌*◌}
use Rattle.ps_store.specs.Store.{closed_part}
use Rattle.evaluating.proofs.dressing.+dressing.Given as goal

abbrev pub decreases-dress : goal.decreases-dress
decreases-dress l = 3 * l.deep + 1

abbrev pub decreases-dress_struct : goal.decreases-dress_struct
decreases-dress_struct l = 3 * l.deep

abbrev pub decreases-dress_member : goal.decreases-dress_member
decreases-dress_member l = 3 * l.deep + 2

abbrev pub invariant-dress_struct-loop-member : goal.invariant-dress_struct-loop-member
invariant-dress_struct-loop-member l = closed_part l.store ≡ closed_part l.initial.store
