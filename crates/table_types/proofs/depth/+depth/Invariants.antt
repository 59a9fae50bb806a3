use Rattle.std.proofs.Common.{◌≡◌, ◌+◌, ◌*◌, drop}
use Rattle.table_model.specs.Types.{is_within, each_part}
use Rattle.table_types.proofs.depth.+depth.Given as goal

abbrev pub decreases-check_within : goal.decreases-check_within
decreases-check_within l = 2 * l.deep

abbrev pub decreases-check_members : goal.decreases-check_members
decreases-check_members l = 2 * l.deep + 1

-- what is left decides
abbrev pub invariant-check_members-loop-object : goal.invariant-check_members-loop-object
invariant-check_members-loop-object l =
    each_part l.store (λ m. is_within l.store l.deep m) (drop l.object-index l.members) ≡ each_part l.store (λ m. is_within l.store l.deep m) l.members
