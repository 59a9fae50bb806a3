use Rattle.std.proofs.Common.{◌≡◌, ◌+◌, ◌*◌, ◌-◌, drop}
use Rattle.table_types.specs.Offsets.{items_live, members_live, type_live}
use Rattle.table_types.proofs.live.+live.Given as goal

abbrev pub decreases-live_within : goal.decreases-live_within
decreases-live_within l = 3 * l.deep

abbrev pub decreases-live_from : goal.decreases-live_from
decreases-live_from l = 3 * l.deep + 1

abbrev pub decreases-items_live : goal.decreases-items_live
decreases-items_live l = 3 * l.deep + 2

abbrev pub decreases-members_live : goal.decreases-members_live
decreases-members_live l = 3 * l.deep + 2

-- what is left decides
abbrev pub invariant-items_live-loop : goal.invariant-items_live-loop
invariant-items_live-loop l =
    items_live (λ j. type_live l.store l.found l.deep l.item j) (l.count - l.counter) l.size l.next ≡ items_live (λ j. type_live l.store l.found l.deep l.item j) l.count l.size l.at

abbrev pub invariant-members_live-loop-object : goal.invariant-members_live-loop-object
invariant-members_live-loop-object l =
    members_live l.store (λ m j. type_live l.store l.found l.deep m j) l.at (drop l.object-index l.members) ≡ members_live l.store (λ m j. type_live l.store l.found l.deep m j) l.at l.members
