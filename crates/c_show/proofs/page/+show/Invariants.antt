use Rattle.std.proofs.Common.{◌≡◌, ◌+◌, ◌*◌, ◌-◌, [], map, drop, replicate}
use Rattle.c_show.specs.Printed.{put_items, put_within}
use Rattle.c_show.specs.Seen.{seen, before_item}
use Rattle.c_show.proofs.page.+show.Given as goal

abbrev pub decreases-put_within : goal.decreases-put_within
decreases-put_within l = 3 * l.deep

abbrev pub decreases-put_items : goal.decreases-put_items
decreases-put_items l = 3 * l.deep + 1

abbrev pub decreases-put_members : goal.decreases-put_members
decreases-put_members l = 3 * l.deep + 1

abbrev pub decreases-put_array : goal.decreases-put_array
decreases-put_array l = 3 * l.deep + 2

abbrev pub decreases-put_struct : goal.decreases-put_struct
decreases-put_struct l = 3 * l.deep + 2

-- the page with the items that are left is the page with all items
abbrev pub invariant-put_items-loop-i : goal.invariant-put_items-loop-i
invariant-put_items-loop-i l =
    put_items (before_item l.i) (replicate (l.n - l.i) (put_within l.defs l.deep l.item)) (seen l.page l.leaves)
    ≡ put_items [] (replicate l.n (put_within l.defs l.deep l.item)) (seen l.initial.page l.initial.leaves)

abbrev pub invariant-put_members-loop-i : goal.invariant-put_members-loop-i
invariant-put_members-loop-i l =
    put_items (before_item l.i) (map (λ m. put_within l.defs l.deep m.ctype) (drop l.i l.members)) (seen l.page l.leaves)
    ≡ put_items [] (map (λ m. put_within l.defs l.deep m.ctype) l.members) (seen l.initial.page l.initial.leaves)
