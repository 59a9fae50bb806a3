use Rattle.std.proofs.Common.{◌≡◌, ◌+◌, ◌*◌, ◌<◌, ◌≤◌, drop}
use Rattle.table_model.specs.Types.{is_within, each_part}
use Rattle.asking.proofs.parts.+parts.Given as goal

abbrev pub decreases-parts_left : goal.decreases-parts_left
decreases-parts_left l = 2 * l.deep

abbrev pub decreases-members_left : goal.decreases-members_left
decreases-members_left l = 2 * l.deep + 1

-- what is left of the members decides, unless the walk is given up
abbrev pub invariant-members_left-loop-object : goal.invariant-members_left-loop-object
invariant-members_left-loop-object l = record {
  fits : l.rest ≤ 4294967295;
  decides : 0 < l.rest → each_part l.store (λ m. is_within l.store l.deep m) (drop l.object-index l.members) ≡ each_part l.store (λ m. is_within l.store l.deep m) l.members;
}
