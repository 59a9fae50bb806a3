use Rattle.std.proofs.Common.{◌≡◌, ◌≤◌, ◌*◌, ◌+◌, ℕ, drop, nat_le, ◌&&◌}
use Rattle.c_defs.specs.Depths.{is_within, are_within}
use Rattle.c_defs.proofs.depths.+depth.Given as goal

abbrev pub decreases-depth : goal.decreases-depth
decreases-depth l = 3 * l.deep

abbrev pub decreases-struct_depth : goal.decreases-struct_depth
decreases-struct_depth l = 3 * l.deep + 2

abbrev pub decreases-deepest : goal.decreases-deepest
decreases-deepest l = 3 * l.deep + 1

abbrev pub invariant-deepest-loop-member : goal.invariant-deepest-loop-member
invariant-deepest-loop-member l = record {
  most : l.deepest ≤ l.deep;
  within : (n : ℕ) → n ≤ l.deep → are_within (is_within l.defs n) l.members ≡ (nat_le l.deepest n && are_within (is_within l.defs n) (drop l.member-index l.members));
}
