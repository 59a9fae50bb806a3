use Rattle.std.proofs.Common.{◌≡◌, drop}
use Rattle.c_defs.specs.Depths.{are_within}
use Rattle.c_defs.specs.Kept.{is_settled}
use Rattle.c_defs.proofs.rows.are_settled.Given as goal

abbrev pub invariant-loop-member : goal.invariant-loop-member
invariant-loop-member l = are_within (is_settled l.rows) (drop l.member-index l.members) ≡ are_within (is_settled l.rows) l.members
