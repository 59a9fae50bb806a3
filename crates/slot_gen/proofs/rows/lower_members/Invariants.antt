use Rattle.std.proofs.Common.{◌≡◌, take}
use Rattle.std.specs.Prelude.{map}
use Rattle.slot_gen.specs.Rows.{member_of}
use Rattle.slot_gen.proofs.rows.lower_members.Given as goal

abbrev pub invariant-loop-member : goal.invariant-loop-member
invariant-loop-member l = l.rows.items ≡ map member_of (take l.member-index l.members)
