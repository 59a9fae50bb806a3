use Rattle.std.proofs.Common.{◌≡◌, map, drop}
use Rattle.c_struct.specs.Structs.{written, same_members}
use Rattle.c_struct.specs.Opened.{written_member}
use Rattle.c_struct.proofs.members.same_members.Given as goal

abbrev pub invariant-loop-i : goal.invariant-loop-i
invariant-loop-i l = same_members (map written (drop l.i l.members)) (map written_member (drop l.i l.others)) ≡ same_members (map written l.members) (map written_member l.others)
