use Rattle.std.proofs.Common.{◌≡◌, map, take}
use Rattle.expr_serve.specs.Serving.{member_as}
use Rattle.expr_serve.proofs.serving.copied_members.Given as goal

abbrev pub invariant-loop-member : goal.invariant-loop-member
invariant-loop-member l = map member_as l.copies ≡ map member_as (take l.member-index l.members)
