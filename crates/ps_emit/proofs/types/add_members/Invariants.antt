use Rattle.std.proofs.Common.{◌≡◌, ◌++◌, drop}
use Rattle.ps_text.specs.Code.{render}
use Rattle.ps_emit.specs.Types.{each_member}
use Rattle.ps_emit.proofs.types.add_members.Given as goal

abbrev pub invariant-loop-member : goal.invariant-loop-member
invariant-loop-member l = l.text ++ render (each_member (drop l.member-index l.members)) ≡ l.initial.text ++ render (each_member l.members)
