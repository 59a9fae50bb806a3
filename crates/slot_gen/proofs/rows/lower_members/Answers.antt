use Rattle.std.proofs.Common.{◌∙◌, ap}
use Rattle.std.specs.Prelude.{map}
use Rattle.std.proofs.lemmas.List.{take_all}
use Rattle.slot_gen.specs.Rows.{member_of}
use Rattle.slot_gen.proofs.Begun.{members_more}
use Rattle.slot_gen.proofs.rows.lower_members.Goals as goal

pub loop-member-preserved : goal.loop-member-preserved
loop-member-preserved c = members_more _ _ c.args.members.now c.loop-member.member-index _ _ c.loop-member-test.true c.member-item.is c.in_ok-lower_member.ensures c.loop-member.invariant c.in_ok-push.ensures.items

pub returns : goal.returns
returns c = c.from_vec.ensures ∙ c.loop-member.invariant ∙ ap (map member_of) (take_all _ _ c.loop-member-test.false)
