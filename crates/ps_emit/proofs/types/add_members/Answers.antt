use Rattle.std.proofs.Common.{refl, sym, ◌∙◌}
use Rattle.ps_emit.specs.Types.{member_code, each_member}
use Rattle.ps_emit.proofs.Followed.{one_more, none_left}
use Rattle.ps_emit.proofs.types.add_members.Goals as goal

pub loop-member-preserved : goal.loop-member-preserved
loop-member-preserved c =
    one_more each_member each_member (member_code c.member-item.result) c.args.members.now c.loop-member.member-index c.member-item.result c.loop-member-test.true c.member-item.is refl c.in_ok-add_member.ensures
    ∙ c.loop-member.invariant

pub returns : goal.returns
returns c = record { text = sym (none_left each_member c.args.members.now c.loop-member.member-index c.loop-member.text refl c.loop-member-test.false) ∙ c.loop-member.invariant }
