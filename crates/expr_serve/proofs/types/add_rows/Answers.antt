use Rattle.std.proofs.Common.{refl, sym, ◌∙◌}
use Rattle.expr_serve.specs.Types.{row_code, each_row}
use Rattle.ps_emit.proofs.Followed.{one_more, none_left}
use Rattle.expr_serve.proofs.types.add_rows.Goals as goal

pub loop-member-preserved : goal.loop-member-preserved
loop-member-preserved c =
    one_more (each_row c.args.defs.now) (each_row c.args.defs.now) (row_code c.args.defs.now c.member-item.result) c.args.members.now c.loop-member.member-index c.member-item.result c.loop-member-test.true c.member-item.is refl c.in_ok-add_row.ensures
    ∙ c.loop-member.invariant

pub returns : goal.returns
returns c = record { text = sym (none_left (each_row c.args.defs.now) c.args.members.now c.loop-member.member-index c.loop-member.text refl c.loop-member-test.false) ∙ c.loop-member.invariant }
