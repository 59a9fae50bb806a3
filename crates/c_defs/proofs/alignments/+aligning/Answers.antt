use Rattle.std.proofs.Common.{sym, ◌∙◌}
use Rattle.c_defs.proofs.Aligned.{wide_item, narrow_item}
use Rattle.c_defs.proofs.Described.{described}
use Rattle.c_defs.proofs.alignments.+aligning.Goals as goal

pub any_wide-returns-then-is_wide : goal.any_wide-returns-then-is_wide
any_wide-returns-then-is_wide t c =
    sym c.loop-member.invariant ∙
    wide_item c.args.defs.now c.args.deep c.args.members.now c.loop-member.member-index c.member-item.result c.is_wide.result c.loop-member-test.true c.member-item.is c.is_wide.ensures c.if-is_wide.true

pub any_wide-loop-member-preserved : goal.any_wide-loop-member-preserved
any_wide-loop-member-preserved t c =
    narrow_item c.args.defs.now c.args.deep c.args.members.now c.loop-member.member-index c.member-item.result c.is_wide.result c.loop-member-test.true c.member-item.is c.is_wide.ensures c.if-is_wide.false ∙
    c.loop-member.invariant

pub is_struct_wide-returns-then-row-deep : goal.is_struct_wide-returns-then-row-deep
is_struct_wide-returns-then-row-deep t c =
    (described c.args.defs.now c.args.rows.now c.args.s c.in-Some.row.now c.requires.kept (sym c.in-Some.ensures)).aligned c.args.deep c.if-row-deep.true c.requires.deep
