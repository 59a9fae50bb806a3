use Rattle.std.proofs.Common.{sym, ◌∙◌}
use Rattle.c_rows.specs.Behind.{is_row_past}
use Rattle.c_rows.proofs.Finding.{found, not_found, none_left}
use Rattle.c_rows.proofs.undefined.first_past.Goals as goal

pub returns-then-is_past : goal.returns-then-is_past
returns-then-is_past c =
    sym (found (is_row_past c.args.names.now) c.args.late.now c.loop-place.place-index c.place-item.result c.loop-place-test.true c.place-item.is (sym c.is_past.ensures ∙ c.if-is_past.true)) ∙
    c.loop-place.invariant

pub loop-place-preserved : goal.loop-place-preserved
loop-place-preserved c =
    not_found (is_row_past c.args.names.now) c.args.late.now c.loop-place.place-index c.place-item.result c.loop-place-test.true c.place-item.is (sym c.is_past.ensures ∙ c.if-is_past.false) ∙
    c.loop-place.invariant

pub returns : goal.returns
returns c = sym (none_left (is_row_past c.args.names.now) c.args.late.now c.loop-place.place-index c.loop-place-test.false) ∙ c.loop-place.invariant
