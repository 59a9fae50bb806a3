use Rattle.std.proofs.Common.{sym, ◌∙◌}
use Rattle.c_rows.specs.Behind.{is_row_uncalled}
use Rattle.c_rows.proofs.Finding.{found, not_found, none_left}
use Rattle.c_rows.proofs.undefined.first_uncalled.Goals as goal

pub returns-then-is_uncalled : goal.returns-then-is_uncalled
returns-then-is_uncalled c =
    sym (found (is_row_uncalled c.args.defined.now c.args.names.now) c.args.calls.now c.loop-c.c-index c.c-item.result c.loop-c-test.true c.c-item.is (sym c.is_uncalled.ensures ∙ c.if-is_uncalled.true)) ∙
    c.loop-c.invariant

pub loop-c-preserved : goal.loop-c-preserved
loop-c-preserved c =
    not_found (is_row_uncalled c.args.defined.now c.args.names.now) c.args.calls.now c.loop-c.c-index c.c-item.result c.loop-c-test.true c.c-item.is (sym c.is_uncalled.ensures ∙ c.if-is_uncalled.false) ∙
    c.loop-c.invariant

pub returns : goal.returns
returns c = sym (none_left (is_row_uncalled c.args.defined.now c.args.names.now) c.args.calls.now c.loop-c.c-index c.loop-c-test.false) ∙ c.loop-c.invariant
