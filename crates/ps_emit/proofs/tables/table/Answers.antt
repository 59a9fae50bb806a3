use Rattle.std.proofs.Common.{sym, ◌∙◌, ◌-◌}
use Rattle.ps_emit.proofs.Followed.{◌and◌}
use Rattle.ps_emit.specs.Words.{words}
use Rattle.ps_emit.specs.Table.{parts_code, table_text}
use Rattle.ps_emit.proofs.Followed.{render_followed}
use Rattle.ps_emit.proofs.tables.table.Goals as goal

pub returns : goal.returns
unfolding table_text
returns c =
    let structs = rw c.as_slice.ensures at c.in_ok-add_structs.ensures in
    let filled = rw c.as_slice-2.ensures at c.in_ok-fill_structs.ensures in
    let whole = structs and filled and c.in_ok-add_statics.ensures and c.in_ok-add_top.ensures in
    let begun = rw (c.in_ok-text.ensures, c.words_text.ensures) at whole.text in
    begun ∙ sym (render_followed words (parts_code c.args.program.now c.args.at.now))
