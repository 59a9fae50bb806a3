use Rattle.std.proofs.Common.{◌-◌}
use Rattle.std.proofs.lemmas.Result.{on_ok_weaker}
use Rattle.ps_emit.proofs.Followed.{◌and◌}
use Rattle.ps_emit.proofs.tables.add_top.Goals as goal

pub returns : goal.returns
returns c =
    let target = rw c.target_name.ensures at c.in_ok-add_string.ensures in
    let anchors = rw c.as_slice.ensures at c.in_ok-add_anchors.ensures in
    let tags = rw c.as_slice-2.ensures at c.in_ok-add_tags.ensures in
    let units = rw (c.as_slice-3.ensures, c.as_slice-4.ensures) at c.in_ok-add_units.ensures in
    on_ok_weaker _
    (λ e. c.in_ok-add_word.ensures and
    (c.in_ok-add_name.ensures and c.in_ok-add_integer.ensures and c.in_ok-add_name-2.ensures and target
    and c.in_ok-add_name-3.ensures and (c.in_ok-add_word-2.ensures and anchors and c.in_ok-add_word-3.ensures)
    and c.in_ok-add_name-4.ensures and (c.in_ok-add_word-4.ensures and tags and c.in_ok-add_word-5.ensures)
    and c.in_ok-add_name-5.ensures and c.in_ok-add_word-6.ensures
    and c.in_ok-add_name-6.ensures and (c.in_ok-add_word-7.ensures and units and c.in_ok-add_word-8.ensures))
    and e)
    c.add_word-9.ensures
