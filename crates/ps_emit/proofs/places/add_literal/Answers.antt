use Rattle.std.proofs.lemmas.Result.{on_ok_weaker}
use Rattle.ps_emit.proofs.Followed.{◌and◌}
use Rattle.ps_emit.proofs.places.add_literal.Goals as goal

pub returns : goal.returns
returns c =
    rw (← c.in_ok-size.ensures)
    (on_ok_weaker _ (λ e. c.in_ok-add_string_label.ensures and c.in_ok-add_anchored.ensures and c.in_ok-add_word.ensures and c.in_ok-add_number.ensures and c.in_ok-add_word-2.ensures and e)
    c.add_word-3.ensures)
