use Rattle.std.proofs.lemmas.Result.{on_ok_weaker}
use Rattle.ps_emit.proofs.Followed.{◌and◌}
use Rattle.ps_emit.proofs.places.add_statics.Goals as goal

pub returns : goal.returns
returns c =
    let objects = rw (c.as_slice.ensures, c.as_slice-2.ensures) at c.in_ok-first.ensures.text in
    let strings = rw (c.in_ok-first.ensures.number, c.as_slice-2.ensures, c.as_slice-3.ensures) at c.in_ok-add_literals.ensures in
    on_ok_weaker _ (λ e. c.in_ok-add_name.ensures and (c.in_ok-add_word.ensures and (objects and strings) and c.in_ok-add_word-2.ensures) and e) c.add_word-3.ensures
