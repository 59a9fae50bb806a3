use Rattle.std.proofs.lemmas.Result.{on_ok_weaker}
use Rattle.ps_emit.proofs.Followed.{◌and◌}
use Rattle.ps_emit.proofs.places.add_object.Goals as goal

pub returns : goal.returns
returns c =
    let named = rw c.as_bytes.ensures at c.in_ok-add_string.ensures in
    on_ok_weaker _ (λ e. named and c.in_ok-add_label.ensures and c.in_ok-add_anchored.ensures and c.in_ok-add_type.ensures and e) c.add_word.ensures
