use Rattle.std.proofs.lemmas.Result.{on_ok_weaker}
use Rattle.ps_emit.proofs.Followed.{◌and◌, braced}
use Rattle.ps_emit.proofs.places.add_anchored.Goals as goal

pub returns : goal.returns
returns c =
    on_ok_weaker _ (λ e. braced c.in_ok-add_word.ensures (c.in_ok-add_integer.ensures and c.in_ok-add_anchor_name.ensures and c.in_ok-add_word-2.ensures and c.in_ok-add_word-3.ensures) e)
    c.add_word-4.ensures
