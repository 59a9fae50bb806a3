use Rattle.std.proofs.lemmas.Result.{on_ok_weaker}
use Rattle.ps_emit.proofs.Followed.{◌and◌}
use Rattle.ps_emit.proofs.functions.add_point.Goals as goal

pub returns : goal.returns
returns c = on_ok_weaker _ (λ e. c.in_ok-add_number.ensures and c.in_ok-add_number-2.ensures and c.in_ok-add_number-3.ensures and c.in_ok-add_link.ensures and e) c.add_word.ensures
