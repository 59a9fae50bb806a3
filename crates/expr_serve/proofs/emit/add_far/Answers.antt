use Rattle.std.proofs.lemmas.Result.{on_ok_weaker}
use Rattle.ps_emit.proofs.Followed.{◌and◌}
use Rattle.expr_serve.proofs.emit.add_far.Goals as goal

pub returns : goal.returns
returns c = on_ok_weaker _ (λ e. c.in_ok-add_moved.ensures and c.in_ok-add_number.ensures and c.in_ok-add_integer.ensures and e) c.add_word.ensures
