use Rattle.std.proofs.lemmas.Result.{on_ok_weaker}
use Rattle.ps_emit.proofs.Followed.{◌and◌}
use Rattle.ps_emit.proofs.tables.add_anchor.Goals as goal

pub returns : goal.returns
returns c = on_ok_weaker _ (λ e. c.in_ok-add_anchor_name.ensures and e) c.add_number.ensures
