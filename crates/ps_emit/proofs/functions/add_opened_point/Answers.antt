use Rattle.std.proofs.Common.{◌-◌}
use Rattle.ps_emit.proofs.Followed.{◌and◌}
use Rattle.ps_emit.proofs.functions.add_opened_point.Goals as goal

pub returns : goal.returns
returns c = record {
  text = c.in_ok-made.ensures.text and c.in_ok-add_point.ensures;
  made = c.in_ok-made.ensures.made;
}
