use Rattle.std.proofs.lemmas.Result.{on_ok_weaker}
use Rattle.ps_emit.proofs.Followed.{◌and◌}
use Rattle.ps_emit.proofs.types.add_tag.Goals as goal

pub returns : goal.returns
returns c = rw (← c.as_bytes.ensures) (on_ok_weaker _ (λ e. c.in_ok-add_name.ensures and e) c.add_struct_number.ensures)
