use Rattle.std.proofs.lemmas.Result.{on_ok_weaker}
use Rattle.ps_emit.proofs.Followed.{◌and◌}
use Rattle.ps_emit.proofs.types.fill_struct.Goals as goal

pub returns : goal.returns
returns c = on_ok_weaker _ (λ e. c.in_ok-add_struct_number.ensures and c.in_ok-add_name.ensures and (c.in_ok-add_word.ensures and c.in_ok-add_members.ensures and c.in_ok-add_word-2.ensures) and e) c.add_word-3.ensures
