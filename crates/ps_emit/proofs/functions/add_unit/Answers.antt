use Rattle.std.proofs.Common.{◌-◌}
use Rattle.std.proofs.lemmas.Result.{on_ok_weaker}
use Rattle.ps_emit.proofs.Followed.{◌and◌}
use Rattle.ps_emit.proofs.functions.add_unit.Goals as goal

pub returns : goal.returns
returns c =
    let file = rw c.as_bytes.ensures at c.in_ok-add_string.ensures in
    let body = rw (c.as_bytes-2.ensures, c.in_ok-functions.ensures) at c.in_ok-add_string-2.ensures in
    on_ok_weaker _ (λ e. file and body and c.in_ok-add_word.ensures and e) c.add_word-2.ensures
