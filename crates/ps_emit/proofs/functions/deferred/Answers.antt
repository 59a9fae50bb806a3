use Rattle.std.proofs.Common.{◌-◌}
use Rattle.ps_emit.proofs.Followed.{◌and◌}
use Rattle.ps_emit.proofs.functions.deferred.Goals as goal

pub returns : goal.returns
returns c =
    let functions = rw c.as_slice.ensures at c.in_ok-add_functions.ensures in
    let whole = c.in_ok-add_integer.ensures and c.in_ok-add_word.ensures and c.in_ok-add_word-2.ensures and (c.in_ok-add_word-3.ensures and functions and c.in_ok-add_word-4.ensures)
    and c.in_ok-add_word-5.ensures in
    rw c.new-text.ensures at whole.text
