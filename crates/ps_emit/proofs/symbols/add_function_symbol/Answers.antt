use Rattle.std.proofs.lemmas.Result.{on_ok_weaker}
use Rattle.ps_emit.proofs.Followed.{◌and◌}
use Rattle.ps_emit.proofs.symbols.add_function_symbol.Goals as goal

pub returns : goal.returns
returns c = rw (← c.as_bytes.ensures) (on_ok_weaker _ (λ e. c.in_ok-add_string.ensures and c.in_ok-add_type.ensures and c.in_ok-add_absolute.ensures and c.in_ok-add_link.ensures and e) c.add_word.ensures)
