use Rattle.std.proofs.Common.{◌-◌}
use Rattle.ps_emit.proofs.symbols.open_scope.Goals as goal

pub returns : goal.returns
returns c = record {
  text = rw (c.deref.ensures.value, c.in_ok-chain.ensures, c.as_slice.ensures) at c.in_ok-add_symbols.ensures;
  made = c.in_ok-made.ensures;
}
