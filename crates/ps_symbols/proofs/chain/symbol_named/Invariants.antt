use Rattle.std.proofs.Common.{◌≡◌}
use Rattle.table_model.specs.Symbols.{named_among, symbol_named}
use Rattle.ps_symbols.proofs.chain.symbol_named.Given as goal

-- what is left decides
abbrev pub invariant-loop-next : goal.invariant-loop-next
invariant-loop-next l = named_among l.left l.store l.name l.next ≡ symbol_named l.store l.fn.scope l.name

abbrev pub decreases-loop-next : goal.decreases-loop-next
decreases-loop-next l = l.left
