use Rattle.std.proofs.Common.{◌≡◌, ◌++◌, ◌-◌, length}
use Rattle.ps_emit.specs.Symbols.{coming}
use Rattle.ps_emit.proofs.symbols.coming.Given as goal

abbrev pub invariant-loop-step : goal.invariant-loop-step
invariant-loop-step l = l.chain.items ++ coming (length l.symbols - l.step) l.symbols l.made l.at ≡ coming (length l.symbols) l.symbols l.made l.fn.from
