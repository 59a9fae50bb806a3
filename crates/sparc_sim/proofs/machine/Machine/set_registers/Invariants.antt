use Rattle.std.proofs.Common.{◌≡◌, drop}
use Rattle.sparc_isa.specs.Windows.{with_registers}
use Rattle.sparc_sim.proofs.machine.Machine.set_registers.Given as goal

abbrev pub invariant-loop-number : goal.invariant-loop-number
invariant-loop-number l = with_registers l.number (drop l.number l.words) l.self ≡ with_registers 0 l.words l.fn.self
