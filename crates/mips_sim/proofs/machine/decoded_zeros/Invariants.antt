use Rattle.std.proofs.Common.{◌≡◌}
use Rattle.mips_sim.proofs.machine.decoded_zeros.Given as goal

abbrev pub invariant-loop-slot : goal.invariant-loop-slot
invariant-loop-slot l = l.slots.len ≡ l._slot
