use Rattle.std.proofs.Common.{take}
use Rattle.machine_state.specs.Sound.{AreBytes}
use Rattle.machine_state.proofs.bytes.tell_bytes.Given as goal

abbrev pub invariant-loop-at : goal.invariant-loop-at
invariant-loop-at l = AreBytes (take l.at l.bytes)
