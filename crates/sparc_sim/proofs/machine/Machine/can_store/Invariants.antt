use Rattle.std.proofs.Common.{◌≡◌, ◌<◌, ◌-◌}
use Rattle.sparc_isa.specs.Windows.{can_store_windows}
use Rattle.sparc_sim.proofs.machine.Machine.can_store.Given as goal

abbrev pub invariant-loop-stored : goal.invariant-loop-stored
invariant-loop-stored l =
    (l.window < 8)
    × (can_store_windows (l.count - l._stored) l.window l.self.registers l.self.memory ≡ can_store_windows l.count l.first l.self.registers l.self.memory)
