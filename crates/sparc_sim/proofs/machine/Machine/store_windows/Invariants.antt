use Rattle.std.proofs.Common.{◌≡◌, ◌<◌, ◌-◌}
use Rattle.sparc_isa.specs.Windows.{stored_windows}
use Rattle.sparc_sim.proofs.machine.Machine.store_windows.Given as goal

abbrev pub invariant-loop-stored : goal.invariant-loop-stored
invariant-loop-stored l =
    (l.window < 8)
    × (stored_windows (l.count - l._stored) l.window l.self.registers l.self.memory ≡ stored_windows l.count l.first l.fn.self.registers l.fn.self.memory)
    × (l.self ≡ record l.fn.self { memory = l.self.memory })
