use Rattle.std.proofs.Common.{◌≡◌, ◌-◌, ◌++◌}
use Rattle.rand_core.specs.Steps.{stream_of, steps_u64_high}
use Rattle.rand_xoshiro.specs.Xoshiro256.{plus_plus}
use Rattle.near_link.specs.Schedule.{entries, schedule_of}
use Rattle.near_link.proofs.schedule.schedule_of.Given as goal

abbrev pub invariant-loop-entry : goal.invariant-loop-entry
invariant-loop-entry l =
    l.entries.items ++ entries l.has_second (4096 - l._entry) (stream_of (steps_u64_high plus_plus) l.rng) ≡ schedule_of l.has_second l.seed
