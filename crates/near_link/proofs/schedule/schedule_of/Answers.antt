use Rattle.rand_core.specs.Steps.{stream_of, steps_u64_high}
use Rattle.rand_xoshiro.specs.Xoshiro256.{plus_plus}
use Rattle.near_link.specs.Schedule.{schedule_of}
use Rattle.near_link.proofs.Schedules.{entries_first, entries_more, entries_done}
use Rattle.near_link.proofs.schedule.schedule_of.Goals as goal

pub loop-entry-init : goal.loop-entry-init
loop-entry-init c = entries_first c.args.has_second c.args.seed c.seed_from_u64-rng.result c.in_ok-entries.entries.items c.in_ok-entries.ensures.items c.seed_from_u64-rng.ensures

pub loop-entry-preserved : goal.loop-entry-preserved
loop-entry-preserved c =
    entries_more c.args.has_second 4096 c.loop-entry._entry
    (stream_of (steps_u64_high plus_plus) c.loop-entry.rng) (stream_of (steps_u64_high plus_plus) c.next_entry.new.rng)
    c.next_entry.result c.loop-entry.entries.items c.push.new.self.items (schedule_of c.args.has_second c.args.seed)
    c.loop-entry-test.true c.next_entry.ensures c.in_ok-push.ensures.items c.loop-entry.invariant

pub returns : goal.returns
returns c =
    entries_done c.args.has_second 4096 c.loop-entry._entry (stream_of (steps_u64_high plus_plus) c.loop-entry.rng)
    c.loop-entry.entries.items (schedule_of c.args.has_second c.args.seed) c.loop-entry-test.false c.loop-entry.invariant
