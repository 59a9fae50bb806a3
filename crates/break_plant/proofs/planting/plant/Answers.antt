use Rattle.std.proofs.Common.{◌≡◌}
use Rattle.break_plant.proofs.Plants.{planted_by}
use Rattle.break_plant.proofs.planting.plant.Goals as goal

pub returns-in-Ok-clause-meaning : goal.returns-in-Ok-clause-meaning
returns-in-Ok-clause-meaning g c =
    planted_by c.args.target c.args.at c.break_of.result (g.M.AbsMem.seen c.args.m.now) (g.M.AbsMem.seen c.fetch-fetched.new.self) (g.M.AbsMem.seen c.store-stored.new.self) c.in_memory-place.result
    c.fetch-fetched.result c.in-Ok.field-0 c.store-stored.result c.seen_by.result c.done_by.result c.in_memory-place.ensures c.break_of.ensures c.fetch-fetched.ensures.meaning c.seen_by.ensures c.in-Ok.is
    c.store-stored.ensures.meaning c.done_by.ensures
