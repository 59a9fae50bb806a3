use Rattle.std.proofs.Common.{◌<◌, length, arith}
use Rattle.near_link.specs.Near.{near_conduct}
use Rattle.near_link.proofs.Worlds.{entered_by}
use Rattle.near_link.proofs.near.NearLink.enter.Goals as goal

pub returns-clause-entered : goal.returns-clause-entered
returns-clause-entered c =
    let less : c.self.inside.taken < length c.self.inside.schedule.items = omega (arith, c.self.invariant, c.if-self-len.false, c.len.ensures) in
    λ _. entered_by near_conduct c.self.inside.taken c.self.inside.schedule.items c.self.inside.first c.self.inside.second c.args.self.now c.move_by.new.self c.index.result.now c.self.view_is less c.index.ensures
    c.move_by.ensures.enters
