use Rattle.near_link.specs.Near.{near_conduct}
use Rattle.near_link.proofs.Worlds.{first_out, second_out}
use Rattle.near_link.proofs.near.NearLink.wait_out.Goals as goal

pub returns-in-First : goal.returns-in-First
returns-in-First c =
    first_out near_conduct c.args.side c.args.self.now c.self.inside.first c.wait_out.new.self _ _ c.self.view_is c.in-First.is c.requires.silent c.requires.over c.wait_out.ensures

pub returns-in-Some : goal.returns-in-Some
returns-in-Some c =
    second_out near_conduct c.args.side c.args.self.now c.self.inside.first c.in-Some.second c.wait_out-in-Some.new.self _ _ c.self.view_is c.in-Some.is c.in-Second.is c.requires.silent c.requires.over
    c.wait_out-in-Some.ensures
