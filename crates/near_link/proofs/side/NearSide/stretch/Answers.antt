use Rattle.std.proofs.Common.{◌≡◌, ◌+◌, ◌-◌, ◌<◌, sym, subst, refl, true, length}
use Rattle.near_link.specs.Near.{near_conduct}
use Rattle.nub_wire.specs.Delivery.{LinkSide, Runs, is_roomy}
use Rattle.near_link.specs.contracts.side.NearSide.{the_view}
use Rattle.near_link.proofs.Waits.{stretch_tells, stretch_grows, stretch_quiet}
use Rattle.near_link.proofs.side.NearSide.stretch.Goals as goal

pub returns-in-None-clause-quiet : goal.returns-in-None-clause-quiet
returns-in-None-clause-quiet c =
    let roomy = subst (λ (s : LinkSide). is_roomy s ≡ true) (sym c.self.view_is) c.requires in
    subst (λ (s : LinkSide). Runs near_conduct c.args.left s (the_view (record c.self.inside { nub = c.turn_counted.new.self }))) c.self.view_is
    (stretch_quiet near_conduct c.args.left (the_view c.self.inside) (the_view (record c.self.inside { nub = c.turn_counted.new.self })) c.turn_counted.new.self roomy c.in-None.ensures.quiet refl)

pub returns-in-Some-clause-tells : goal.returns-in-Some-clause-tells
returns-in-Some-clause-tells c =
    let roomy = subst (λ (s : LinkSide). is_roomy s ≡ true) (sym c.self.view_is) c.requires in
    subst (λ (s : LinkSide). (t : LinkSide) → Runs near_conduct (c.args.left - c.in-Some.told.count) c.answer.new.self t → Runs near_conduct c.args.left s t) c.self.view_is
    (stretch_tells near_conduct c.args.left c.in-Some.told.count _ c.answer.new.self c.in-Some.told.message c.turn_counted.new.self roomy
    c.in-Some.ensures.within c.in-Some.ensures.told c.in-Some.ensures.fewest c.answer.ensures)

pub returns-in-Some-clause-grows : goal.returns-in-Some-clause-grows
returns-in-Some-clause-grows c =
    subst (λ (s : LinkSide). length s.ready + length s.answers < length c.answer.new.self.ready + length c.answer.new.self.answers) c.self.view_is
    (stretch_grows (the_view c.self.inside) c.answer.new.self c.in-Some.told.message c.turn_counted.new.self c.answer.ensures)
