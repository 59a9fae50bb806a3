use Rattle.std.proofs.Common.{◌≡◌, ◌∙◌, sym, ap, subst, true, false, []}
use Rattle.near_link.specs.Near.{near_conduct}
use Rattle.nub_wire.specs.Delivery.{LinkSide, takes_bytes}
use Rattle.near_link.proofs.Waits.{comes_on, comes_none, comes_shut, comes_end}
use Rattle.near_link.proofs.side.NearSide.deliver.Goals as goal

pub returns-then-not-takes_bytes-clause-delivers : goal.returns-then-not-takes_bytes-clause-delivers
returns-then-not-takes_bytes-clause-delivers c =
    comes_shut near_conduct c.args.most c.loop-delivered._delivered c.args.self.now c.loop-delivered.self c.loop-delivered.invariant.comes (sym c.takes_bytes.ensures ∙ c.if-not-takes_bytes.true)

pub returns-in-None-clause-delivers : goal.returns-in-None-clause-delivers
returns-in-None-clause-delivers c =
    let none : c.loop-delivered.self.sent ≡ [] = ap (λ (s : LinkSide). s.sent) (sym c.self.view_is) ∙ c.in-None.ensures in
    comes_none near_conduct c.args.most c.loop-delivered._delivered c.args.self.now c.loop-delivered.self c.loop-delivered.invariant.comes none

pub loop-delivered-preserved : goal.loop-delivered-preserved
loop-delivered-preserved c =
    let takes : takes_bytes c.loop-delivered.self ≡ true = sym c.takes_bytes.ensures ∙ c.if-not-takes_bytes.false in
    record {
      comes = comes_on near_conduct c.args.most c.loop-delivered._delivered c.args.self.now c.loop-delivered.self c.reach.new.self c.loop-delivered-test.true c.loop-delivered.invariant.comes takes c.reach.ensures.reaches;
      ready_is = c.reach.ensures.ready ∙ c.loop-delivered.invariant.ready_is;
    }
