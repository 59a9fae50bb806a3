use Rattle.std.proofs.Common.{◌∙◌, sym, ap, Some}
use Rattle.nub_wire.specs.Nub.{Host}
use Rattle.nub_core.proofs.Stretches.{due_runs, rest_runs, due_at_end, stuck, advanced_shut, advanced_none}
use Rattle.nub_core.proofs.nub.Nub.run.Goals as goal

pub returns-in-Some : goal.returns-in-Some
returns-in-Some g c = c.loop-rest.invariant ∙ due_runs g.T.Target.behaviour c.loop-rest.rest c.loop-rest.self c.due.new.self c.in-Some.message c.in-Some.ensures.due

pub returns-in-None : goal.returns-in-None
returns-in-None g c =
    let shut = ap (λ (h : Host). h.nub.left) (sym c.self.view_is) ∙ c.in-None.is in
    c.loop-rest.invariant ∙ stuck g.T.Target.behaviour c.loop-rest.rest c.loop-rest.self c.due.new.self c.in_default.ensures.due (advanced_shut g.T.Target.behaviour c.due.new.self shut)

pub returns-in-Some-eq0 : goal.returns-in-Some-eq0
returns-in-Some-eq0 g c =
    let none = ap (λ (h : Host). h.nub.left) (sym c.self.view_is) ∙ c.in-Some-eq0.is ∙ ap Some (sym c.in-Some-eq0.field-0-is ∙ c.in-Some-eq0.field-0-test) in
    c.loop-rest.invariant ∙ stuck g.T.Target.behaviour c.loop-rest.rest c.loop-rest.self c.due.new.self c.in_default.ensures.due (advanced_none g.T.Target.behaviour c.due.new.self none)

pub loop-rest-preserved : goal.loop-rest-preserved
loop-rest-preserved g c =
    c.loop-rest.invariant
    ∙ rest_runs g.T.Target.behaviour c.loop-rest.rest c.stretch-count.result c.loop-rest.self c.due.new.self c.stretch-count.new.self c.in_default.ensures.due c.stretch-count.ensures.same

pub returns : goal.returns
returns g c = c.loop-rest.invariant ∙ due_at_end g.T.Target.behaviour c.loop-rest.rest c.loop-rest.self _ c.loop-rest-test.false c.due-2.ensures.due
