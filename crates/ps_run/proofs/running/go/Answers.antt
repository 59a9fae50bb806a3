use Rattle.std.proofs.Common.{◌≡◌, ◌-◌, ◌+◌, suc, Err, refl, ◌∙◌, ap, arith}
use Rattle.ps_run.proofs.Going.{at_limit, at_end, at_fault, at_next, at_asked, at_broken, remains_by, fault_told, never_spent}
use Rattle.ps_store.specs.Store.{closed_part}
use Rattle.ps_run.specs.Reaching.{here, in_step}
use Rattle.ps_run.proofs.Reaching.{then_stepped, then_answered, then_short}
use Rattle.ps_run.proofs.running.go.Goals as goal

pub loop-steps-init : goal.loop-steps-init
loop-steps-init g c = record { limit = refl; closed = g.met.D.Dialect.stays (closed_part c.args.core.now.store); within = c.requires; more = omega arith; reached = here; rest = λ r m d c' run. run }

pub returns-in-Ok-Ended-clause-runs : goal.returns-in-Ok-Ended-clause-runs
returns-in-Ok-Ended-clause-runs g c = λ _.
    let steps = c.loop-steps.steps in
    let m = steps.limit - (steps.taken + 1) in
    let e : steps.limit - steps.taken ≡ suc m = omega arith in
    c.loop-steps.invariant.rest _ _ _ _ (at_end g.D.Dialect.operates (steps.limit - steps.taken) m c.loop-steps.dialect c.loop-steps.core c.step.new.core
    e (rw c.in-Ok-Ended.field-0-is at c.in-Ok-Ended.ensures.steps))

pub returns-clause-runs : goal.returns-clause-runs
returns-clause-runs g c = λ _.
    let steps = c.loop-steps.steps in
    c.loop-steps.invariant.rest _ _ _ _ (at_limit g.D.Dialect.operates (steps.limit - steps.taken) c.loop-steps.dialect c.loop-steps.core (omega arith))

pub returns-in-Err-clause-runs : goal.returns-in-Err-clause-runs
returns-in-Err-clause-runs g c = λ other.
    let steps = c.loop-steps.steps in
    let m = steps.limit - (steps.taken + 1) in
    let e : steps.limit - steps.taken ≡ suc m = omega arith in
    c.loop-steps.invariant.rest _ _ _ _ (at_fault g.D.Dialect.operates (steps.limit - steps.taken) m c.loop-steps.dialect c.loop-steps.core c.step.new.core c.in-Err.fault c.told-in-Err.result
    e c.in-Err.ensures.steps c.told-in-Err.ensures (λ h. other (ap Err h)))

pub loop-steps-preserved-in-Ok-Went : goal.loop-steps-preserved-in-Ok-Went
loop-steps-preserved-in-Ok-Went g c =
    let steps = c.loop-steps.steps in
    let k = steps.limit - (steps.taken + 1) in
    let e : steps.limit - steps.taken ≡ suc k = omega arith in
    record {
      limit = c.loop-steps.invariant.limit;
      closed = remains_by (g.D.Dialect.remains) c.step.ensures.closed c.loop-steps.invariant.closed;
      within = omega arith;
      more = omega arith;
      reached = then_stepped g.D.Dialect.operates (c.args.steps.now.limit - c.args.steps.now.taken) c.args.dialect.now c.args.core.now (steps.limit - steps.taken) k c.loop-steps.dialect c.loop-steps.core c.step.new.core
          e (rw c.in-Ok-Went.field-0-is at c.in-Ok-Went.ensures.steps) c.loop-steps.invariant.reached;
      rest = λ r m d c' run. c.loop-steps.invariant.rest r m d c'
          (at_next g.D.Dialect.operates (steps.limit - steps.taken) k m c.loop-steps.dialect d c.loop-steps.core c.step.new.core c' r
          e (rw c.in-Ok-Went.field-0-is at c.in-Ok-Went.ensures.steps) run);
    }

pub returns-in-Err-ask-clause-runs : goal.returns-in-Err-ask-clause-runs
returns-in-Err-ask-clause-runs g c = λ _.
    let steps = c.loop-steps.steps in
    let i = steps.limit - (steps.taken + 1) in
    let e : steps.limit - steps.taken ≡ suc i = omega arith in
    c.loop-steps.invariant.rest _ _ _ _ (at_broken g.D.Dialect.operates (steps.limit - steps.taken) i (c.ask.new.steps.limit - c.ask.new.steps.taken)
    c.loop-steps.dialect c.ask.new.dialect c.loop-steps.core c.step.new.core c.ask.new.core c.in-Ok-Asked.op c.in-Err-ask.fault c.told.result
    e (rw c.in-Ok-Asked.field-0-is at c.in-Ok-Asked.ensures.steps) c.in-Err-ask.ensures.asked c.told.ensures)

pub loop-steps-preserved : goal.loop-steps-preserved
loop-steps-preserved g c =
    let steps = c.loop-steps.steps in
    let i = steps.limit - (steps.taken + 1) in
    let e : steps.limit - steps.taken ≡ suc i = omega arith in
    record {
      limit = c.ask.ensures.limit ∙ c.loop-steps.invariant.limit;
      closed = g.met.D.Dialect.goes_on _ _ _ (remains_by (g.D.Dialect.remains) c.step.ensures.closed c.loop-steps.invariant.closed) c.ask.ensures.closed;
      within = c.ask.ensures.within;
      more = omega arith;
      reached = then_answered g.D.Dialect.operates (c.args.steps.now.limit - c.args.steps.now.taken) c.args.dialect.now c.args.core.now (steps.limit - steps.taken) i (c.ask.new.steps.limit - c.ask.new.steps.taken) c.in-Ok-Asked.op
          c.loop-steps.dialect c.ask.new.dialect c.loop-steps.core c.step.new.core c.ask.new.core
          e (rw c.in-Ok-Asked.field-0-is at c.in-Ok-Asked.ensures.steps) c.in_default.ensures.asked c.loop-steps.invariant.reached;
      rest = λ r m d c' run. c.loop-steps.invariant.rest r m d c'
          (at_asked g.D.Dialect.operates (steps.limit - steps.taken) i (c.ask.new.steps.limit - c.ask.new.steps.taken) m
          c.loop-steps.dialect c.ask.new.dialect d c.loop-steps.core c.step.new.core c.ask.new.core c' c.in-Ok-Asked.op r
          e (rw c.in-Ok-Asked.field-0-is at c.in-Ok-Asked.ensures.steps) c.in_default.ensures.asked run);
    }

pub returns-in-Ok-Ended-clause-closed : goal.returns-in-Ok-Ended-clause-closed
returns-in-Ok-Ended-clause-closed g c = remains_by g.D.Dialect.remains c.step.ensures.closed c.loop-steps.invariant.closed

pub returns-in-Err-clause-closed : goal.returns-in-Err-clause-closed
returns-in-Err-clause-closed g c = remains_by g.D.Dialect.remains c.step.ensures.closed c.loop-steps.invariant.closed

pub returns-in-Err-ask-clause-closed : goal.returns-in-Err-ask-clause-closed
returns-in-Err-ask-clause-closed g c =
    g.met.D.Dialect.goes_on _ _ _ (remains_by g.D.Dialect.remains c.step.ensures.closed c.loop-steps.invariant.closed) c.ask.ensures.closed

pub returns-in-Err-clause-told : goal.returns-in-Err-clause-told
returns-in-Err-clause-told g c = fault_told _ _ _ c.told-in-Err.ensures (λ e. absurd (never_spent _ _ _ c.in-Err.ensures.steps e))

pub returns-in-Err-ask-clause-told : goal.returns-in-Err-ask-clause-told
returns-in-Err-ask-clause-told g c = fault_told _ _ _ c.told.ensures (λ e. let done = c.in-Err-ask.ensures.spent (ap Err e) in omega arith)

pub returns-in-Err-clause-short : goal.returns-in-Err-clause-short
returns-in-Err-clause-short g c = λ _. in_step c.loop-steps.invariant.reached

pub returns-in-Err-ask-clause-short : goal.returns-in-Err-ask-clause-short
returns-in-Err-ask-clause-short g c = λ is.
    let steps = c.loop-steps.steps in
    let i = steps.limit - (steps.taken + 1) in
    let e : steps.limit - steps.taken ≡ suc i = omega arith in
    then_short g.D.Dialect.operates (c.args.steps.now.limit - c.args.steps.now.taken) c.args.dialect.now c.args.core.now (steps.limit - steps.taken) i (c.ask.new.steps.limit - c.ask.new.steps.taken) c.in-Ok-Asked.op
    c.loop-steps.dialect c.ask.new.dialect c.loop-steps.core c.step.new.core c.ask.new.core c.in-Err-ask.fault c.told.result
    e (rw c.in-Ok-Asked.field-0-is at c.in-Ok-Asked.ensures.steps) c.in-Err-ask.ensures.asked c.loop-steps.invariant.reached c.told.ensures is
