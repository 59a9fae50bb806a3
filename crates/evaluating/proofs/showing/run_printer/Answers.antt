use Rattle.std.proofs.Common.{rules, refl}
use Rattle.evaluating.proofs.OwnSteps.{run_kept, run_failed, fault_told}
use Rattle.ps_store.proofs.Settling.{settled_on}
use Rattle.evaluating.proofs.showing.run_printer.Goals as goal

pub returns-in-Ok-clause-closed : goal.returns-in-Ok-clause-closed
returns-in-Ok-clause-closed g c = λ p h. settled_on p _ _ h c.run-ended.ensures.closed

pub returns-in-Err-clause-closed : goal.returns-in-Err-clause-closed
returns-in-Err-clause-closed g c = λ p h. settled_on p _ _ h c.run-ended.ensures.closed

pub returns-in-Ok-clause-told : goal.returns-in-Ok-clause-told
returns-in-Ok-clause-told g c =
    let k = run_kept g.W.AbsMem.seen (λ d. d.talk.now) (λ d. d.talk.ghost_name) _ (λ d core op left answer d' core' left' h. h) c.args.talk.now _ refl _ _ c.args.inquiry.now.core c.run-ended.result _ c.run-ended.new.dialect c.run-ended.new.core c.in-Ok.is c.run-ended.ensures.runs c.run-ended.ensures.short refl in
    search (rules, k.0, k.1)

pub returns-in-Err-clause-told : goal.returns-in-Err-clause-told
returns-in-Err-clause-told g c =
    let k = run_failed g.W.AbsMem.seen (λ d. d.talk.now) (λ d. d.talk.ghost_name) _ (λ d core op left answer d' core' left' h. h) c.args.talk.now _ refl _ _ c.args.inquiry.now.core c.in-Err.fault _ c.run-ended.new.dialect c.run-ended.new.core c.in-Err.ensures.runs c.in-Err.ensures.short refl in
    fault_told g.W.AbsMem.seen c.args.talk.now _ c.in-Err.fault c.take.result c.fault_of_run.result c.fault_of_run.ensures.value (search (rules, k.0, k.1))
