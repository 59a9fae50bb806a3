use Rattle.std.proofs.Common.{◌∙◌, subst, None, Some, Err}
use Rattle.resuming.specs.declared.fault.RunFault.{RunFault}
use Rattle.resuming.specs.Runs.{CountsRun}
use Rattle.session.proofs.Tallying.{second_cause}
use Rattle.session.proofs.Resumed.{first_failed, second_failed_so, both_done}
use Rattle.session.proofs.resumes.resumed_both.Goals as goal

pub returns-in-Err-clause-meant : goal.returns-in-Err-clause-meant
returns-in-Err-clause-meant g c = λ b hs steady x may also.
    first_failed b g.L.Link.conduct steady c.args.limit c.args.first.now c.resumed.new.side (Some c.args.second.now) (Some c.args.second.now) hs hs.second _ _ _ _ _ _ _ _ c.in-Err.fault
    (c.in-Err.ensures.told b hs.first hs.second x.first_there.stands x.first_there.order (steady.orders hs.first.machine) may) c.in-Err.ensures.cause

pub returns-in-Err-Talk-clause-meant : goal.returns-in-Err-Talk-clause-meant
returns-in-Err-Talk-clause-meant g c = λ b hs steady x may also.
    let t = second_failed_so b g.L.Link.conduct steady c.args.limit c.args.first.now c.args.second.now hs.first c.in-Ok.event _ _ _ _ _ _ _ None None hs.second c.resumed.new.side c.resumed-2.new.side c.in-Err-Talk.field-0 c.in-Err-Talk.fault (g.L.Link.faults c.args.talk.now.memory.below.below.below.link) _ (g.L.Link.faults c.resumed-2.new.talk.memory.below.below.below.link) _ _ (g.O.Sink.taken c.resumed.new.out) c.in-Err-Talk.field-0-is x
    (c.in-Ok.ensures.told b hs.first hs.second x.first_there.stands x.first_there.order (steady.orders hs.first.machine) may) also (c.in-Err-Talk.ensures.told b) c.in-Ok.ensures.cause.0 c.in-Err-Talk.ensures.cause in
    rw c.in-Err-Talk.fault-is t

pub returns-clause-meant : goal.returns-clause-meant
returns-clause-meant g c = λ b hs steady x may also.
    let first = c.args.first.now in
    let second = c.args.second.now in
    let s = first.inquiry.core.store in
    let t = second.inquiry.core.store in
    both_done b g.L.Link.conduct steady c.args.limit first second hs.first c.in-Ok.event _ _ _ _ _ _ _ None None hs.second c.resumed.new.side c.settle_side.new.side c.resumed-2.new.side c.settle_side-2.new.side c.in-Ok-resumed.other c.merged-all.result _ _ x
    (c.in-Ok.ensures.told b hs.first hs.second x.first_there.stands x.first_there.order (steady.orders hs.first.machine) may) also (c.in-Ok-resumed.ensures.told b) (c.merged-all.ensures s t)
    (record {
      came = c.in-Ok.ensures.came;
      row = c.in-Ok.ensures.other;
      stay = c.in-Ok.ensures.stay;
      kept = c.settle_side.ensures.kept s s;
      own = c.settle_side.ensures.own;
      frame = c.settle_side.ensures.frame s;
      other = c.settle_side.ensures.other;
    })
    (record {
      came = c.in-Ok-resumed.ensures.came;
      row = c.in-Ok-resumed.ensures.other;
      stay = c.in-Ok-resumed.ensures.stay;
      kept = c.settle_side-2.ensures.kept s t;
      own = c.settle_side-2.ensures.own;
      frame = c.settle_side-2.ensures.frame s;
      other = c.settle_side-2.ensures.other;
    })

pub returns-in-Err-Talk-clause-cause : goal.returns-in-Err-Talk-clause-cause
returns-in-Err-Talk-clause-cause g c =
    let k = subst (λ (y : RunFault). CountsRun {A = Unit {0}} (g.L.Link.faults c.resumed.new.talk.memory.below.below.below.link) (g.L.Link.faults c.resumed-2.new.talk.memory.below.below.below.link) _ _ (Err y)) c.in-Err-Talk.field-0-is c.in-Err-Talk.ensures.cause in
    rw c.in-Err-Talk.fault-is (second_cause (g.L.Link.faults c.args.talk.now.memory.below.below.below.link) (g.L.Link.faults c.resumed.new.talk.memory.below.below.below.link) (g.L.Link.faults c.resumed-2.new.talk.memory.below.below.below.link) _ _ (g.O.Sink.faults c.args.out.now) (g.O.Sink.faults c.resumed.new.out) c.in-Err-Talk.fault c.in-Ok.ensures.cause.0 c.in-Ok.ensures.cause.1 k)

pub returns-clause-cause : goal.returns-clause-cause
returns-clause-cause g c = (c.in-Ok-resumed.ensures.cause.0 ∙ c.in-Ok.ensures.cause.0, c.in-Ok.ensures.cause.1)
