use Rattle.std.proofs.Common.{◌≡◌, ◌-◌, ◌∙◌, sym, ap, subst, Option, None, Ok, Err}
use Rattle.ps_store.proofs.Settling.{settled_on}
use Rattle.abs_mem.specs.declared.memory.MemFault.{MemFault}
use Rattle.table_asks.specs.declared.fault.AskFault.{AskFault}
use Rattle.table_asks.specs.declared.inquiry.Inquiry.{Inquiry}
use Rattle.table_asks.specs.Faults.{fault_of_run}
use Rattle.table_asks.specs.Running.{RanOver, RunsOver}
use Rattle.table_asks.proofs.Ran.{run_answered, run_stopped}
use Rattle.table_asks.proofs.Telling.{told_answered, told_stopped}
use Rattle.table_asks.proofs.inquiry.run_object.Goals as goal

pub returns-in-Ok-clause-closed : goal.returns-in-Ok-clause-closed
returns-in-Ok-clause-closed g c = λ p h. settled_on p _ _ h c.run.ensures.closed

pub returns-in-Err-clause-closed : goal.returns-in-Err-clause-closed
returns-in-Err-clause-closed g c = λ p h. settled_on p _ _ h c.run.ensures.closed

pub returns-in-Ok-clause-calls : goal.returns-in-Ok-clause-calls
returns-in-Ok-clause-calls g c =
    let inquiry = c.args.inquiry.now in
    run_answered g.W.AbsMem.seen g.W.AbsMem.leads g.met.W.AbsMem.stays g.met.W.AbsMem.goes_on (inquiry.steps.limit - inquiry.steps.taken) c.args.what c.args.talk.now inquiry.core c.run.result (c.run.new.steps.limit - c.run.new.steps.taken) c.run.new.dialect c.run.new.core c.in-Ok.is c.run.ensures.runs

pub returns-in-Err-clause-calls : goal.returns-in-Err-clause-calls
returns-in-Err-clause-calls g c =
    let inquiry = c.args.inquiry.now in
    let new = c.run.new in
    let is : c.fault_of_run.result ≡ fault_of_run c.in-Err.fault new.dialect.fault = c.fault_of_run.ensures.value ∙ ap (fault_of_run c.in-Err.fault) c.take.ensures.value in
    subst (λ (f : AskFault). RanOver g.W.AbsMem.seen g.W.AbsMem.leads {A = Unit {0}} c.args.talk.now.memory.below.below.below (Err f) new.dialect.memory.below.below.below) (sym is)
    (run_stopped g.W.AbsMem.seen g.W.AbsMem.leads g.met.W.AbsMem.stays g.met.W.AbsMem.goes_on (inquiry.steps.limit - inquiry.steps.taken) c.args.what c.args.talk.now inquiry.core c.in-Err.fault (new.steps.limit - new.steps.taken) new.dialect new.core c.in-Err.ensures.runs c.in-Err.ensures.short)

pub returns-in-Ok-clause-meaning : goal.returns-in-Ok-clause-meaning
returns-in-Ok-clause-meaning g c =
    let new : Inquiry = record { core = c.run.new.core; steps = c.run.new.steps } in
    told_answered g.W.AbsMem.seen g.W.AbsMem.leads c.args.what c.args.inquiry.now new c.args.talk.now c.run.new.dialect c.in-Ok.ensures.runs

pub returns-in-Err-clause-meaning : goal.returns-in-Err-clause-meaning
returns-in-Err-clause-meaning g c =
    let inquiry = c.args.inquiry.now in
    let dialect = c.run.new.dialect in
    let new : Inquiry = record { core = c.run.new.core; steps = c.run.new.steps } in
    subst (λ (kept : Option MemFault). RunsOver g.W.AbsMem.seen c.args.what inquiry c.args.talk.now (Err c.fault_of_run.result) new (record dialect { fault = kept })) (sym c.take.ensures.after)
    (subst (λ (f : AskFault). RunsOver g.W.AbsMem.seen c.args.what inquiry c.args.talk.now (Err f) new (record dialect { fault = None })) (sym c.fault_of_run.ensures.value)
    (told_stopped g.W.AbsMem.seen g.W.AbsMem.leads c.args.what inquiry new c.args.talk.now dialect c.in-Err.fault c.take.result c.take.ensures.value c.in-Err.ensures.runs c.in-Err.ensures.short))
