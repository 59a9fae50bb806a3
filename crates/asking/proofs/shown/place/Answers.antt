use Rattle.std.proofs.Common.{◌≡◌, sym, subst, Ok, Err}
use Rattle.ps_ops.specs.declared.dialect.Operators.{Operators}
use Rattle.table_asks.specs.declared.fault.AskFault.{AskFault}
use Rattle.table_asks.specs.Asking.{left_of}
use Rattle.table_asks.specs.Running.{RanOver, RunsOver}
use Rattle.asking.specs.Printing.{procedure_of, PlacedOver}
use Rattle.asking.proofs.Ran.{ran_own}
use Rattle.asking.proofs.Placing.{where_fails, begin_fails, place_runs}
use Rattle.asking.proofs.shown.place.Goals as goal

pub returns-in-Err-clause-calls : goal.returns-in-Err-clause-calls
returns-in-Err-clause-calls g c =
    let m = c.args.talk.now.memory.below.below.below in
    subst (λ (o : Operators g.row.W.Denot). RanOver g.W.AbsMem.seen g.W.AbsMem.leads {A = Unit {0}} m (Err c.raised.result) o.memory.below.below.below) (sym c.begin_talk.ensures)
    (ran_own g.W.AbsMem.seen g.W.AbsMem.leads m (Unit {0}) c.raised.result c.raised.ensures.own (g.met.W.AbsMem.stays m))

pub returns-in-Err-clause-meaning : goal.returns-in-Err-clause-meaning
returns-in-Err-clause-meaning g c =
    let seen = g.W.AbsMem.seen in
    let i = c.args.inquiry.now in
    let lacks : procedure_of i.core.store c.args.symbol ≡ Err c.in-Err.lack = sym c.in-Err.ensures in
    subst (λ (o : Operators g.row.W.Denot). PlacedOver seen c.args.symbol c.args.frame c.args.scope i c.args.talk.now (Err c.raised.result) i o) (sym c.begin_talk.ensures)
    (subst (λ (f : AskFault). PlacedOver seen c.args.symbol c.args.frame c.args.scope i c.args.talk.now (Err f) i c.args.talk.now) (sym c.raised.ensures.value)
    (where_fails seen c.args.symbol c.args.frame c.args.scope i c.args.talk.now c.in-Err.lack lacks))

pub returns-in-Err-begin_run-clause-calls : goal.returns-in-Err-begin_run-clause-calls
returns-in-Err-begin_run-clause-calls g c =
    let m = c.args.talk.now.memory.below.below.below in
    subst (λ (o : Operators g.row.W.Denot). RanOver g.W.AbsMem.seen g.W.AbsMem.leads {A = Unit {0}} m (Err c.in-Err-begin_run.fault) o.memory.below.below.below) (sym c.begin_talk.ensures)
    (ran_own g.W.AbsMem.seen g.W.AbsMem.leads m (Unit {0}) c.in-Err-begin_run.fault c.in-Err-begin_run.ensures.own (g.met.W.AbsMem.stays m))

pub returns-in-Err-begin_run-clause-meaning : goal.returns-in-Err-begin_run-clause-meaning
returns-in-Err-begin_run-clause-meaning g c =
    let seen = g.W.AbsMem.seen in
    let i = c.args.inquiry.now in
    let new = c.begin_run.new.inquiry in
    let is : procedure_of i.core.store c.args.symbol ≡ Ok c.in-Ok.procedure = sym c.in-Ok.ensures in
    let left : left_of new ≡ left_of i = cc in
    subst (λ (o : Operators g.row.W.Denot). PlacedOver seen c.args.symbol c.args.frame c.args.scope i c.args.talk.now (Err c.in-Err-begin_run.fault) new o) (sym c.begin_talk.ensures)
    (begin_fails seen c.args.symbol c.args.frame c.args.scope i c.args.talk.now c.in-Ok.procedure is c.in-Err-begin_run.fault new c.in-Err-begin_run.ensures.begins left)

pub returns-in-Ok-begin_run-clause-calls : goal.returns-in-Ok-begin_run-clause-calls
returns-in-Ok-begin_run-clause-calls g c =
    subst (λ (o : Operators g.row.W.Denot). RanOver g.W.AbsMem.seen g.W.AbsMem.leads o.memory.below.below.below c.run_object.result c.run_object.new.talk.memory.below.below.below) c.begin_talk.ensures c.run_object.ensures.calls

pub returns-in-Ok-begin_run-clause-meaning : goal.returns-in-Ok-begin_run-clause-meaning
returns-in-Ok-begin_run-clause-meaning g c =
    let seen = g.W.AbsMem.seen in
    let i = c.args.inquiry.now in
    let j = c.begin_run.new.inquiry in
    let new = c.run_object.new in
    let is : procedure_of i.core.store c.args.symbol ≡ Ok c.in-Ok.procedure = sym c.in-Ok.ensures in
    let left : left_of j ≡ left_of i = cc in
    place_runs seen c.args.symbol c.args.frame c.args.scope i c.args.talk.now c.in-Ok.procedure is j new.inquiry new.talk c.in-Ok-begin_run.ensures.begins left c.run_object.result
    (subst (λ (o : Operators g.row.W.Denot). RunsOver seen c.in-Ok.procedure j o c.run_object.result new.inquiry new.talk) c.begin_talk.ensures c.run_object.ensures.meaning)
