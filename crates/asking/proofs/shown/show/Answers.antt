use Rattle.std.proofs.Common.{◌≡◌, refl, sym, subst, codes, Ok, Err}
use Rattle.ps_step.specs.State.{pushing}
use Rattle.ps_store.specs.declared.object.PsObj.TheVariants.{Dict}
use Rattle.table_model.specs.Reading.{entry}
use Rattle.table_asks.specs.declared.fault.AskFault.{AskFault}
use Rattle.table_asks.specs.Running.{RanOver}
use Rattle.asking.specs.Printing.{ShownOver}
use Rattle.asking.proofs.Ran.{ran_own, ran_pushed}
use Rattle.asking.proofs.Showing.{push_fails, printer_fails, printer_runs}
use Rattle.asking.proofs.shown.show.Goals as goal

pub returns-in-Err-clause-calls : goal.returns-in-Err-clause-calls
returns-in-Err-clause-calls g c =
    let m = c.args.talk.now.memory.below.below.below in
    subst (λ (f : AskFault). RanOver g.W.AbsMem.seen g.W.AbsMem.leads {A = Unit {0}} m (Err f) m) (sym c.fault_of_run.ensures.value)
    (ran_pushed g.W.AbsMem.seen g.W.AbsMem.leads m (Unit {0}) c.in-Err.fault c.args.inquiry.now.core c.push.new.self (pushing (Dict c.args.ctype) c.args.inquiry.now.core) c.in-Err.ensures.does (g.met.W.AbsMem.stays m))

pub returns-in-Err-clause-meaning : goal.returns-in-Err-clause-meaning
returns-in-Err-clause-meaning g c =
    let i = c.args.inquiry.now in
    let o = c.args.talk.now in
    let new = record i { core = c.push.new.self } in
    subst (λ (f : AskFault). ShownOver g.W.AbsMem.seen c.args.ctype i o (Err f) new o) (sym c.fault_of_run.ensures.value)
    (λ dark own execution. push_fails g.W.AbsMem.seen c.args.ctype i o own execution c.in-Err.fault new c.in-Err.ensures.does refl)

pub returns-in-Ok-entry-clause-calls : goal.returns-in-Ok-entry-clause-calls
returns-in-Ok-entry-clause-calls g c = c.run_object.ensures.calls

pub returns-in-Ok-entry-clause-meaning : goal.returns-in-Ok-entry-clause-meaning
returns-in-Ok-entry-clause-meaning g c =
    let i = c.args.inquiry.now in
    let o = c.args.talk.now in
    let j = record i { core = c.push.new.self } in
    let there : entry j.core.store c.args.ctype (codes "printer") ≡ Ok c.in-Ok-entry.printer = sym c.in-Ok-entry.ensures in
    λ dark own execution. printer_runs g.W.AbsMem.seen c.args.ctype i o own execution j c.in-Ok.ensures.does refl c.in-Ok-entry.printer there c.run_object.new.inquiry c.run_object.new.talk dark c.run_object.result c.run_object.ensures.meaning

pub returns-in-Err-entry-clause-calls : goal.returns-in-Err-entry-clause-calls
returns-in-Err-entry-clause-calls g c =
    let m = c.args.talk.now.memory.below.below.below in
    ran_own g.W.AbsMem.seen g.W.AbsMem.leads m (Unit {0}) c.raised.result c.raised.ensures.own (g.met.W.AbsMem.stays m)

pub returns-in-Err-entry-clause-meaning : goal.returns-in-Err-entry-clause-meaning
returns-in-Err-entry-clause-meaning g c =
    let i = c.args.inquiry.now in
    let o = c.args.talk.now in
    let j = record i { core = c.push.new.self } in
    let lacks : entry j.core.store c.args.ctype (codes "printer") ≡ Err c.in-Err-entry.lack = sym c.in-Err-entry.ensures in
    subst (λ (f : AskFault). ShownOver g.W.AbsMem.seen c.args.ctype i o (Err f) j o) (sym c.raised.ensures.value)
    (λ dark own execution. printer_fails g.W.AbsMem.seen c.args.ctype i o own execution j c.in-Ok.ensures.does refl c.in-Err-entry.lack lacks)
