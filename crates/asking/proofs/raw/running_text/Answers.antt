use Rattle.std.proofs.Common.{◌≡◌, refl, sym, subst, ℕ, List, reverse, codes, None, Ok, Err}
use Rattle.ps_ops.specs.declared.dialect.Operators.{Operators}
use Rattle.table_asks.specs.declared.fault.AskFault.{AskFault}
use Rattle.table_asks.specs.declared.fault.AskFault.TheVariants.{NoMemory}
use Rattle.table_asks.specs.Asking.{left_of}
use Rattle.table_asks.specs.Running.{RanOver, IsLed}
use Rattle.asking.specs.Raw.{PsOver, operand_texts}
use Rattle.asking.proofs.Begun.{line_begins}
use Rattle.asking.proofs.Ps.{begin_fails, string_fails, text_done, text_wants, text_fails}
use Rattle.asking.proofs.Ran.{ran_own, ran_as}
use Rattle.asking.proofs.raw.running_text.Goals as goal

pub returns-in-Err-clause-meaning : goal.returns-in-Err-clause-meaning
returns-in-Err-clause-meaning g c =
    let seen = g.W.AbsMem.seen in
    let i = c.args.inquiry.now in
    let new = c.begin_run.new.inquiry in
    let left : left_of new ≡ left_of i = cc in
    subst (λ (o : Operators g.row.W.Denot). PsOver seen c.args.text.now i o (Err c.in-Err.fault) new c.begin_talk.new.talk) c.begin_talk.ensures
    (begin_fails seen c.args.text.now i new c.begin_talk.new.talk c.begin_talk.new.talk c.in-Err.fault c.in-Err.ensures.begins left)

pub returns-in-Err-clause-calls : goal.returns-in-Err-clause-calls
returns-in-Err-clause-calls g c =
    let seen = g.W.AbsMem.seen in
    let leads = g.W.AbsMem.leads in
    let m = c.args.talk.now.memory.below.below.below in
    subst (λ (o : Operators g.row.W.Denot). RanOver seen leads {A = List ℕ} m (Err c.in-Err.fault) o.memory.below.below.below) (sym c.begin_talk.ensures)
    (ran_own seen leads m (List ℕ) c.in-Err.fault c.in-Err.ensures.own (g.met.W.AbsMem.stays m))

pub returns-in-Err-make_string-clause-meaning : goal.returns-in-Err-make_string-clause-meaning
returns-in-Err-make_string-clause-meaning g c =
    let seen = g.W.AbsMem.seen in
    let i = c.args.inquiry.now in
    let b = c.begin_run.new.inquiry in
    let new = record b { core = record b.core { store = c.make_string.new.self } } in
    let left : left_of b ≡ left_of i = cc in
    subst (λ (o : Operators g.row.W.Denot). PsOver seen c.args.text.now i o (Err c.text_fault.result) new c.begin_talk.new.talk) c.begin_talk.ensures
    (subst (λ (f : AskFault). PsOver seen c.args.text.now i c.begin_talk.new.talk (Err f) new c.begin_talk.new.talk) (sym c.text_fault.ensures.value)
    (string_fails seen c.args.text.now i new c.begin_talk.new.talk c.begin_talk.new.talk b c.in-Ok.ensures.begins c.in-Err-make_string.fault c.in-Err-make_string.ensures.does left))

pub returns-in-Err-make_string-clause-calls : goal.returns-in-Err-make_string-clause-calls
returns-in-Err-make_string-clause-calls g c =
    let seen = g.W.AbsMem.seen in
    let leads = g.W.AbsMem.leads in
    let m = c.args.talk.now.memory.below.below.below in
    subst (λ (o : Operators g.row.W.Denot). RanOver seen leads {A = List ℕ} m (Err c.text_fault.result) o.memory.below.below.below) (sym c.begin_talk.ensures)
    (ran_own seen leads m (List ℕ) c.text_fault.result c.text_fault.ensures.own (g.met.W.AbsMem.stays m))

pub returns-in-Ok-operands_text-clause-meaning : goal.returns-in-Ok-operands_text-clause-meaning
returns-in-Ok-operands_text-clause-meaning g c =
    let seen = g.W.AbsMem.seen in
    let i = c.args.inquiry.now in
    let b = c.begin_run.new.inquiry in
    let j = record b { core = record b.core { store = c.make_string.new.self } } in
    let new = c.run_object.new.inquiry in
    let left : left_of b ≡ left_of i = cc in
    subst (λ (o : Operators g.row.W.Denot). PsOver seen c.args.text.now i o (Ok c.in-Ok-operands_text.text) new c.run_object.new.talk) c.begin_talk.ensures
    (subst (λ (t : List ℕ). PsOver seen c.args.text.now i c.begin_talk.new.talk (Ok t) new c.run_object.new.talk) (sym c.in-Ok-operands_text.ensures)
    (text_done seen c.args.text.now i new c.begin_talk.new.talk c.run_object.new.talk b c.in-Ok.ensures.begins c.in-Ok-make_string.t j c.in-Ok-make_string.ensures.does refl left c.in-Ok-run_object.ensures.meaning))

pub returns-in-Ok-operands_text-clause-calls : goal.returns-in-Ok-operands_text-clause-calls
returns-in-Ok-operands_text-clause-calls g c =
    let after = c.run_object.new.talk.memory.below.below.below in
    subst (λ (o : Operators g.row.W.Denot). IsLed g.W.AbsMem.seen g.W.AbsMem.leads o.memory.below.below.below None after) c.begin_talk.ensures c.in-Ok-run_object.ensures.calls

pub returns-in-Err-operands_text-clause-meaning : goal.returns-in-Err-operands_text-clause-meaning
returns-in-Err-operands_text-clause-meaning g c =
    let seen = g.W.AbsMem.seen in
    let i = c.args.inquiry.now in
    let b = c.begin_run.new.inquiry in
    let j = record b { core = record b.core { store = c.make_string.new.self } } in
    let new = c.run_object.new.inquiry in
    let left : left_of b ≡ left_of i = cc in
    subst (λ (o : Operators g.row.W.Denot). PsOver seen c.args.text.now i o (Err NoMemory) new c.run_object.new.talk) c.begin_talk.ensures
    (text_wants seen c.args.text.now i new c.begin_talk.new.talk c.run_object.new.talk b c.in-Ok.ensures.begins c.in-Ok-make_string.t j c.in-Ok-make_string.ensures.does refl left c.in-Ok-run_object.ensures.meaning)

pub returns-in-Err-operands_text-clause-calls : goal.returns-in-Err-operands_text-clause-calls
returns-in-Err-operands_text-clause-calls g c =
    let after = c.run_object.new.talk.memory.below.below.below in
    subst (λ (o : Operators g.row.W.Denot). IsLed g.W.AbsMem.seen g.W.AbsMem.leads o.memory.below.below.below None after) c.begin_talk.ensures c.in-Ok-run_object.ensures.calls

pub returns-in-Err-run_object-clause-meaning : goal.returns-in-Err-run_object-clause-meaning
returns-in-Err-run_object-clause-meaning g c =
    let seen = g.W.AbsMem.seen in
    let i = c.args.inquiry.now in
    let b = c.begin_run.new.inquiry in
    let j = record b { core = record b.core { store = c.make_string.new.self } } in
    let new = c.run_object.new.inquiry in
    let left : left_of b ≡ left_of i = cc in
    subst (λ (o : Operators g.row.W.Denot). PsOver seen c.args.text.now i o (Err c.in-Err-run_object.fault) new c.run_object.new.talk) c.begin_talk.ensures
    (text_fails seen c.args.text.now i new c.begin_talk.new.talk c.run_object.new.talk b c.in-Ok.ensures.begins c.in-Ok-make_string.t j c.in-Ok-make_string.ensures.does refl left c.in-Err-run_object.fault c.in-Err-run_object.ensures.meaning)

pub returns-in-Err-run_object-clause-calls : goal.returns-in-Err-run_object-clause-calls
returns-in-Err-run_object-clause-calls g c =
    let seen = g.W.AbsMem.seen in
    let leads = g.W.AbsMem.leads in
    let after = c.run_object.new.talk.memory.below.below.below in
    ran_as seen leads c.args.talk.now.memory.below.below.below (Unit {0}) (List ℕ) c.in-Err-run_object.fault after
    (subst (λ (o : Operators g.row.W.Denot). RanOver seen leads {A = Unit {0}} o.memory.below.below.below (Err c.in-Err-run_object.fault) after) c.begin_talk.ensures c.in-Err-run_object.ensures.calls)

pub returns-in-Ok-operands_text-clause-word : goal.returns-in-Ok-operands_text-clause-word
returns-in-Ok-operands_text-clause-word g c =
    let core = c.run_object.new.inquiry.core in
    line_begins (codes "ps") (operand_texts core.store (reverse core.operands)) _ c.in-Ok-operands_text.ensures
