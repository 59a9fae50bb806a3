use Rattle.std.proofs.Common.{◌≡◌, ℕ, List, Some, None, subst}
use Rattle.table_model.specs.Frames.{row_of_target, frame_at}
use Rattle.dialect_model.specs.TableUse.{Looks}
use Rattle.asking.proofs.Ran.{asked_led, asked_ran, ran_then}
use Rattle.ps_ops.specs.declared.dialect.Operators.{Operators}
use Rattle.asking.specs.Printing.{EndsOver, target_with, printed_in}
use Rattle.asking.proofs.Framed.{frame_fails, no_frame, frame_then_printed}
use Rattle.asking.proofs.shown.printing.Goals as goal

pub returns-in-Err-clause-calls : goal.returns-in-Err-clause-calls
returns-in-Err-clause-calls g c =
    asked_ran g.W.AbsMem.seen g.W.AbsMem.leads c.args.talk.now.memory.below.below.below (λ b. Looks (λ s. frame_at (row_of_target c.args.talk.now.view.target) s b c.args.talk.now.view.context c.args.number)) c.args.inquiry.now c.frame_found.new.inquiry c.frame_found.new.talk.memory.below.below.below
    (List ℕ) c.in-Err.fault c.in-Err.ensures.meaning c.in-Err.ensures.calls

pub returns-in-Ok-None-clause-calls : goal.returns-in-Ok-None-clause-calls
returns-in-Ok-None-clause-calls g c =
    asked_led g.W.AbsMem.seen g.W.AbsMem.leads c.args.talk.now.memory.below.below.below (λ b. Looks (λ s. frame_at (row_of_target c.args.talk.now.view.target) s b c.args.talk.now.view.context c.args.number)) c.args.inquiry.now c.frame_found.new.inquiry c.frame_found.new.talk.memory.below.below.below
    c.in-Ok-None.field-0 c.in-Ok-None.ensures.meaning c.in-Ok-None.ensures.calls

pub returns-in-Ok-Some-clause-calls : goal.returns-in-Ok-Some-clause-calls
returns-in-Ok-Some-clause-calls g c =
    let m = c.args.talk.now.memory.below.below.below in
    let between = c.frame_found.new.talk.memory.below.below.below in
    let after = c.print_in.new.talk.memory.below.below.below in
    ran_then g.W.AbsMem.seen g.W.AbsMem.leads m between after (g.met.W.AbsMem.goes_on m between after) c.print_in.result
    (asked_led g.W.AbsMem.seen g.W.AbsMem.leads m (λ b. Looks (λ s. frame_at (row_of_target c.args.talk.now.view.target) s b c.args.talk.now.view.context c.args.number)) c.args.inquiry.now c.frame_found.new.inquiry between
    c.in-Ok-Some.field-0 c.in-Ok-Some.ensures.meaning c.in-Ok-Some.ensures.calls)
    c.print_in.ensures.calls

pub returns-in-Err-clause-meaning : goal.returns-in-Err-clause-meaning
returns-in-Err-clause-meaning g c =
    frame_fails c.args.talk.now.view c.args.talk.now.memory.below.below.order c.args.number c.args.name.now c.args.inquiry.now c.frame_found.new.inquiry (g.W.AbsMem.seen c.args.talk.now.memory.below.below.below) (g.W.AbsMem.seen c.frame_found.new.talk.memory.below.below.below) c.in-Err.fault c.in-Err.ensures.meaning

pub returns-in-Ok-None-clause-meaning : goal.returns-in-Ok-None-clause-meaning
returns-in-Ok-None-clause-meaning g c =
    let none : c.in-Ok-None.field-0 ≡ None = cc in
    no_frame c.args.talk.now.view c.args.talk.now.memory.below.below.order c.args.number c.args.name.now c.args.inquiry.now c.frame_found.new.inquiry (g.W.AbsMem.seen c.args.talk.now.memory.below.below.below) (g.W.AbsMem.seen c.frame_found.new.talk.memory.below.below.below) c.in-Ok-None.field-0 c.in-Ok-None.ensures.meaning none

pub returns-in-Ok-Some-clause-meaning : goal.returns-in-Ok-Some-clause-meaning
returns-in-Ok-Some-clause-meaning g c =
    let some : c.in-Ok-Some.field-0 ≡ Some c.in-Ok-Some.frame = cc in
    let after = c.print_in.new in
    frame_then_printed c.args.talk.now.view c.args.talk.now.memory.below.below.order c.args.number c.args.name.now c.args.inquiry.now c.frame_found.new.inquiry (g.W.AbsMem.seen c.args.talk.now.memory.below.below.below) (g.W.AbsMem.seen c.frame_found.new.talk.memory.below.below.below) c.in-Ok-Some.field-0 c.in-Ok-Some.ensures.meaning c.in-Ok-Some.frame some c.frame_found.ensures.closed c.print_in.result after.inquiry (g.W.AbsMem.seen after.talk.memory.below.below.below)
    (subst (λ (o : Operators g.row.W.Denot). EndsOver (printed_in c.args.number c.in-Ok-Some.frame c.args.name.now) (target_with o) c.frame_found.new.inquiry (g.W.AbsMem.seen c.frame_found.new.talk.memory.below.below.below) c.print_in.result after.inquiry (g.W.AbsMem.seen after.talk.memory.below.below.below))
    c.in-Ok-Some.ensures.kept c.print_in.ensures.meaning)
