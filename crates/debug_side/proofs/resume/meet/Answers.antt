use Rattle.std.proofs.Common.{◌∙◌, sym, subst, Option, Ok, Err}
use Rattle.machine_state.specs.State.{Behaviour}
use Rattle.nub_wire.specs.declared.message.Ending.{Ending}
use Rattle.nub_wire.specs.declared.link.Side.{Side}
use Rattle.nub_wire.specs.Nub.{Host}
use Rattle.resuming.specs.Runs.{RunTold}
use Rattle.resuming.specs.Standing.{Stands}
use Rattle.debug_side.specs.declared.event.Event.{Event}
use Rattle.debug_side.specs.Told.{moved_there, its_run, its_event, its_output, host_at_event}
use Rattle.debug_side.proofs.Coming.{kept_told, not_moved, passed_on, may_run, run_failed, run_came}
use Rattle.debug_side.proofs.Resuming.{counts_talk, counts_after, counts_other, called_none, called_badly, called_run, called_fault, puts_count}
use Rattle.debug_side.proofs.resume.meet.Goals as goal

pub returns-in-Some-clause-calls : goal.returns-in-Some-clause-calls
returns-in-Some-clause-calls g c = called_none g.L.Link.took g.L.Link.gave c.args.wire.now.side c.args.wire.now.link c.in-Some.event

pub returns-in-Err-clause-calls : goal.returns-in-Err-clause-calls
returns-in-Err-clause-calls g c = called_badly g.L.Link.took g.L.Link.gave (λ w. w.link) (λ w. w.side) c.args.wire.now c.pass_no_op.new.m c.in-Err.fault c.in-Err.ensures.calls

pub returns-in-Err-clause-cause : goal.returns-in-Err-clause-cause
returns-in-Err-clause-cause g c =
    counts_talk Event (g.L.Link.faults c.args.wire.now.link) (g.L.Link.faults c.pass_no_op.new.m.link) (g.S.Sink.faults c.args.out.now) c.in-Err.fault
    (puts_count g.L.Link.conduct (g.L.Link.world c.args.wire.now.link) (g.L.Link.world c.pass_no_op.new.m.link) (g.L.Link.faults c.args.wire.now.link) (g.L.Link.faults c.pass_no_op.new.m.link) c.args.wire.now.side c.pass_no_op.new.m.side c.args.wire.now.order c.pass_no_op.new.m.order (Err c.in-Err.fault) _ c.in-Err.ensures.meaning)

pub returns-in-Err-run_to_event-clause-calls : goal.returns-in-Err-run_to_event-clause-calls
returns-in-Err-run_to_event-clause-calls g c =
    called_fault g.L.Link.took g.L.Link.gave c.args.wire.now.side c.pass_no_op.new.m.side c.args.wire.now.link c.pass_no_op.new.m.link c.run_to_event.new.link c.args.limit c.in-Err-run_to_event.fault c.in-Ok.ensures.calls c.in-Err-run_to_event.ensures.calls

pub returns-in-Err-run_to_event-clause-cause : goal.returns-in-Err-run_to_event-clause-cause
returns-in-Err-run_to_event-clause-cause g c =
    counts_other Ending Event (g.L.Link.faults c.args.wire.now.link) (g.L.Link.faults c.run_to_event.new.link) (g.S.Sink.faults c.args.out.now) (g.S.Sink.faults c.run_to_event.new.out) c.in-Err-run_to_event.fault
    (counts_after Ending (g.L.Link.faults c.args.wire.now.link) (g.L.Link.faults c.pass_no_op.new.m.link) (g.L.Link.faults c.run_to_event.new.link) (g.S.Sink.faults c.args.out.now) (g.S.Sink.faults c.run_to_event.new.out) (Err c.in-Err-run_to_event.fault) c.in-Ok.ensures.meaning.faults c.in-Err-run_to_event.ensures.cause)

pub returns-in-Ok-run_to_event-clause-calls : goal.returns-in-Ok-run_to_event-clause-calls
returns-in-Ok-run_to_event-clause-calls g c =
    called_run g.L.Link.took g.L.Link.gave c.args.wire.now.side c.pass_no_op.new.m.side c.args.wire.now.link c.pass_no_op.new.m.link c.run_to_event.new.link c.args.limit c.in-Ok-run_to_event.ending c.event_by-event.result c.in-Ok.ensures.calls
    c.in-Ok-run_to_event.ensures.calls

pub returns-in-Ok-run_to_event-clause-cause : goal.returns-in-Ok-run_to_event-clause-cause
returns-in-Ok-run_to_event-clause-cause g c = (c.in-Ok-run_to_event.ensures.cause.0 ∙ c.in-Ok.ensures.meaning.faults, c.in-Ok-run_to_event.ensures.cause.1)

pub returns-in-Some-clause-told : goal.returns-in-Some-clause-told
returns-in-Some-clause-told g c = λ (b : Behaviour) (h : Host) (beside : Option Host) x same keeps may.
    kept_told b g.L.Link.conduct c.args.wire.now.side beside c.args.row.now.kept c.in-Some.event c.args.row.now (its_run b c.args.kind c.args.row.now c.args.limit h) h (moved_there b c.args.kind c.args.row.now c.args.limit h)
    (g.L.Link.world c.args.wire.now.link) c.args.wire.now.order (g.S.Sink.taken c.args.out.now) c.in-Some.is x same

pub returns-in-Err-clause-told : goal.returns-in-Err-clause-told
returns-in-Err-clause-told g c = λ (b : Behaviour) (h : Host) (beside : Option Host) x same keeps may.
    not_moved b g.L.Link.conduct c.args.wire.now.side beside (its_event b c.args.kind c.args.row.now c.args.limit h) (its_output b c.args.kind c.args.row.now c.args.limit h) (host_at_event b c.args.kind c.args.row.now c.args.limit h) h
    c.in-Err.fault (g.L.Link.world c.args.wire.now.link) (g.L.Link.world c.pass_no_op.new.m.link) (g.L.Link.faults c.args.wire.now.link) (g.L.Link.faults c.pass_no_op.new.m.link) c.pass_no_op.new.m.side c.args.wire.now.order
    c.pass_no_op.new.m.order _ (g.S.Sink.taken c.args.out.now) x same c.in-Err.ensures.meaning

pub returns-in-Err-run_to_event-clause-told : goal.returns-in-Err-run_to_event-clause-told
returns-in-Err-run_to_event-clause-told g c = λ (b : Behaviour) (h : Host) (beside : Option Host) x same keeps may.
    let there : Host = moved_there b c.args.kind c.args.row.now c.args.limit h in
    let led = c.in-Ok.ensures.calls.side_is in
    let p = passed_on b g.L.Link.conduct c.args.wire.now.side beside c.args.kind.context c.args.row.now.stands_at h (g.L.Link.world c.args.wire.now.link) (g.L.Link.world c.pass_no_op.new.m.link) (g.L.Link.faults c.args.wire.now.link)
    (g.L.Link.faults c.pass_no_op.new.m.link) c.pass_no_op.new.m.side c.args.wire.now.order c.pass_no_op.new.m.order x same keeps c.in-Ok.ensures.meaning in
    let told = c.in-Err-run_to_event.ensures.told b there beside (subst (λ (s : Side). Stands b g.L.Link.conduct s (g.L.Link.world c.pass_no_op.new.m.link) there beside) (sym led) p.stands)
    (may_run b g.L.Link.conduct c.args.wire.now.side beside c.args.row.now.kept h c.in-None.is may) in
    run_failed b g.L.Link.conduct c.args.wire.now.side beside c.args.row.now.kept (its_event b c.args.kind c.args.row.now c.args.limit h) c.args.limit there (host_at_event b c.args.kind c.args.row.now c.args.limit h)
    c.in-Err-run_to_event.fault (g.L.Link.world c.run_to_event.new.link) c.pass_no_op.new.m.order (g.S.Sink.taken c.args.out.now) (g.S.Sink.taken c.run_to_event.new.out) c.in-None.is
    (subst (λ (s : Side). RunTold b g.L.Link.conduct s c.args.limit there beside (Err c.in-Err-run_to_event.fault) (g.L.Link.world c.run_to_event.new.link) (g.S.Sink.taken c.args.out.now) (g.S.Sink.taken c.run_to_event.new.out)) led told)

pub returns-in-Ok-run_to_event-clause-told : goal.returns-in-Ok-run_to_event-clause-told
returns-in-Ok-run_to_event-clause-told g c = λ (b : Behaviour) (h : Host) (beside : Option Host) x same keeps may.
    let there : Host = moved_there b c.args.kind c.args.row.now c.args.limit h in
    let led = c.in-Ok.ensures.calls.side_is in
    let p = passed_on b g.L.Link.conduct c.args.wire.now.side beside c.args.kind.context c.args.row.now.stands_at h (g.L.Link.world c.args.wire.now.link) (g.L.Link.world c.pass_no_op.new.m.link) (g.L.Link.faults c.args.wire.now.link)
    (g.L.Link.faults c.pass_no_op.new.m.link) c.pass_no_op.new.m.side c.args.wire.now.order c.pass_no_op.new.m.order x same keeps c.in-Ok.ensures.meaning in
    let told = c.in-Ok-run_to_event.ensures.told b there beside (subst (λ (s : Side). Stands b g.L.Link.conduct s (g.L.Link.world c.pass_no_op.new.m.link) there beside) (sym led) p.stands)
    (may_run b g.L.Link.conduct c.args.wire.now.side beside c.args.row.now.kept h c.in-None.is may) in
    run_came b g.L.Link.conduct c.args.wire.now.side beside c.args.row.now.kept c.args.row.now c.args.limit h there c.event_by-event.result c.in-Ok-run_to_event.ending
    (g.L.Link.world c.run_to_event.new.link) c.pass_no_op.new.m.order (g.S.Sink.taken c.args.out.now) (g.S.Sink.taken c.run_to_event.new.out) c.in-None.is c.event_by-event.ensures p.order_is p.keeps
    (subst (λ (s : Side). RunTold b g.L.Link.conduct s c.args.limit there beside (Ok c.in-Ok-run_to_event.ending) (g.L.Link.world c.run_to_event.new.link) (g.S.Sink.taken c.args.out.now) (g.S.Sink.taken c.run_to_event.new.out)) led told)

-- ---- what the writes leave

pub returns-in-Some-clause-leads : goal.returns-in-Some-clause-leads
returns-in-Some-clause-leads g c = g.met.S.Sink.stays c.args.out.now

pub returns-in-Err-clause-leads : goal.returns-in-Err-clause-leads
returns-in-Err-clause-leads g c = g.met.S.Sink.stays c.args.out.now
