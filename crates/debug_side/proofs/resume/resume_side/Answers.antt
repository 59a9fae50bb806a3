use Rattle.std.proofs.Common.{◌∙◌, sym, ap, Bool, Option, Err}
use Rattle.std.specs.Global.{Vec}
use Rattle.table_points.specs.declared.row.Point.{Point}
use Rattle.machine_state.specs.State.{Behaviour}
use Rattle.nub_wire.specs.Nub.{Host}
use Rattle.debug_side.specs.declared.event.Event.{Event}
use Rattle.debug_side.specs.Meant.{keeps_words}
use Rattle.debug_side.specs.Told.{its_event, its_output, host_at_event, host_behind}
use Rattle.debug_side.proofs.Coming.{came_err, came_left, came_cleared, not_cleared}
use Rattle.debug_side.proofs.Resuming.{counts_then, called_then, called_then_badly, puts_count}
use Rattle.debug_side.proofs.resume.resume_side.Goals as goal

pub returns-in-Err-unplant_all-clause-calls : goal.returns-in-Err-unplant_all-clause-calls
returns-in-Err-unplant_all-clause-calls g c =
    called_then_badly g.L.Link.took g.L.Link.gave (λ w. w.link) (λ w. w.side) c.args.wire.now.side c.args.wire.now.link c.meet.new.wire c.unplant_all.new.m c.in-Ok.event c.in-Err-unplant_all.fault c.in-Ok.ensures.calls c.in-Err-unplant_all.ensures.calls

pub returns-in-Err-unplant_all-clause-cause : goal.returns-in-Err-unplant_all-clause-cause
returns-in-Err-unplant_all-clause-cause g c =
    counts_then Event Event (g.L.Link.faults c.args.wire.now.link) (g.L.Link.faults c.meet.new.wire.link) (g.L.Link.faults c.unplant_all.new.m.link) (g.S.Sink.faults c.args.out.now) (g.S.Sink.faults c.meet.new.out) c.in-Ok.event c.in-Err-unplant_all.fault c.in-Ok.ensures.cause
    (puts_count g.L.Link.conduct (g.L.Link.world c.meet.new.wire.link) (g.L.Link.world c.unplant_all.new.m.link) (g.L.Link.faults c.meet.new.wire.link) (g.L.Link.faults c.unplant_all.new.m.link) c.meet.new.wire.side c.unplant_all.new.m.side c.meet.new.wire.order c.unplant_all.new.m.order (Err c.in-Err-unplant_all.fault) _ c.in-Err-unplant_all.ensures.meaning)

pub returns-in-Ok-unplant_all-clause-calls : goal.returns-in-Ok-unplant_all-clause-calls
returns-in-Ok-unplant_all-clause-calls g c =
    called_then g.L.Link.took g.L.Link.gave c.args.wire.now.side c.meet.new.wire.side c.unplant_all.new.m.side c.args.wire.now.link c.meet.new.wire.link c.unplant_all.new.m.link c.in-Ok.event c.in-Ok.ensures.calls c.in-Ok-unplant_all.ensures.calls

pub returns-in-Ok-unplant_all-clause-cause : goal.returns-in-Ok-unplant_all-clause-cause
returns-in-Ok-unplant_all-clause-cause g c = (c.in-Ok-unplant_all.ensures.meaning.faults ∙ c.in-Ok.ensures.cause.0, c.in-Ok.ensures.cause.1)

pub returns-in-Err-clause-told : goal.returns-in-Err-clause-told
returns-in-Err-clause-told g c = λ (b : Behaviour) (h : Host) (beside : Option Host) x same keeps may.
    came_err b g.L.Link.conduct c.args.wire.now.side beside (its_event b c.args.kind c.args.row.now c.args.limit h) (its_output b c.args.kind c.args.row.now c.args.limit h) (host_at_event b c.args.kind c.args.row.now c.args.limit h)
    (host_behind b c.args.kind c.args.row.now c.args.limit h) c.in-Err.fault (g.L.Link.world c.meet.new.wire.link) (g.L.Link.world c.meet.new.wire.link) c.meet.new.wire.order c.meet.new.wire.order (g.S.Sink.taken c.args.out.now) (g.S.Sink.taken c.meet.new.out)
    (c.in-Err.ensures.told b h beside x same keeps may)

pub returns-then-keeps_words-clause-told : goal.returns-then-keeps_words-clause-told
returns-then-keeps_words-clause-told g c = λ (b : Behaviour) (h : Host) (beside : Option Host) x same keeps may.
    let row = c.args.row.now in
    came_left b g.L.Link.conduct c.args.wire.now.side beside (its_event b c.args.kind row c.args.limit h) (its_output b c.args.kind row c.args.limit h) (host_at_event b c.args.kind row c.args.limit h)
    row.words_stay row.kept c.args.kind.target row.step_words.items c.in-Ok.event (g.L.Link.world c.meet.new.wire.link) c.meet.new.wire.order (g.S.Sink.taken c.args.out.now) (g.S.Sink.taken c.meet.new.out)
    (ap (λ (t : Bool). keeps_words t row.kept c.in-Ok.event) (sym c.in-Ok.ensures.stay) ∙ (sym c.keeps_words.ensures ∙ c.if-keeps_words.true)) (c.in-Ok.ensures.told b h beside x same keeps may)

pub returns-in-Err-unplant_all-clause-told : goal.returns-in-Err-unplant_all-clause-told
returns-in-Err-unplant_all-clause-told g c = λ (b : Behaviour) (h : Host) (beside : Option Host) x same keeps may.
    let row = c.args.row.now in
    not_cleared b g.L.Link.conduct c.args.wire.now.side beside (its_event b c.args.kind row c.args.limit h) (its_output b c.args.kind row c.args.limit h) (host_at_event b c.args.kind row c.args.limit h)
    row.words_stay row.kept c.args.kind.target row.step_words.items c.in-Ok.event c.in-Err-unplant_all.fault (g.L.Link.world c.meet.new.wire.link) (g.L.Link.world c.unplant_all.new.m.link) (g.L.Link.faults c.meet.new.wire.link)
    (g.L.Link.faults c.unplant_all.new.m.link) c.meet.new.wire.side c.unplant_all.new.m.side c.meet.new.wire.order c.unplant_all.new.m.order _ (g.S.Sink.taken c.args.out.now) (g.S.Sink.taken c.meet.new.out) c.in-Ok.ensures.calls.0
    (c.in-Ok.ensures.told b h beside x same keeps may) c.in-Err-unplant_all.ensures.meaning

pub returns-in-Ok-unplant_all-clause-told : goal.returns-in-Ok-unplant_all-clause-told
returns-in-Ok-unplant_all-clause-told g c = λ (b : Behaviour) (h : Host) (beside : Option Host) x same keeps may.
    let row = c.args.row.now in
    came_cleared b g.L.Link.conduct c.args.wire.now.side beside (its_event b c.args.kind row c.args.limit h) (its_output b c.args.kind row c.args.limit h) (host_at_event b c.args.kind row c.args.limit h)
    row.words_stay row.kept c.args.kind.target row.step_words.items c.in-Ok.event (g.L.Link.world c.meet.new.wire.link) (g.L.Link.world c.unplant_all.new.m.link) (g.L.Link.faults c.meet.new.wire.link)
    (g.L.Link.faults c.unplant_all.new.m.link) c.meet.new.wire.side c.unplant_all.new.m.side c.meet.new.wire.order c.unplant_all.new.m.order (g.S.Sink.taken c.args.out.now) (g.S.Sink.taken c.meet.new.out) c.as_slice.result.now
    c.in-Ok.ensures.calls.0 (c.as_slice.ensures.value ∙ ap (λ (v : Vec Point). v.items) c.in-Ok.ensures.words)
    (ap (λ (t : Bool). keeps_words t row.kept c.in-Ok.event) (sym c.in-Ok.ensures.stay) ∙ (sym c.keeps_words.ensures ∙ c.if-keeps_words.false)) (c.in-Ok.ensures.told b h beside x same keeps may)
    c.in-Ok-unplant_all.ensures.meaning
