use Rattle.std.proofs.Common.{refl, Option, Ok, Err}
use Rattle.machine_state.specs.State.{Behaviour}
use Rattle.nub_wire.specs.Nub.{Host}
use Rattle.abs_mem.specs.WireMeaning.{wire_seen}
use Rattle.session.proofs.Counting.{puts_counts}
use Rattle.session.proofs.Words.{wire_of, seen_on, Cleared, clears_by, settled, not_settled}
use Rattle.session.proofs.preparing.unprepared.Goals as goal

pub returns-in-Err-clause-meant : goal.returns-in-Err-clause-meant
returns-in-Err-clause-meant g c = λ (b : Behaviour) (h : Host) (beside : Option Host) x.
    let m = c.unplant_all.new.m in
    not_settled b g.L.Link.conduct (g.L.Link.world (wire_of c.args.talk.now).link) (g.L.Link.world m.link) (g.L.Link.faults (wire_of c.args.talk.now).link) (g.L.Link.faults m.link) c.args.side.now m.side m.order h beside x (Unit {0}) c.in-Err.fault
    (clears_by g.L.Link.world g.L.Link.faults g.L.Link.conduct c.args.side.now c.args.talk.now c.turn.new.talk c.byte-target.result c.as_slice-words.result.now (Err c.in-Err.fault)
    (wire_seen g.L.Link.conduct (g.L.Link.world m.link) (g.L.Link.faults m.link) m.side m.order) c.turn.ensures c.byte-target.ensures.value c.as_slice-words.ensures.value c.in-Err.ensures.meaning)

pub returns-in-Ok-clause-meant : goal.returns-in-Ok-clause-meant
returns-in-Ok-clause-meant g c = λ (b : Behaviour) (h : Host) (beside : Option Host) x.
    let m = c.unplant_all.new.m in
    settled b g.L.Link.conduct (g.L.Link.world (wire_of c.args.talk.now).link) (g.L.Link.world m.link) (g.L.Link.faults (wire_of c.args.talk.now).link) (g.L.Link.faults m.link) c.args.side.now m.side m.order h beside x (record c.args.side.now.row { step_words = c.clear.new.self }) refl refl refl c.clear.ensures.items
    (clears_by g.L.Link.world g.L.Link.faults g.L.Link.conduct c.args.side.now c.args.talk.now c.turn.new.talk c.byte-target.result c.as_slice-words.result.now (Ok tt)
    (wire_seen g.L.Link.conduct (g.L.Link.world m.link) (g.L.Link.faults m.link) m.side m.order) c.turn.ensures c.byte-target.ensures.value c.as_slice-words.ensures.value c.in-Ok.ensures.meaning)

pub returns-in-Err-clause-count : goal.returns-in-Err-clause-count
returns-in-Err-clause-count g c =
    let m = c.unplant_all.new.m in
    puts_counts (seen_on g.L.Link.conduct (g.L.Link.world (wire_of c.args.talk.now).link) (g.L.Link.faults (wire_of c.args.talk.now).link) c.args.side.now) (wire_seen g.L.Link.conduct (g.L.Link.world m.link) (g.L.Link.faults m.link) m.side m.order) (Cleared c.args.side.now) (Err c.in-Err.fault)
    (clears_by g.L.Link.world g.L.Link.faults g.L.Link.conduct c.args.side.now c.args.talk.now c.turn.new.talk c.byte-target.result c.as_slice-words.result.now (Err c.in-Err.fault)
    (wire_seen g.L.Link.conduct (g.L.Link.world m.link) (g.L.Link.faults m.link) m.side m.order) c.turn.ensures c.byte-target.ensures.value c.as_slice-words.ensures.value c.in-Err.ensures.meaning)

pub returns-in-Ok-clause-count : goal.returns-in-Ok-clause-count
returns-in-Ok-clause-count g c =
    let m = c.unplant_all.new.m in
    puts_counts (seen_on g.L.Link.conduct (g.L.Link.world (wire_of c.args.talk.now).link) (g.L.Link.faults (wire_of c.args.talk.now).link) c.args.side.now) (wire_seen g.L.Link.conduct (g.L.Link.world m.link) (g.L.Link.faults m.link) m.side m.order) (Cleared c.args.side.now) (Ok tt)
    (clears_by g.L.Link.world g.L.Link.faults g.L.Link.conduct c.args.side.now c.args.talk.now c.turn.new.talk c.byte-target.result c.as_slice-words.result.now (Ok tt)
    (wire_seen g.L.Link.conduct (g.L.Link.world m.link) (g.L.Link.faults m.link) m.side m.order) c.turn.ensures c.byte-target.ensures.value c.as_slice-words.ensures.value c.in-Ok.ensures.meaning)
