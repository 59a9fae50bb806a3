use Rattle.std.proofs.Common.{◌≡◌, ◌<◌, refl, ap, length, Option, Ok, Err, arith}
use Rattle.std.proofs.lemmas.Grind.{common_steps}
use Rattle.machine_state.specs.State.{Behaviour}
use Rattle.nub_wire.specs.Nub.{Host}
use Rattle.abs_mem.specs.WireMeaning.{wire_seen}
use Rattle.claims.specs.Side.{SideState}
use Rattle.session.specs.Turned.{byte_of, order_of}
use Rattle.session.proofs.Pointing.{no_items}
use Rattle.session.proofs.Counting.{plants_counts, unbroken_on}
use Rattle.session.proofs.Looked.{unprepared_stays, unplanted_stays}
use Rattle.session.proofs.Words.{wire_of, seen_on, plants_by, found, stepped, not_told_turned, not_planted, stays_by, some_items}
use Rattle.session.proofs.Wanting.{same_table}
use Rattle.session.proofs.preparing.prepared.Goals as goal

pub returns-then-not-is_empty-clause-meant : goal.returns-then-not-is_empty-clause-meant
returns-then-not-is_empty-clause-meant g c = λ (b : Behaviour) (h : Host) (beside : Option Host) (a : SideState) x for none.
    let side = c.args.side.now in
    let long : 0 < length side.row.step_words.items = first_of (omega arith, grind (arith, common_steps)) in
    found b g.L.Link.conduct (g.L.Link.world (wire_of c.args.talk.now).link) (g.L.Link.world (wire_of c.args.talk.now).link) 0 0 side side.which (order_of side.machine) h beside x a (some_items side.row.step_words.items long)

pub returns-in-Err-clause-meant : goal.returns-in-Err-clause-meant
returns-in-Err-clause-meant g c = λ (b : Behaviour) (h : Host) (beside : Option Host) (a : SideState) x for none.
    let side = c.args.side.now in
    let empty : length side.row.step_words.items ≡ 0 = first_of (omega arith, grind (arith, common_steps)) in
    not_told_turned g.L.Link.world g.L.Link.faults c.args.talk.now c.turn.new.talk b g.L.Link.conduct side h beside x a for none (no_items side.row.step_words.items empty) c.points_of.new.inquiry c.in-Err.fault c.turn.ensures (c.in-Err.ensures.meant a.table for.table)

pub returns-in-Ok-plant_for_step-clause-meant : goal.returns-in-Ok-plant_for_step-clause-meant
returns-in-Ok-plant_for_step-clause-meant g c = λ (b : Behaviour) (h : Host) (beside : Option Host) (a : SideState) x for none.
    let side = c.args.side.now in
    let m = c.plant_for_step.new.m in
    let empty : length side.row.step_words.items ≡ 0 = first_of (omega arith, grind (arith, common_steps)) in
    stepped b g.L.Link.conduct (g.L.Link.world (wire_of c.args.talk.now).link) (g.L.Link.world m.link) (g.L.Link.faults (wire_of c.args.talk.now).link) (g.L.Link.faults m.link) side m.side m.order h beside x a for none (no_items side.row.step_words.items empty) c.points_of.new.inquiry
    c.in-Ok.points.items (record side.row { step_words = c.plant_for_step.new.points; words_stay = c.may_stay-words_stay.result }) (c.in-Ok.ensures.meant a.table for.table) refl refl refl (stays_by c.may_stay-words_stay.result c.as_slice.result.now c.in-Ok.points.items c.may_stay-words_stay.ensures c.as_slice.ensures.value)
    (plants_by g.L.Link.world g.L.Link.faults g.L.Link.conduct side c.args.talk.now c.turn.new.talk c.byte-target.result c.in-Ok.points.items c.plant_for_step.new.points.items (Ok tt)
    (wire_seen g.L.Link.conduct (g.L.Link.world m.link) (g.L.Link.faults m.link) m.side m.order) c.turn.ensures c.byte-target.ensures.value c.in-Ok-plant_for_step.ensures.meaning)

pub returns-in-Err-plant_for_step-clause-meant : goal.returns-in-Err-plant_for_step-clause-meant
returns-in-Err-plant_for_step-clause-meant g c = λ (b : Behaviour) (h : Host) (beside : Option Host) (a : SideState) x for none.
    let side = c.args.side.now in
    let m = c.plant_for_step.new.m in
    let empty : length side.row.step_words.items ≡ 0 = first_of (omega arith, grind (arith, common_steps)) in
    not_planted b g.L.Link.conduct (g.L.Link.world (wire_of c.args.talk.now).link) (g.L.Link.world m.link) (g.L.Link.faults (wire_of c.args.talk.now).link) (g.L.Link.faults m.link) side m.side m.order h beside x a for none (no_items side.row.step_words.items empty) c.points_of.new.inquiry
    (λ u. Unit {0}) c.in-Ok.points.items c.plant_for_step.new.points.items c.in-Err-plant_for_step.fault c.memory_fault.result c.memory_fault.ensures.value (c.in-Ok.ensures.meant a.table for.table)
    (plants_by g.L.Link.world g.L.Link.faults g.L.Link.conduct side c.args.talk.now c.turn.new.talk c.byte-target.result c.in-Ok.points.items c.plant_for_step.new.points.items (Err c.in-Err-plant_for_step.fault)
    (wire_seen g.L.Link.conduct (g.L.Link.world m.link) (g.L.Link.faults m.link) m.side m.order) c.turn.ensures c.byte-target.ensures.value c.in-Err-plant_for_step.ensures.meaning)

pub returns-in-Err-clause-stays : goal.returns-in-Err-clause-stays
returns-in-Err-clause-stays g c = λ (b : Behaviour) (h : Host) (beside : Option Host) (a : SideState) x for none is.
    let side = c.args.side.now in
    let empty : length side.row.step_words.items ≡ 0 = first_of (omega arith, grind (arith, common_steps)) in
    unprepared_stays g.L.Link.conduct g.L.Link.world side c.args.talk.now c.turn.new.talk c.turn.ensures b h beside a x for none (no_items side.row.step_words.items empty) c.points_of.new.inquiry c.points_of.ensures.table

pub returns-in-Err-clause-count : goal.returns-in-Err-clause-count
returns-in-Err-clause-count g c =
    unbroken_on (g.L.Link.faults (wire_of c.args.talk.now).link) (g.L.Link.faults (wire_of c.turn.new.talk).link) (ap (λ o. g.L.Link.faults (wire_of o).link) c.turn.ensures) c.in-Err.fault c.in-Err.ensures.unbroken

pub returns-in-Err-plant_for_step-clause-stays : goal.returns-in-Err-plant_for_step-clause-stays
returns-in-Err-plant_for_step-clause-stays g c = λ (b : Behaviour) (h : Host) (beside : Option Host) (a : SideState) x for none is.
    let side = c.args.side.now in
    let m = c.plant_for_step.new.m in
    let empty : length side.row.step_words.items ≡ 0 = first_of (omega arith, grind (arith, common_steps)) in
    unplanted_stays b g.L.Link.conduct (g.L.Link.world (wire_of c.args.talk.now).link) (g.L.Link.world m.link) (g.L.Link.faults (wire_of c.args.talk.now).link) (g.L.Link.faults m.link) side m.side m.order h beside a x for none (no_items side.row.step_words.items empty) c.points_of.new.inquiry c.points_of.ensures.table
    c.in-Ok.points.items c.plant_for_step.new.points.items c.in-Err-plant_for_step.fault c.memory_fault.result c.memory_fault.ensures.value is
    (plants_by g.L.Link.world g.L.Link.faults g.L.Link.conduct side c.args.talk.now c.turn.new.talk c.byte-target.result c.in-Ok.points.items c.plant_for_step.new.points.items (Err c.in-Err-plant_for_step.fault)
    (wire_seen g.L.Link.conduct (g.L.Link.world m.link) (g.L.Link.faults m.link) m.side m.order) c.turn.ensures c.byte-target.ensures.value c.in-Err-plant_for_step.ensures.meaning)

pub returns-in-Err-plant_for_step-clause-count : goal.returns-in-Err-plant_for_step-clause-count
returns-in-Err-plant_for_step-clause-count g c =
    let m = c.plant_for_step.new.m in
    plants_counts (seen_on g.L.Link.conduct (g.L.Link.world (wire_of c.args.talk.now).link) (g.L.Link.faults (wire_of c.args.talk.now).link) c.args.side.now) (wire_seen g.L.Link.conduct (g.L.Link.world m.link) (g.L.Link.faults m.link) m.side m.order) (byte_of c.args.side.now.machine)
    c.in-Ok.points.items c.plant_for_step.new.points.items c.in-Err-plant_for_step.fault c.memory_fault.result c.memory_fault.ensures.value
    (plants_by g.L.Link.world g.L.Link.faults g.L.Link.conduct c.args.side.now c.args.talk.now c.turn.new.talk c.byte-target.result c.in-Ok.points.items c.plant_for_step.new.points.items (Err c.in-Err-plant_for_step.fault)
    (wire_seen g.L.Link.conduct (g.L.Link.world m.link) (g.L.Link.faults m.link) m.side m.order) c.turn.ensures c.byte-target.ensures.value c.in-Err-plant_for_step.ensures.meaning)

pub returns-in-Ok-plant_for_step-clause-count : goal.returns-in-Ok-plant_for_step-clause-count
returns-in-Ok-plant_for_step-clause-count g c =
    let m = c.plant_for_step.new.m in
    let p =
    plants_by g.L.Link.world g.L.Link.faults g.L.Link.conduct c.args.side.now c.args.talk.now c.turn.new.talk c.byte-target.result c.in-Ok.points.items c.plant_for_step.new.points.items (Ok tt)
    (wire_seen g.L.Link.conduct (g.L.Link.world m.link) (g.L.Link.faults m.link) m.side m.order) c.turn.ensures c.byte-target.ensures.value c.in-Ok-plant_for_step.ensures.meaning in
    p.0

-- ---- its table

pub returns-then-not-is_empty-clause-table : goal.returns-then-not-is_empty-clause-table
returns-then-not-is_empty-clause-table g c = same_table c.args.side.now.inquiry.core.store

pub returns-in-Err-clause-table : goal.returns-in-Err-clause-table
returns-in-Err-clause-table g c = c.points_of.ensures.table

pub returns-in-Ok-plant_for_step-clause-table : goal.returns-in-Ok-plant_for_step-clause-table
returns-in-Ok-plant_for_step-clause-table g c = c.points_of.ensures.table

pub returns-in-Err-plant_for_step-clause-table : goal.returns-in-Err-plant_for_step-clause-table
returns-in-Err-plant_for_step-clause-table g c = c.points_of.ensures.table
