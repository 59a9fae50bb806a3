use Rattle.std.proofs.Common.{◌∙◌, ℕ, List, sym, subst, Err, IfErr}
use Rattle.ps_step.specs.declared.fault.PsError.TheVariants.{RangeCheck}
use Rattle.table_asks.specs.declared.fault.AskFault.{AskFault}
use Rattle.session.specs.Counted.{CountsFault}
use Rattle.session.specs.Meant.{TalksWell}
use Rattle.session.proofs.Counting.{counts_on}
use Rattle.session.specs.Meant.{debugged}
use Rattle.session.proofs.Wanting.{ran_same, side_stays}
use Rattle.session.proofs.Ending.{set_else, outside_else}
use Rattle.session.proofs.Looked.{stays_well, only_well, well_on, undone_there, unset_counts, unset_well, on_ok, unbroken_there}
use Rattle.table_asks.specs.Faults.{IsUnbroken}
use Rattle.session.specs.Wanting.{StoresOne}
use Rattle.session.proofs.Storing.{put_stores}
use Rattle.session.proofs.both.assign_one.Goals as goal

pub returns-in-Err-clause-count : goal.returns-in-Err-clause-count
returns-in-Err-clause-count g c = unset_counts (g.L.Link.faults c.args.talk.now.memory.below.below.below.link) c.in-Err.fault c.in-Err.ensures.err

pub returns-in-Err-clause-evaluated : goal.returns-in-Err-clause-evaluated
returns-in-Err-clause-evaluated g c = λ b h beside there. unset_well (g.L.Link.faults c.args.talk.now.memory.below.below.below.link) c.in-Err.fault c.in-Err.ensures.err

pub returns-in-Ok-assigned-clause-count : goal.returns-in-Ok-assigned-clause-count
returns-in-Ok-assigned-clause-count g c = counts_on (g.L.Link.faults c.args.talk.now.memory.below.below.below.link) (g.L.Link.faults c.assigned.new.talk.memory.below.below.below.link) (g.L.Link.faults c.store.new.talk.memory.below.below.below.link) c.stored.result c.in-Ok-assigned.ensures.count (c.stored.ensures.count (g.L.Link.faults c.assigned.new.talk.memory.below.below.below.link) (g.L.Link.faults c.store.new.talk.memory.below.below.below.link) c.store.ensures.count)

pub returns-in-Ok-assigned-clause-evaluated : goal.returns-in-Ok-assigned-clause-evaluated
returns-in-Ok-assigned-clause-evaluated g c = λ b h beside there.
    well_on (g.L.Link.faults c.args.talk.now.memory.below.below.below.link) (g.L.Link.faults c.assigned.new.talk.memory.below.below.below.link) (g.L.Link.faults c.store.new.talk.memory.below.below.below.link) (Unit {0}) c.stored.result c.in-Ok-assigned.ensures.count
    (c.stored.ensures.well (g.L.Link.faults c.assigned.new.talk.memory.below.below.below.link) (g.L.Link.faults c.store.new.talk.memory.below.below.below.link) (stays_well (g.L.Link.faults c.assigned.new.talk.memory.below.below.below.link) (g.L.Link.faults c.store.new.talk.memory.below.below.below.link) _ (Unit {0}) c.store.result (λ x. tt) (c.store.ensures.stores b h beside (c.in-Ok-assigned.ensures.evaluated b h beside there))))

pub returns-in-Err-assigned-clause-evaluated : goal.returns-in-Err-assigned-clause-evaluated
returns-in-Err-assigned-clause-evaluated g c = λ b h beside there. only_well (g.L.Link.faults c.args.talk.now.memory.below.below.below.link) (g.L.Link.faults c.assigned.new.talk.memory.below.below.below.link) _ c.in-Err-assigned.fault (c.in-Err-assigned.ensures.evaluated b h beside there)

pub returns-in-Ok-assigned-clause-stays : goal.returns-in-Ok-assigned-clause-stays
returns-in-Ok-assigned-clause-stays g c = λ b h beside a there ready none u. absurd (c.stored.ensures.whole c.store.ensures.last u)

pub returns-in-Err-assigned-clause-stays : goal.returns-in-Err-assigned-clause-stays
returns-in-Err-assigned-clause-stays g c = λ b h beside a there ready none u.
    let fault = c.in-Err-assigned.fault in
    side_stays b g.L.Link.conduct (g.L.Link.world c.args.talk.now.memory.below.below.below.link) (g.L.Link.world c.assigned.new.talk.memory.below.below.below.link) c.args.first.now c.assigned.new.side h beside there a ready none c.assigned.ensures.same c.assigned.ensures.table
    (undone_there (List ℕ) (g.L.Link.faults c.args.talk.now.memory.below.below.below.link) (g.L.Link.faults c.assigned.new.talk.memory.below.below.below.link) _ fault u (c.in-Err-assigned.ensures.evaluated b h beside there))

pub returns-in-Err-clause-stays : goal.returns-in-Err-clause-stays
returns-in-Err-clause-stays g c = λ b h beside a there ready none u. record { there = there; ran = ran_same (debugged c.args.first.now h) a ready.stands }

pub returns-in-Ok-assigned-clause-word : goal.returns-in-Ok-assigned-clause-word
returns-in-Ok-assigned-clause-word g c = c.stored.ensures.word (set_else c.in-Ok.said.set c.in-Ok.ensures.ok.0) (outside_else RangeCheck c.in-Ok.said.outside c.in-Ok.ensures.ok.1)

pub returns-in-Ok-assigned-clause-leaves : goal.returns-in-Ok-assigned-clause-leaves
returns-in-Ok-assigned-clause-leaves g c = λ b h beside a there ready none.
    let f = g.L.Link.faults c.assigned.new.talk.memory.below.below.below.link in
    let f1 = g.L.Link.faults c.store.new.talk.memory.below.below.below.link in
    let o = g.L.Link.world c.args.talk.now.memory.below.below.below.link in
    let o1 = g.L.Link.world c.store.new.talk.memory.below.below.below.link in
    let first = c.args.first.now in
    let one = c.assigned.new.side in
    on_ok (IfErr c.store.result (λ (e : AskFault). IsUnbroken e)) (λ x. StoresOne b g.L.Link.conduct o1 first one h beside a) c.stored.result
    (λ x u. put_stores b g.L.Link.conduct o o1 first one h beside there a ready none c.assigned.ensures.same c.assigned.ensures.table (unbroken_there f f1 _ c.store.result u (c.store.ensures.stores b h beside (c.in-Ok-assigned.ensures.evaluated b h beside there)))) c.stored.ensures.done
