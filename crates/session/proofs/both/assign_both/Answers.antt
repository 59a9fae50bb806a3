use Rattle.std.proofs.Common.{◌∙◌, refl, ap, sym, subst, ℕ, List, Option, Some, Result, Err, OnOk, IfErr}
use Rattle.nub_wire.specs.Nub.{Host}
use Rattle.ps_step.specs.declared.fault.PsError.TheVariants.{RangeCheck}
use Rattle.table_asks.specs.declared.fault.AskFault.{AskFault}
use Rattle.session.specs.Counted.{CountsAsk, CountsFault}
use Rattle.claims.specs.Side.{SessionState}
use Rattle.side_meaning.proofs.Starting.{no_words}
use Rattle.session.specs.Kept.{IsUndone}
use Rattle.debug_side.specs.Told.{with_regions}
use Rattle.table_asks.specs.Faults.{IsUnbroken}
use Rattle.session.specs.Meant.{debugged, Hosts, IsThere, FailsWell, TalksWell, StoredThere}
use Rattle.session.specs.Wanting.{WithTable, WithNumbers, StandAgain}
use Rattle.session.proofs.Counting.{fault_on, counts_on}
use Rattle.session.proofs.Beside.{second_beside, first_beside}
use Rattle.session.proofs.AskingBoth.{failure_or}
use Rattle.session.proofs.Looked.{stays_well, only_well, fails_on, well_on, well_there, undone_there, with_second_there, counts_same, unset_counts, unset_well, on_ok, unbroken_there, first_still}
use Rattle.session.proofs.Ending.{set_else, outside_else}
use Rattle.session.proofs.Wanting.{stands_same, same_with, first_wanted, second_asked, side_stays, there_stays}
use Rattle.session.proofs.Storing.{none_stores, put_stores, both_numbers}
use Rattle.session.proofs.both.assign_both.Goals as goal

pub returns-in-Err-clause-count : goal.returns-in-Err-clause-count
returns-in-Err-clause-count g c = unset_counts (g.L.Link.faults c.args.talk.now.memory.below.below.below.link) c.in-Err.fault c.in-Err.ensures.err

pub returns-in-Err-clause-evaluated : goal.returns-in-Err-clause-evaluated
returns-in-Err-clause-evaluated g c = λ b hs there. unset_well (g.L.Link.faults c.args.talk.now.memory.below.below.below.link) c.in-Err.fault c.in-Err.ensures.err

pub returns-in-Err-mine-clause-evaluated : goal.returns-in-Err-mine-clause-evaluated
returns-in-Err-mine-clause-evaluated g c = λ b hs there. only_well (g.L.Link.faults c.args.talk.now.memory.below.below.below.link) (g.L.Link.faults c.assigned-mine.new.talk.memory.below.below.below.link) _ c.in-Err-mine.fault (c.in-Err-mine.ensures.evaluated b hs.first hs.second there.first_there)

pub returns-in-Err-more-clause-count : goal.returns-in-Err-more-clause-count
returns-in-Err-more-clause-count g c =
    let f = (g.L.Link.faults c.args.talk.now.memory.below.below.below.link) in
    let f1 = (g.L.Link.faults c.assigned-mine.new.talk.memory.below.below.below.link) in
    let f2 = (g.L.Link.faults c.assigned-more.new.talk.memory.below.below.below.link) in
    let f3 = (g.L.Link.faults c.stored_alone.new.talk.memory.below.below.below.link) in
    failure_or c.in-Err-more.fault
    (λ is. let w = c.stored_alone.ensures.failed is in
    subst (λ r. CountsAsk f f3 r) (sym w.0) (subst (λ n. CountsFault f n c.in-Err-more.fault) (ap (λ o. g.L.Link.faults o.memory.below.below.below.link) (sym w.1)) (fault_on f f1 f2 c.in-Err-more.fault c.in-Ok-mine.ensures.count c.in-Err-more.ensures.count)))
    (λ n. counts_on f f2 f3 c.stored_alone.result (counts_same f1 f2 c.in-Err-more.fault n c.in-Err-more.ensures.count ∙ c.in-Ok-mine.ensures.count) (c.stored_alone.ensures.count n))

pub returns-in-Err-more-clause-evaluated : goal.returns-in-Err-more-clause-evaluated
returns-in-Err-more-clause-evaluated g c = λ b (hs : Hosts) there.
    let f = (g.L.Link.faults c.args.talk.now.memory.below.below.below.link) in
    let f1 = (g.L.Link.faults c.assigned-mine.new.talk.memory.below.below.below.link) in
    let f2 = (g.L.Link.faults c.assigned-more.new.talk.memory.below.below.below.link) in
    let f3 = (g.L.Link.faults c.stored_alone.new.talk.memory.below.below.below.link) in
    let o1 = (g.L.Link.world c.assigned-mine.new.talk.memory.below.below.below.link) in
    let o2 = (g.L.Link.world c.assigned-more.new.talk.memory.below.below.below.link) in
    let one = c.assigned-mine.new.side in
    let two = c.assigned-more.new.side in
    with_second_there b g.L.Link.conduct (g.L.Link.world c.args.talk.now.memory.below.below.below.link) o1 c.args.first.now one c.args.second.now hs c.assigned-mine.ensures.which there (c.in-Ok-mine.ensures.evaluated b hs.first hs.second there.first_there) (TalksWell f f3 (Unit {0}) c.stored_alone.result)
    (λ h mine waits e k.
    let more = c.in-Err-more.ensures.evaluated b h (Some hs.first) waits in
    failure_or c.in-Err-more.fault
    (λ is. let w = c.stored_alone.ensures.failed is in
    subst (λ r. TalksWell f f3 (Unit {0}) r) (sym w.0)
    (subst (λ n. FailsWell f n (Unit {0}) c.in-Err-more.fault) (ap (λ o. g.L.Link.faults o.memory.below.below.below.link) (sym w.1)) (fails_on f f1 f2 (Unit {0}) c.in-Err-more.fault c.in-Ok-mine.ensures.count (only_well f1 f2 _ c.in-Err-more.fault more))))
    (λ n.
    let other = well_there f1 f2 _ c.in-Err-more.fault n more in
    let here = first_beside b g.L.Link.conduct o1 o2 one two hs.first h (Some h) e mine (c.assigned-more.ensures.which ∙ k) other in
    well_on f f2 f3 (Unit {0}) c.stored_alone.result (counts_same f1 f2 c.in-Err-more.fault n c.in-Err-more.ensures.count ∙ c.in-Ok-mine.ensures.count) (c.stored_alone.ensures.stores b hs.first (Some h) n here)))

pub returns-clause-count : goal.returns-clause-count
returns-clause-count g c =
    let f = (g.L.Link.faults c.args.talk.now.memory.below.below.below.link) in
    let f2 = (g.L.Link.faults c.assigned-more.new.talk.memory.below.below.below.link) in
    let f3 = (g.L.Link.faults c.store-here.new.talk.memory.below.below.below.link) in
    c.stored.ensures.count f f3 (fault_on f f2 f3 c.in-Err-here.fault (c.in-Ok-more.ensures.count ∙ c.in-Ok-mine.ensures.count) c.in-Err-here.ensures.count)

pub returns-in-Ok-here-clause-count : goal.returns-in-Ok-here-clause-count
returns-in-Ok-here-clause-count g c =
    let f = (g.L.Link.faults c.args.talk.now.memory.below.below.below.link) in
    let f3 = (g.L.Link.faults c.store-here.new.talk.memory.below.below.below.link) in
    let f4 = (g.L.Link.faults c.store.new.talk.memory.below.below.below.link) in
    counts_on f f3 f4 c.stored_on_both.result (c.in-Ok-here.ensures.count ∙ (c.in-Ok-more.ensures.count ∙ c.in-Ok-mine.ensures.count)) (c.stored_on_both.ensures.count f3 f4 c.store.ensures.count)

pub returns-clause-evaluated : goal.returns-clause-evaluated
returns-clause-evaluated g c = λ b (hs : Hosts) there.
    let f = (g.L.Link.faults c.args.talk.now.memory.below.below.below.link) in
    let f2 = (g.L.Link.faults c.assigned-more.new.talk.memory.below.below.below.link) in
    let f3 = (g.L.Link.faults c.store-here.new.talk.memory.below.below.below.link) in
    let o1 = (g.L.Link.world c.assigned-mine.new.talk.memory.below.below.below.link) in
    let o2 = (g.L.Link.world c.assigned-more.new.talk.memory.below.below.below.link) in
    let one = c.assigned-mine.new.side in
    let two = c.assigned-more.new.side in
    with_second_there b g.L.Link.conduct (g.L.Link.world c.args.talk.now.memory.below.below.below.link) o1 c.args.first.now one c.args.second.now hs c.assigned-mine.ensures.which there (c.in-Ok-mine.ensures.evaluated b hs.first hs.second there.first_there) (TalksWell f f3 (Unit {0}) c.stored.result)
    (λ h mine waits e k.
    let other = c.in-Ok-more.ensures.evaluated b h (Some hs.first) waits in
    let here = first_beside b g.L.Link.conduct o1 o2 one two hs.first h (Some h) e mine (c.assigned-more.ensures.which ∙ k) other in
    c.stored.ensures.well f f3 (fails_on f f2 f3 (Unit {0}) c.in-Err-here.fault (c.in-Ok-more.ensures.count ∙ c.in-Ok-mine.ensures.count) (only_well f2 f3 _ c.in-Err-here.fault (c.in-Err-here.ensures.stores b hs.first (Some h) here))))

pub returns-in-Ok-here-clause-evaluated : goal.returns-in-Ok-here-clause-evaluated
returns-in-Ok-here-clause-evaluated g c = λ b (hs : Hosts) there.
    let f = (g.L.Link.faults c.args.talk.now.memory.below.below.below.link) in
    let f3 = (g.L.Link.faults c.store-here.new.talk.memory.below.below.below.link) in
    let f4 = (g.L.Link.faults c.store.new.talk.memory.below.below.below.link) in
    let o1 = (g.L.Link.world c.assigned-mine.new.talk.memory.below.below.below.link) in
    let o2 = (g.L.Link.world c.assigned-more.new.talk.memory.below.below.below.link) in
    let o3 = (g.L.Link.world c.store-here.new.talk.memory.below.below.below.link) in
    let one = c.assigned-mine.new.side in
    let two = c.assigned-more.new.side in
    with_second_there b g.L.Link.conduct (g.L.Link.world c.args.talk.now.memory.below.below.below.link) o1 c.args.first.now one c.args.second.now hs c.assigned-mine.ensures.which there (c.in-Ok-mine.ensures.evaluated b hs.first hs.second there.first_there) (TalksWell f f4 (Unit {0}) c.stored_on_both.result)
    (λ h mine waits e k.
    let other = c.in-Ok-more.ensures.evaluated b h (Some hs.first) waits in
    let here = first_beside b g.L.Link.conduct o1 o2 one two hs.first h (Some h) e mine (c.assigned-more.ensures.which ∙ k) other in
    let put = c.in-Ok-here.ensures.stores b hs.first (Some h) here in
    let then = second_beside b g.L.Link.conduct o2 o3 one two h (with_regions hs.first put.regions) (Some hs.first) (c.assigned-more.ensures.which ∙ k) other e put.there in
    well_on f f3 f4 (Unit {0}) c.stored_on_both.result (c.in-Ok-here.ensures.count ∙ (c.in-Ok-more.ensures.count ∙ c.in-Ok-mine.ensures.count))
    (c.stored_on_both.ensures.well f3 f4 (stays_well f3 f4 _ (Unit {0}) c.store.result (λ x. tt) (c.store.ensures.stores b h (Some (with_regions hs.first put.regions)) then))))

-- ---- without memory

pub returns-in-Err-clause-stays : goal.returns-in-Err-clause-stays
returns-in-Err-clause-stays g c = λ b hs st there ready u. stands_same WithTable same_with b g.L.Link.conduct (g.L.Link.world c.args.talk.now.memory.below.below.below.link) c.args.first.now (Some c.args.second.now) hs st there ready.sides

pub returns-in-Err-mine-clause-stays : goal.returns-in-Err-mine-clause-stays
returns-in-Err-mine-clause-stays g c = λ b (hs : Hosts) (st : SessionState) there ready u.
    let f = (g.L.Link.faults c.args.talk.now.memory.below.below.below.link) in
    let f1 = (g.L.Link.faults c.assigned-mine.new.talk.memory.below.below.below.link) in
    let o = (g.L.Link.world c.args.talk.now.memory.below.below.below.link) in
    let o1 = (g.L.Link.world c.assigned-mine.new.talk.memory.below.below.below.link) in
    let first = c.args.first.now in
    let one = c.assigned-mine.new.side in
    let mine = undone_there (List ℕ) f f1 _ c.in-Err-mine.fault u (c.in-Err-mine.ensures.evaluated b hs.first hs.second there.first_there) in
    first_wanted b g.L.Link.conduct st ready.still o o1 first one (Some c.args.second.now) hs there ready.sides c.assigned-mine.ensures.which
    (side_stays b g.L.Link.conduct o o1 first one hs.first hs.second there.first_there st.first ready.ready.0 (no_words st.state (debugged first hs.first) st.first ready.still ready.sides.first) c.assigned-mine.ensures.same c.assigned-mine.ensures.table mine)

pub returns-in-Err-more-clause-stays : goal.returns-in-Err-more-clause-stays
returns-in-Err-more-clause-stays g c = λ b (hs : Hosts) (st : SessionState) there ready u.
    let f1 = (g.L.Link.faults c.assigned-mine.new.talk.memory.below.below.below.link) in
    let f2 = (g.L.Link.faults c.assigned-more.new.talk.memory.below.below.below.link) in
    let o = (g.L.Link.world c.args.talk.now.memory.below.below.below.link) in
    let o1 = (g.L.Link.world c.assigned-mine.new.talk.memory.below.below.below.link) in
    let o2 = (g.L.Link.world c.assigned-more.new.talk.memory.below.below.below.link) in
    let first = c.args.first.now in
    let one = c.assigned-mine.new.side in
    let two = c.assigned-more.new.side in
    failure_or c.in-Err-more.fault
    (λ is.
    let w = c.stored_alone.ensures.failed is in
    let undone = subst (λ (z : Result (List ℕ) AskFault). IsUndone z) w.0 u in
    subst (λ (z : _). StandAgain WithTable b g.L.Link.conduct (g.L.Link.world z.memory.below.below.below.link) one (Some two) st) (sym w.1)
    (second_asked b g.L.Link.conduct st ready.still o o1 o2 first one c.args.second.now two hs there ready c.assigned-mine.ensures.which c.assigned-more.ensures.which
    (side_stays b g.L.Link.conduct o o1 first one hs.first hs.second there.first_there st.first ready.ready.0 (no_words st.state (debugged first hs.first) st.first ready.still ready.sides.first) c.assigned-mine.ensures.same c.assigned-mine.ensures.table (c.in-Ok-mine.ensures.evaluated b hs.first hs.second there.first_there))
    (λ h beside a x r none. side_stays b g.L.Link.conduct o1 o2 c.args.second.now two h beside x a r none c.assigned-more.ensures.same c.assigned-more.ensures.table (undone_there (List ℕ) f1 f2 _ c.in-Err-more.fault undone (c.in-Err-more.ensures.evaluated b h beside x)))))
    (λ n. absurd (c.stored_alone.ensures.whole n u))

pub returns-clause-stays : goal.returns-clause-stays
returns-clause-stays g c = λ b hs st there ready u. absurd (c.stored.ensures.whole c.in-Err-here.ensures.last u)

pub returns-in-Ok-here-clause-stays : goal.returns-in-Ok-here-clause-stays
returns-in-Ok-here-clause-stays g c = λ b hs st there ready u. absurd (c.stored_on_both.ensures.whole c.store.ensures.last u)

-- ---- what it says

pub returns-in-Err-more-clause-word : goal.returns-in-Err-more-clause-word
returns-in-Err-more-clause-word g c = c.stored_alone.ensures.word (set_else c.in-Ok.said.set c.in-Ok.ensures.ok.0) (outside_else RangeCheck c.in-Ok.said.outside c.in-Ok.ensures.ok.1)

pub returns-in-Ok-here-clause-word : goal.returns-in-Ok-here-clause-word
returns-in-Ok-here-clause-word g c = c.stored_on_both.ensures.word (set_else c.in-Ok.said.set c.in-Ok.ensures.ok.0)

pub returns-clause-word : goal.returns-clause-word
returns-clause-word g c = c.stored.ensures.word (set_else c.in-Ok.said.set c.in-Ok.ensures.ok.0) (outside_else RangeCheck c.in-Ok.said.outside c.in-Ok.ensures.ok.1)

-- ---- what is stored

pub returns-in-Err-more-clause-leaves : goal.returns-in-Err-more-clause-leaves
returns-in-Err-more-clause-leaves g c = λ b (hs : Hosts) (st : SessionState) there ready.
    let o = g.L.Link.world c.args.talk.now.memory.below.below.below.link in
    let o1 = g.L.Link.world c.assigned-mine.new.talk.memory.below.below.below.link in
    let o2 = g.L.Link.world c.assigned-more.new.talk.memory.below.below.below.link in
    let f1 = g.L.Link.faults c.assigned-mine.new.talk.memory.below.below.below.link in
    let f2 = g.L.Link.faults c.assigned-more.new.talk.memory.below.below.below.link in
    let first = c.args.first.now in
    let second = c.args.second.now in
    let one = c.assigned-mine.new.side in
    let two = c.assigned-more.new.side in
    let none = no_words st.state (debugged first hs.first) st.first ready.still ready.sides.first in
    let o3 = g.L.Link.world c.stored_alone.new.talk.memory.below.below.below.link in
    let Again = StandAgain WithNumbers b g.L.Link.conduct o3 one (Some two) st in
    failure_or c.in-Err-more.fault
    (λ is. subst (λ (r : Result (List ℕ) AskFault). OnOk r Again) (sym (c.stored_alone.ensures.failed is).0) tt)
    (λ n.
    let here = first_still b g.L.Link.conduct o o1 o2 first one second two hs c.assigned-mine.ensures.which c.assigned-more.ensures.which there (c.in-Ok-mine.ensures.evaluated b hs.first hs.second there.first_there) (λ h x. well_there f1 f2 _ c.in-Err-more.fault n (c.in-Err-more.ensures.evaluated b h (Some hs.first) x)) in
    on_ok (StoredThere b g.L.Link.conduct o3 one hs.first hs.second) (λ x. Again) c.stored_alone.result
    (λ x put. both_numbers b g.L.Link.conduct o o3 first one c.assigned-mine.ensures.which st o3 second two c.assigned-more.ensures.which
    (λ h beside a x r n. none_stores b g.L.Link.conduct o3 o3 second h beside x a r n two.inquiry c.assigned-more.ensures.table x.stands two c.assigned-more.ensures.same) hs there ready
    (put_stores b g.L.Link.conduct o o3 first one hs.first hs.second there.first_there st.first ready.ready.0 none c.assigned-mine.ensures.same c.assigned-mine.ensures.table put))
    (c.stored_alone.ensures.leaves b hs.first hs.second n here))

pub returns-clause-leaves : goal.returns-clause-leaves
returns-clause-leaves g c = λ b (hs : Hosts) (st : SessionState) there ready.
    let o = g.L.Link.world c.args.talk.now.memory.below.below.below.link in
    let o1 = g.L.Link.world c.assigned-mine.new.talk.memory.below.below.below.link in
    let o2 = g.L.Link.world c.assigned-more.new.talk.memory.below.below.below.link in
    let f1 = g.L.Link.faults c.assigned-mine.new.talk.memory.below.below.below.link in
    let f2 = g.L.Link.faults c.assigned-more.new.talk.memory.below.below.below.link in
    let first = c.args.first.now in
    let second = c.args.second.now in
    let one = c.assigned-mine.new.side in
    let two = c.assigned-more.new.side in
    let none = no_words st.state (debugged first hs.first) st.first ready.still ready.sides.first in
    let o3 = g.L.Link.world c.store-here.new.talk.memory.below.below.below.link in
    let f3 = g.L.Link.faults c.store-here.new.talk.memory.below.below.below.link in
    let here = first_still b g.L.Link.conduct o o1 o2 first one second two hs c.assigned-mine.ensures.which c.assigned-more.ensures.which there (c.in-Ok-mine.ensures.evaluated b hs.first hs.second there.first_there) (λ h x. c.in-Ok-more.ensures.evaluated b h (Some hs.first) x) in
    on_ok (IsUnbroken c.in-Err-here.fault) (λ x. StandAgain WithNumbers b g.L.Link.conduct o3 one (Some two) st) c.stored.result
    (λ x u. both_numbers b g.L.Link.conduct o o3 first one c.assigned-mine.ensures.which st o3 second two c.assigned-more.ensures.which
    (λ h beside a x r n. none_stores b g.L.Link.conduct o3 o3 second h beside x a r n two.inquiry c.assigned-more.ensures.table x.stands two c.assigned-more.ensures.same) hs there ready
    (put_stores b g.L.Link.conduct o o3 first one hs.first hs.second there.first_there st.first ready.ready.0 none c.assigned-mine.ensures.same c.assigned-mine.ensures.table
    (unbroken_there {A = Unit {0}} f2 f3 _ (Err c.in-Err-here.fault) u (c.in-Err-here.ensures.stores b hs.first hs.second here))))
    c.stored.ensures.done

pub returns-in-Ok-here-clause-leaves : goal.returns-in-Ok-here-clause-leaves
returns-in-Ok-here-clause-leaves g c = λ b (hs : Hosts) (st : SessionState) there ready.
    let o = g.L.Link.world c.args.talk.now.memory.below.below.below.link in
    let o1 = g.L.Link.world c.assigned-mine.new.talk.memory.below.below.below.link in
    let o2 = g.L.Link.world c.assigned-more.new.talk.memory.below.below.below.link in
    let f1 = g.L.Link.faults c.assigned-mine.new.talk.memory.below.below.below.link in
    let f2 = g.L.Link.faults c.assigned-more.new.talk.memory.below.below.below.link in
    let first = c.args.first.now in
    let second = c.args.second.now in
    let one = c.assigned-mine.new.side in
    let two = c.assigned-more.new.side in
    let none = no_words st.state (debugged first hs.first) st.first ready.still ready.sides.first in
    let o3 = g.L.Link.world c.store-here.new.talk.memory.below.below.below.link in
    let o4 = g.L.Link.world c.store.new.talk.memory.below.below.below.link in
    let f3 = g.L.Link.faults c.store-here.new.talk.memory.below.below.below.link in
    let f4 = g.L.Link.faults c.store.new.talk.memory.below.below.below.link in
    let here = first_still b g.L.Link.conduct o o1 o2 first one second two hs c.assigned-mine.ensures.which c.assigned-more.ensures.which there (c.in-Ok-mine.ensures.evaluated b hs.first hs.second there.first_there) (λ h x. c.in-Ok-more.ensures.evaluated b h (Some hs.first) x) in
    on_ok (IfErr c.store.result (λ (e : AskFault). IsUnbroken e)) (λ x. StandAgain WithNumbers b g.L.Link.conduct o4 one (Some two) st) c.stored_on_both.result
    (λ x u. both_numbers b g.L.Link.conduct o o3 first one c.assigned-mine.ensures.which st o4 second two c.assigned-more.ensures.which
    (λ h beside a w r n. put_stores b g.L.Link.conduct o3 o4 second two h beside w a r n c.assigned-more.ensures.same c.assigned-more.ensures.table
    (unbroken_there f3 f4 _ c.store.result u (c.store.ensures.stores b h beside (there_stays b g.L.Link.conduct o3 o3 second h beside w two.inquiry second.row.breaks second.frame refl c.assigned-more.ensures.table w.stands two c.assigned-more.ensures.same)))) hs there ready
    (put_stores b g.L.Link.conduct o o3 first one hs.first hs.second there.first_there st.first ready.ready.0 none c.assigned-mine.ensures.same c.assigned-mine.ensures.table (c.in-Ok-here.ensures.stores b hs.first hs.second here)))
    c.stored_on_both.ensures.done
