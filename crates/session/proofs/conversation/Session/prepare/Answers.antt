use Rattle.std.proofs.Common.{◌∙◌, ap, sym, subst, Option, Some, Result, Ok, Err}
use Rattle.table_asks.specs.declared.fault.AskFault.{AskFault}
use Rattle.side_meaning.specs.Sessions.{SidesStand}
use Rattle.side_meaning.proofs.Starting.{no_words}
use Rattle.session.specs.declared.sides.SideRecord.{SideRecord}
use Rattle.session.specs.Kept.{IsUndone}
use Rattle.session.proofs.Counting.{fault_on}
use Rattle.session.proofs.Wanting.{first_wanted, second_unput}
use Rattle.session.proofs.Tallying.{left_wants, left_counts}
use Rattle.machine_state.specs.State.{Behaviour}
use Rattle.claims.specs.Side.{SessionState}
use Rattle.c_session.specs.Commands.{ByStep}
use Rattle.claims.specs.Outcome.{Begins}
use Rattle.session.specs.Meant.{debugged, sides_of, Hosts, AreThere, NotAll}
use Rattle.session.proofs.Words.{wire_of}
use Rattle.session.proofs.Readying.{TakesAway, first_unput, prepare_none, prepare_some, broken_some, unput_some}
use Rattle.session.specs.Resuming.{OnSecond}
use Rattle.session.specs.Wanting.{KeepsTable}
use Rattle.session.proofs.conversation.Session.prepare.Goals as goal

pub returns-in-Err-clause-meant : goal.returns-in-Err-clause-meant
returns-in-Err-clause-meant g c = λ (b : Behaviour) (hs : Hosts) (st : SessionState) is still.
    let s = c.args.self.now in
    first_unput b g.L.Link.conduct st still (g.L.Link.world (wire_of s.talk).link) (g.L.Link.world (wire_of c.prepared.new.talk).link) (g.L.Link.faults (wire_of s.talk).link) (g.L.Link.faults (wire_of c.prepared.new.talk).link) s.first c.prepared.new.side c.prepared.ensures.which s.second hs (λ u. Unit {0})
    c.in-Err.fault is.there is.sides (c.in-Err.ensures.meant b)

pub returns-in-None-clause-meant : goal.returns-in-None-clause-meant
returns-in-None-clause-meant g c = λ (b : Behaviour) (hs : Hosts) (st : SessionState) is still.
    let s = c.args.self.now in
    prepare_none b g.L.Link.conduct st still (g.L.Link.world (wire_of s.talk).link) (g.L.Link.world (wire_of c.prepared.new.talk).link) (g.L.Link.faults (wire_of s.talk).link) (g.L.Link.faults (wire_of c.prepared.new.talk).link) s.first c.prepared.new.side c.prepared.ensures.which (c.in-Ok.ensures.meant b)
    s.second c.in-None.is hs is.there is.sides

pub returns-in-Ok-prepared-clause-meant : goal.returns-in-Ok-prepared-clause-meant
returns-in-Ok-prepared-clause-meant g c = λ (b : Behaviour) (hs : Hosts) (st : SessionState) is still.
    let s = c.args.self.now in
    prepare_some b g.L.Link.conduct st still (g.L.Link.world (wire_of s.talk).link) (g.L.Link.world (wire_of c.prepared.new.talk).link) (g.L.Link.faults (wire_of s.talk).link) (g.L.Link.faults (wire_of c.prepared.new.talk).link) s.first c.prepared.new.side c.prepared.ensures.which (c.in-Ok.ensures.meant b)
    (g.L.Link.world (wire_of c.prepared-in-Some.new.talk).link) (g.L.Link.faults (wire_of c.prepared-in-Some.new.talk).link) c.in-Some.second c.prepared-in-Some.new.side c.prepared-in-Some.ensures.which s.second c.in-Some.is hs is.there is.sides (c.in-Ok-prepared.ensures.meant b)

pub returns-then-is_broken-clause-meant : goal.returns-then-is_broken-clause-meant
returns-then-is_broken-clause-meant g c = λ (b : Behaviour) (hs : Hosts) (st : SessionState) is still.
    let s = c.args.self.now in
    let y = c.is_broken.ensures.broken c.if-is_broken.true in
    broken_some b g.L.Link.conduct st still (g.L.Link.world (wire_of s.talk).link) (g.L.Link.world (wire_of c.prepared.new.talk).link) (g.L.Link.faults (wire_of s.talk).link) (g.L.Link.faults (wire_of c.prepared.new.talk).link) s.first c.prepared.new.side c.prepared.ensures.which (c.in-Ok.ensures.meant b)
    (g.L.Link.world (wire_of c.prepared-in-Some.new.talk).link) (g.L.Link.faults (wire_of c.prepared-in-Some.new.talk).link) c.in-Some.second c.prepared-in-Some.new.side c.prepared-in-Some.ensures.which s.second c.in-Some.is hs (λ u. Unit {0})
    (NotAll b g.L.Link.conduct (g.L.Link.world (wire_of c.prepared-in-Some.new.talk).link) c.prepared.new.side (Some c.prepared-in-Some.new.side) st (Begins b ByStep st)) c.in-Err-prepared.fault y.0 y.1 c.prepared.ensures.faults is.there is.sides (c.in-Err-prepared.ensures.meant b)

pub returns-else-is_broken-clause-meant : goal.returns-else-is_broken-clause-meant
returns-else-is_broken-clause-meant g c = λ (b : Behaviour) (hs : Hosts) (st : SessionState) is still.
    let s = c.args.self.now in
    unput_some b g.L.Link.conduct st still (g.L.Link.world (wire_of s.talk).link) (g.L.Link.world (wire_of c.prepared.new.talk).link) (g.L.Link.faults (wire_of s.talk).link) (g.L.Link.faults (wire_of c.prepared.new.talk).link) s.first c.prepared.new.side c.prepared.ensures.which (c.in-Ok.ensures.meant b)
    (g.L.Link.world (wire_of c.prepared-in-Some.new.talk).link) (g.L.Link.faults (wire_of c.prepared-in-Some.new.talk).link) c.in-Some.second c.prepared-in-Some.new.side c.prepared-in-Some.ensures.which s.second c.in-Some.is hs
    (g.L.Link.world (wire_of c.taken_away.new.talk).link) (g.L.Link.faults (wire_of c.taken_away.new.talk).link) c.taken_away.new.side (λ u. Unit {0}) c.left.result c.in-Err-prepared.fault c.taken_away.result is.there is.sides c.taken_away.ensures.which c.prepared.ensures.faults c.prepared-in-Some.ensures.faults
    (c.is_broken.ensures.whole c.if-is_broken.false) (λ k. ap (λ (z : _). g.L.Link.world (wire_of z).link) (c.in-Err-prepared.ensures.untouched (ap (λ (z : _). Err z) k))) (c.in-Err-prepared.ensures.meant b) (c.taken_away.ensures.meant b) c.left.ensures.ok c.left.ensures.err

pub returns-in-Err-clause-stays : goal.returns-in-Err-clause-stays
returns-in-Err-clause-stays g c = λ (b : Behaviour) (hs : Hosts) (st : SessionState) is still u.
    let s = c.args.self.now in
    first_wanted b g.L.Link.conduct st still (g.L.Link.world (wire_of s.talk).link) (g.L.Link.world (wire_of c.prepared.new.talk).link) s.first c.prepared.new.side s.second hs is.there is.sides c.prepared.ensures.which
    (c.in-Err.ensures.stays b hs.first hs.second st.first is.there.first_there is.sides.first.stands (no_words st.state (debugged s.first hs.first) st.first still is.sides.first) u)

pub returns-then-is_broken-clause-stays : goal.returns-then-is_broken-clause-stays
returns-then-is_broken-clause-stays g c = λ b hs st is still u.
    let y = c.is_broken.ensures.broken c.if-is_broken.true in
    absurd (subst (λ (z : AskFault). IsUndone {A = Unit {0}} (Err z)) y.1 u)

pub returns-then-is_broken-clause-count : goal.returns-then-is_broken-clause-count
returns-then-is_broken-clause-count g c =
    fault_on (g.L.Link.faults (wire_of c.args.self.now.talk).link) (g.L.Link.faults (wire_of c.prepared.new.talk).link) (g.L.Link.faults (wire_of c.prepared-in-Some.new.talk).link) c.in-Err-prepared.fault c.in-Ok.ensures.count c.in-Err-prepared.ensures.count

pub returns-else-is_broken-clause-stays : goal.returns-else-is_broken-clause-stays
returns-else-is_broken-clause-stays g c = λ (b : Behaviour) (hs : Hosts) (st : SessionState) is still u.
    let s = c.args.self.now in
    let w = left_wants (Unit {0}) c.taken_away.result c.in-Err-prepared.fault c.left.result c.left.ensures.ok c.left.ensures.err c.taken_away.ensures.whole u in
    let o = g.L.Link.world (wire_of s.talk).link in
    let o1 = g.L.Link.world (wire_of c.prepared.new.talk).link in
    let o2 = g.L.Link.world (wire_of c.prepared-in-Some.new.talk).link in
    let o3 = g.L.Link.world (wire_of c.taken_away.new.talk).link in
    let f2 = g.L.Link.faults (wire_of c.prepared-in-Some.new.talk).link in
    let f3 = g.L.Link.faults (wire_of c.taken_away.new.talk).link in
    second_unput b g.L.Link.conduct st still o o1 o2 o3 (g.L.Link.faults (wire_of s.talk).link) (g.L.Link.faults (wire_of c.prepared.new.talk).link) f2 f3 s.first c.prepared.new.side c.taken_away.new.side c.in-Some.second c.prepared-in-Some.new.side hs c.prepared.ensures.which c.taken_away.ensures.which
    c.prepared-in-Some.ensures.which (subst (λ (z : Option SideRecord). AreThere b g.L.Link.conduct o s.first z hs) c.in-Some.is is.there) (subst (λ (z : Option SideRecord). SidesStand (sides_of s.first z hs) st) c.in-Some.is is.sides) (c.in-Ok.ensures.meant b) c.prepared.ensures.table
    (λ h beside a x for none. c.in-Err-prepared.ensures.stays b h beside a x for none w.1)
    (subst (λ (r : Result (Unit {0}) AskFault). TakesAway b g.L.Link.conduct o2 o3 f2 f3 c.prepared.new.side c.taken_away.new.side r) w.0 (c.taken_away.ensures.meant b))

pub returns-else-is_broken-clause-count : goal.returns-else-is_broken-clause-count
returns-else-is_broken-clause-count g c =
    left_counts (g.L.Link.faults (wire_of c.args.self.now.talk).link) (g.L.Link.faults (wire_of c.prepared.new.talk).link) (g.L.Link.faults (wire_of c.prepared-in-Some.new.talk).link) (g.L.Link.faults (wire_of c.taken_away.new.talk).link) c.taken_away.result c.in-Err-prepared.fault c.left.result c.left.ensures.ok c.left.ensures.err
    c.in-Ok.ensures.count c.in-Err-prepared.ensures.count (c.is_broken.ensures.whole c.if-is_broken.false) c.taken_away.ensures.count

pub returns-in-Ok-prepared-clause-count : goal.returns-in-Ok-prepared-clause-count
returns-in-Ok-prepared-clause-count g c = c.in-Ok-prepared.ensures.count ∙ c.in-Ok.ensures.count

-- ---- the tables

pub returns-in-None-clause-tables : goal.returns-in-None-clause-tables
returns-in-None-clause-tables g c = (c.prepared.ensures.table, subst (λ (z : Option SideRecord). OnSecond KeepsTable z z) (sym c.in-None.is) tt)

pub returns-in-Ok-prepared-clause-tables : goal.returns-in-Ok-prepared-clause-tables
returns-in-Ok-prepared-clause-tables g c = (c.prepared.ensures.table, subst (λ (z : Option SideRecord). OnSecond KeepsTable z (Some c.prepared-in-Some.new.side)) (sym c.in-Some.is) c.prepared-in-Some.ensures.table)
