use Rattle.std.proofs.Common.{subst, ℕ, List, Option}
use Rattle.machine_state.specs.State.{Behaviour}
use Rattle.claims.specs.Side.{SessionState}
use Rattle.session.specs.Meant.{debugged, Hosts, IsThere, AreThere, AreReadyFor}
use Rattle.session.specs.Wanting.{WithTable, StandAgain}
use Rattle.session.specs.declared.sides.SideRecord.{SideRecord}
use Rattle.side_meaning.proofs.Starting.{no_words}
use Rattle.session.proofs.Wanting.{first_wanted}
use Rattle.session.proofs.Storing.{first_numbers, result_unbroken}
use Rattle.session.proofs.Looked.{stays_well, on_done, look_stays, look_alone}
use Rattle.session.proofs.AskingOne.{asked_alone}
use Rattle.session.proofs.conversation.Session.ask.Goals as goal

pub returns-in-None-clause-meant : goal.returns-in-None-clause-meant
returns-in-None-clause-meant g c = λ (b : Behaviour) (hs : Hosts) (st : SessionState) there ready plain.
    let now = c.args.self.now in
    asked_alone b g.L.Link.conduct (g.L.Link.world now.talk.memory.below.below.below.link) (g.L.Link.world c.asked.new.talk.memory.below.below.below.link) now.first c.asked.new.side now.second hs st c.args.command.now c.in-None.is there ready plain c.asked.ensures.which
    (g.L.Link.faults now.talk.memory.below.below.below.link) (g.L.Link.faults c.asked.new.talk.memory.below.below.below.link) c.asked.result (c.asked.ensures.meant b)

pub returns-in-Some-clause-meant : goal.returns-in-Some-clause-meant
returns-in-Some-clause-meant g c = λ (b : Behaviour) (hs : Hosts) (st : SessionState) there ready plain.
    let now = c.args.self.now in
    let both = subst (λ (s : Option SideRecord). AreThere b g.L.Link.conduct (g.L.Link.world now.talk.memory.below.below.below.link) now.first s hs) c.in-Some.is there in
    c.asked_both.ensures.meant b hs st both (subst (λ (s : Option SideRecord). AreReadyFor now.first s hs st) c.in-Some.is ready) plain

pub returns-in-None-clause-stays : goal.returns-in-None-clause-stays
returns-in-None-clause-stays g c = λ (b : Behaviour) (hs : Hosts) (st : SessionState) there ready runs is.
    let now = c.args.self.now in
    first_wanted b g.L.Link.conduct st ready.still (g.L.Link.world now.talk.memory.below.below.below.link) (g.L.Link.world c.asked.new.talk.memory.below.below.below.link) now.first c.asked.new.side now.second hs there ready.sides c.asked.ensures.which
    (c.asked.ensures.stays b hs.first hs.second st.first there.first_there ready.ready.0 (no_words st.state (debugged now.first hs.first) st.first ready.still ready.sides.first) runs is)

pub returns-in-Some-clause-stays : goal.returns-in-Some-clause-stays
returns-in-Some-clause-stays g c = λ (b : Behaviour) (hs : Hosts) (st : SessionState) there ready runs is.
    let now = c.args.self.now in
    c.asked_both.ensures.stays b hs st (subst (λ (s : Option SideRecord). AreThere b g.L.Link.conduct (g.L.Link.world now.talk.memory.below.below.below.link) now.first s hs) c.in-Some.is there) (subst (λ (s : Option SideRecord). AreReadyFor now.first s hs st) c.in-Some.is ready) runs is

pub returns-in-None-clause-looked : goal.returns-in-None-clause-looked
returns-in-None-clause-looked g c = λ (b : Behaviour) (hs : Hosts) there look.
    stays_well (g.L.Link.faults c.args.self.now.talk.memory.below.below.below.link) (g.L.Link.faults c.asked.new.talk.memory.below.below.below.link) _ (Unit {0}) c.asked.result (λ x. tt) (c.asked.ensures.looked b hs.first hs.second there.first_there look)

pub returns-in-Some-clause-looked : goal.returns-in-Some-clause-looked
returns-in-Some-clause-looked g c = λ (b : Behaviour) (hs : Hosts) there look.
    let now = c.args.self.now in
    c.asked_both.ensures.looked b hs (subst (λ (s : Option SideRecord). AreThere b g.L.Link.conduct (g.L.Link.world now.talk.memory.below.below.below.link) now.first s hs) c.in-Some.is there) look

pub returns-in-None-clause-stores : goal.returns-in-None-clause-stores
returns-in-None-clause-stores g c = λ (b : Behaviour) (hs : Hosts) (st : SessionState) there ready text is.
    let now = c.args.self.now in
    first_numbers b g.L.Link.conduct (g.L.Link.world now.talk.memory.below.below.below.link) (g.L.Link.world c.asked.new.talk.memory.below.below.below.link) now.first c.asked.new.side c.asked.ensures.which st now.second hs there ready
    (c.asked.ensures.stores b hs.first hs.second st.first there.first_there ready.ready.0 (no_words st.state (debugged now.first hs.first) st.first ready.still ready.sides.first) text (result_unbroken (List ℕ) c.asked.result is))

pub returns-in-Some-clause-stores : goal.returns-in-Some-clause-stores
returns-in-Some-clause-stores g c = λ (b : Behaviour) (hs : Hosts) (st : SessionState) there ready text is.
    let now = c.args.self.now in
    c.asked_both.ensures.stores b hs st (subst (λ (s : Option SideRecord). AreThere b g.L.Link.conduct (g.L.Link.world now.talk.memory.below.below.below.link) now.first s hs) c.in-Some.is there) (subst (λ (s : Option SideRecord). AreReadyFor now.first s hs st) c.in-Some.is ready) text is

pub returns-in-None-clause-leaves : goal.returns-in-None-clause-leaves
returns-in-None-clause-leaves g c = λ (b : Behaviour) (hs : Hosts) (st : SessionState) there ready look query.
    let now = c.args.self.now in
    let o = g.L.Link.world now.talk.memory.below.below.below.link in
    let o1 = g.L.Link.world c.asked.new.talk.memory.below.below.below.link in
    let side = c.asked.new.side in
    on_done (g.L.Link.faults now.talk.memory.below.below.below.link) (g.L.Link.faults c.asked.new.talk.memory.below.below.below.link) (IsThere b g.L.Link.conduct o1 side hs.first hs.second) (StandAgain WithTable b g.L.Link.conduct o1 side now.second st) c.asked.result
    (λ x. first_wanted b g.L.Link.conduct st ready.still o o1 now.first side now.second hs there ready.sides c.asked.ensures.which
    (look_stays b g.L.Link.conduct o o1 now.first side hs.first hs.second st.first there.first_there ready.ready.0 (no_words st.state (debugged now.first hs.first) st.first ready.still ready.sides.first)
    (record { which = c.asked.ensures.which; same = c.asked.ensures.same; kept = c.asked.ensures.query query; table = c.asked.ensures.table (look_alone c.args.command.now look) }) x))
    (c.asked.ensures.looked b hs.first hs.second there.first_there look)

pub returns-in-Some-clause-leaves : goal.returns-in-Some-clause-leaves
returns-in-Some-clause-leaves g c = λ (b : Behaviour) (hs : Hosts) (st : SessionState) there ready look query.
    let now = c.args.self.now in
    c.asked_both.ensures.leaves b hs st (subst (λ (s : Option SideRecord). AreThere b g.L.Link.conduct (g.L.Link.world now.talk.memory.below.below.below.link) now.first s hs) c.in-Some.is there) (subst (λ (s : Option SideRecord). AreReadyFor now.first s hs st) c.in-Some.is ready) look query
