use Rattle.std.proofs.Common.{subst, Option}
use Rattle.machine_state.specs.State.{Behaviour}
use Rattle.claims.specs.Side.{SessionState}
use Rattle.side_meaning.proofs.Starting.{no_words}
use Rattle.session.specs.Meant.{debugged, Hosts, AreThere, AreReadyFor}
use Rattle.session.specs.declared.sides.SideRecord.{SideRecord}
use Rattle.session.specs.Wanting.{WithNumbers, StandAgain, StoresOne}
use Rattle.session.proofs.Wanting.{first_wanted}
use Rattle.session.proofs.Storing.{first_numbers}
use Rattle.session.proofs.Looked.{on_ok}
use Rattle.session.proofs.conversation.Session.assign.Goals as goal

pub returns-in-None-clause-evaluated : goal.returns-in-None-clause-evaluated
returns-in-None-clause-evaluated g c = λ (b : Behaviour) (hs : Hosts) there. c.assign_one.ensures.evaluated b hs.first hs.second there.first_there

pub returns-in-Some-clause-evaluated : goal.returns-in-Some-clause-evaluated
returns-in-Some-clause-evaluated g c = λ (b : Behaviour) (hs : Hosts) there.
    let now = c.args.self.now in
    c.assign_both.ensures.evaluated b hs (subst (λ (s : Option SideRecord). AreThere b g.L.Link.conduct (g.L.Link.world now.talk.memory.below.below.below.link) now.first s hs) c.in-Some.is there)

pub returns-in-None-clause-stays : goal.returns-in-None-clause-stays
returns-in-None-clause-stays g c = λ (b : Behaviour) (hs : Hosts) (st : SessionState) there ready is.
    let now = c.args.self.now in
    first_wanted b g.L.Link.conduct st ready.still (g.L.Link.world now.talk.memory.below.below.below.link) (g.L.Link.world c.assign_one.new.talk.memory.below.below.below.link) now.first c.assign_one.new.first now.second hs there ready.sides c.assign_one.ensures.which
    (c.assign_one.ensures.stays b hs.first hs.second st.first there.first_there ready.ready.0 (no_words st.state (debugged now.first hs.first) st.first ready.still ready.sides.first) is)

pub returns-in-Some-clause-stays : goal.returns-in-Some-clause-stays
returns-in-Some-clause-stays g c = λ (b : Behaviour) (hs : Hosts) (st : SessionState) there ready is.
    let now = c.args.self.now in
    c.assign_both.ensures.stays b hs st (subst (λ (s : Option SideRecord). AreThere b g.L.Link.conduct (g.L.Link.world now.talk.memory.below.below.below.link) now.first s hs) c.in-Some.is there) (subst (λ (s : Option SideRecord). AreReadyFor now.first s hs st) c.in-Some.is ready) is

pub returns-in-None-clause-leaves : goal.returns-in-None-clause-leaves
returns-in-None-clause-leaves g c = λ (b : Behaviour) (hs : Hosts) (st : SessionState) there ready.
    let now = c.args.self.now in
    let o1 = g.L.Link.world c.assign_one.new.talk.memory.below.below.below.link in
    on_ok (StoresOne b g.L.Link.conduct o1 now.first c.assign_one.new.first hs.first hs.second st.first) (λ x. StandAgain WithNumbers b g.L.Link.conduct o1 c.assign_one.new.first now.second st) c.assign_one.result
    (λ x s. first_numbers b g.L.Link.conduct (g.L.Link.world now.talk.memory.below.below.below.link) o1 now.first c.assign_one.new.first c.assign_one.ensures.which st now.second hs there ready s)
    (c.assign_one.ensures.leaves b hs.first hs.second st.first there.first_there ready.ready.0 (no_words st.state (debugged now.first hs.first) st.first ready.still ready.sides.first))

pub returns-in-Some-clause-leaves : goal.returns-in-Some-clause-leaves
returns-in-Some-clause-leaves g c = λ (b : Behaviour) (hs : Hosts) (st : SessionState) there ready.
    let now = c.args.self.now in
    c.assign_both.ensures.leaves b hs st (subst (λ (s : Option SideRecord). AreThere b g.L.Link.conduct (g.L.Link.world now.talk.memory.below.below.below.link) now.first s hs) c.in-Some.is there) (subst (λ (s : Option SideRecord). AreReadyFor now.first s hs st) c.in-Some.is ready)
