use Rattle.std.proofs.Common.{rules, ◌≡◌, ◌∙◌, refl, sym, ap, subst, ℕ, [], ◌∷◌, Option, None, Some, Err}
use Rattle.ldb_edge.specs.Count.{Rose}
use Rattle.machine_state.specs.State.{MachineState, Behaviour}
use Rattle.nub_wire.specs.declared.link.Side.TheVariants.{First, Second}
use Rattle.nub_wire.specs.Nub.{first_host}
use Rattle.nub_wire.specs.Delivery.{World}
use Rattle.ps_store.specs.StoreState.{StoreState}
use Rattle.session.specs.declared.modes.Mode.TheVariants.{Fresh}
use Rattle.session.specs.declared.answers.StartFault.TheVariants.{Target}
use Rattle.session.specs.declared.sides.SideRecord.{SideRecord}
use Rattle.session.specs.Meant.{Hosts, Represents}
use Rattle.session.specs.Starting.{begun_host, one_session, two_session, IsFirst, IsBegun}
use Rattle.session.proofs.Starting.{one_begun, second_first, two_begun, target_rose, no_target}
use Rattle.session.proofs.conversation.Session.start.Goals as goal
use Rattle.session.proofs.conversation.Session.start.Goals.{in-None, in-Some-next+in_ok-begun-in-Some-next}

pub returns-clause-one : goal.returns-clause-one
returns-clause-one g c = λ (b : Behaviour) (m : MachineState) (table : StoreState) e f room.
    let C = g.L.Link.conduct in
    let input = c.args.input.now in
    let same : c.in-Some.table ≡ table = search rules in
    let begun = c.in-Ok-begun.ensures.meant b m None (subst (λ (t : StoreState). IsFirst b C (g.L.Link.world c.args.link) First m None t) (sym same) f) room in
    let there = one_begun b C (g.L.Link.world c.begun.new.link) c.in-Ok-begun.first None input m c.in-Some.table c.in-Ok-begun.ensures.side refl begun in
    let hosts : Hosts = record { first = begun_host b input m; second = None } in
    let R = λ (o : Option World) (second : Option SideRecord). Represents b C o c.in-Ok-begun.first second Fresh 10000000 hosts (one_session b input m table) in
    let alone : R (g.L.Link.world c.begun.new.link) None = subst (λ (t : StoreState). Represents b C (g.L.Link.world c.begun.new.link) c.in-Ok-begun.first None Fresh 10000000 hosts (one_session b input m t)) same there in (
      hosts,
      elim c.match-next-2.branch [
        | in-None w ↦ subst (λ (o : Option World). R o c.match-next-2.second) (ap g.L.Link.world (sym (c.operators.ensures ∙ w.link-is))) (subst (R (g.L.Link.world c.begun.new.link)) (sym w.second-is) alone)
        | in-Some-next+in_ok-begun-in-Some-next w ↦ let no : ⊥ = search rules in absurd no
      ],
    )

pub returns-clause-two : goal.returns-clause-two
returns-clause-two g c = λ (b : Behaviour) (m n : MachineState) (table other : StoreState) e f room.
    let C = g.L.Link.conduct in
    let input = c.args.input.now in
    let o = g.L.Link.world c.args.link in
    let o1 = g.L.Link.world c.begun.new.link in
    let same : c.in-Some.table ≡ table = search rules in
    let first = subst (λ (t : StoreState). IsBegun b C o1 c.in-Ok-begun.first input m (Some (first_host b n)) t) same
    (c.in-Ok-begun.ensures.meant b m (Some (first_host b n)) (subst (λ (t : StoreState). IsFirst b C o First m (Some (first_host b n)) t) (sym same) f.first) room) in
    let waits = second_first b C o o1 c.in-Ok-begun.first input m n table other f c.in-Ok-begun.ensures.side first in
    let hosts : Hosts = record { first = begun_host b input m; second = Some (begun_host b input n) } in
    elim c.match-next-2.branch [
      | in-None w ↦ let no : ⊥ = search rules in absurd no
      | in-Some-next+in_ok-begun-in-Some-next w ↦
          let q = w.in_ok-begun-in-Some-next.field-0 in
          let o2 = g.L.Link.world w.begun-in-Some-next.new.link in
          let also : w.in-Some-next.table ≡ other = search rules in
          let second = subst (λ (t : StoreState). IsBegun b C o2 q input n (Some (begun_host b input m)) t) also
          (w.in_ok-begun-in-Some-next.ensures.meant b n (Some (begun_host b input m)) (subst (λ (t : StoreState). IsFirst b C o1 Second n (Some (begun_host b input m)) t) (sym also) waits) room) in
          let R = λ (v : Option World) (s : Option SideRecord). Represents b C v c.in-Ok-begun.first s Fresh 10000000 hosts (two_session b input m n table other) in
          let both : R o2 (Some q) = two_begun b C o1 o2 c.in-Ok-begun.first q input m n table other c.in-Ok-begun.ensures.side w.in_ok-begun-in-Some-next.ensures.side first second in
          (hosts, subst (λ (v : Option World). R v c.match-next-2.second) (ap g.L.Link.world (sym (c.operators.ensures ∙ w.link-is))) (subst (R o2) (sym w.second-is) both))
    ]

pub returns-in-Err-clause-one_failed : goal.returns-in-Err-clause-one_failed
returns-in-Err-clause-one_failed g c = λ (b : Behaviour) (m : MachineState) (table : StoreState) e f room r.
    let C = g.L.Link.conduct in
    let same : c.in-Some.table ≡ table = search rules in
    let o = g.L.Link.world c.args.link in
    let x = c.in-Err.ensures.meant b m None (subst (λ (t : StoreState). IsFirst b C o First m None t) (sym same) f) room in
    (c.begun.new.link, target_rose (λ (q : SideRecord). IsBegun b C (g.L.Link.world c.begun.new.link) q c.args.input.now m None c.in-Some.table) (g.L.Link.faults c.args.link) (g.L.Link.faults c.begun.new.link) c.in-Err.fault _ refl r x)

pub returns-in-Err-clause-two_failed : goal.returns-in-Err-clause-two_failed
returns-in-Err-clause-two_failed g c = λ (b : Behaviour) (m n : MachineState) (table other : StoreState) e f room r.
    let C = g.L.Link.conduct in
    let same : c.in-Some.table ≡ table = search rules in
    let o = g.L.Link.world c.args.link in
    let x = c.in-Err.ensures.meant b m (Some (first_host b n)) (subst (λ (t : StoreState). IsFirst b C o First m (Some (first_host b n)) t) (sym same) f.first) room in
    (c.begun.new.link, target_rose (λ (q : SideRecord). IsBegun b C (g.L.Link.world c.begun.new.link) q c.args.input.now m (Some (first_host b n)) c.in-Some.table) (g.L.Link.faults c.args.link) (g.L.Link.faults c.begun.new.link) c.in-Err.fault _ refl r x)

pub returns-in_err-begun-in-Some-next-clause-two_failed : goal.returns-in_err-begun-in-Some-next-clause-two_failed
returns-in_err-begun-in-Some-next-clause-two_failed g c = λ (b : Behaviour) (m n : MachineState) (table other : StoreState) e f room r.
    let C = g.L.Link.conduct in
    let input = c.args.input.now in
    let o = g.L.Link.world c.args.link in
    let o1 = g.L.Link.world c.begun.new.link in
    let o2 = g.L.Link.world c.begun-in-Some-next.new.link in
    let f1 = g.L.Link.faults c.begun.new.link in
    let f2 = g.L.Link.faults c.begun-in-Some-next.new.link in
    let same : c.in-Some.table ≡ table = search rules in
    let also : c.in-Some-next.table ≡ other = search rules in
    let missed : c.begun-in-Some-next.result ≡ Err Target = search rules in
    let first = subst (λ (t : StoreState). IsBegun b C o1 c.in-Ok-begun.first input m (Some (first_host b n)) t) same
    (c.in-Ok-begun.ensures.meant b m (Some (first_host b n)) (subst (λ (t : StoreState). IsFirst b C o First m (Some (first_host b n)) t) (sym same) f.first) room) in
    let waits = second_first b C o o1 c.in-Ok-begun.first input m n table other f c.in-Ok-begun.ensures.side first in
    let D = λ (q : SideRecord). IsBegun b C o2 q input n (Some (begun_host b input m)) c.in-Some-next.table in
    let x = c.begun-in-Some-next.ensures.meant b n (Some (begun_host b input m)) (subst (λ (t : StoreState). IsFirst b C o1 Second n (Some (begun_host b input m)) t) (sym also) waits) room in
    (c.begun-in-Some-next.new.link, subst (λ (z : ℕ). Rose z f2) c.in-Ok-begun.ensures.calm (no_target D f1 f2 c.begun-in-Some-next.result missed x))
