use Rattle.std.proofs.Common.{◌≡◌, ◌∙◌, ◌≤◌, sym, ap, subst, arith}
use Rattle.machine_state.specs.State.{Behaviour}
use Rattle.claims.specs.Side.{SessionState}
use Rattle.session.specs.declared.conversation.Session.{Session}
use Rattle.session.specs.declared.line.Line.{Line}
use Rattle.session.specs.declared.modes.How.{How}
use Rattle.session.specs.Answered.{state_of, resume_of}
use Rattle.session.specs.Meant.{Hosts, AllPrepared, NotAll, ResumesAs}
use Rattle.c_session.specs.Commands.{ByStep, ByContinue}
use Rattle.table_asks.specs.declared.fault.AskFault.TheVariants.{NoMemory}
use Rattle.session.specs.Wanting.{WithTable, StandAgain}
use Rattle.session.proofs.Wanting.{TablesStay, stands_same, same_with}
use Rattle.session.proofs.Looked.{undone_as}
use Rattle.session.proofs.Tallying.{left_wants, wanted_counts, unready}
use Rattle.session.proofs.Words.{wire_of}
use Rattle.session.proofs.Readying.{no_line, not_ready, is_still, settled_prepares, running_prepared}
use Rattle.session.proofs.conversation.Session.ready.Goals.{in-Running-default, in_default-ByContinue+in-Ok, in_default-ByStep+in-Ok-prepare}
use Rattle.session.proofs.conversation.Session.ready.Goals as goal

pub returns-in-Err-prepare : goal.returns-in-Err-prepare
returns-in-Err-prepare g c =
    let s = c.args.self.now in
    record {
      mode = c.prepare.ensures.mode;
      limit = c.prepare.ensures.limit;
      kept = c.prepare.ensures.kept;
      still = c.prepare.ensures.still;
      ready = tt;
      room = tt;
      faults = c.prepare.ensures.faults;
      meant = λ (b : Behaviour) (hs : Hosts) (st : SessionState) is may.
          let still = is_still s.mode st c.in_default-ByStep.not-Running-0 is.state may in
          not_ready b g.L.Link.conduct {A = Line} (g.L.Link.faults (wire_of s.talk).link) (g.L.Link.faults (wire_of c.prepare.new.self.talk).link) (λ line. Unit {0}) (g.L.Link.world (wire_of c.prepare.new.self.talk).link) c.prepare.new.self.first c.prepare.new.self.second st c.args.how c.in-Err-prepare.fault still c.in_default-ByStep.is-1
          (c.in-Err-prepare.ensures.meant b hs st is still);
      stays = λ (b : Behaviour) (hs : Hosts) (st : SessionState) is may u.
          let still = is_still s.mode st c.in_default-ByStep.not-Running-0 is.state may in
          c.in-Err-prepare.ensures.stays b hs st is still (undone_as Line (Unit {0}) c.in-Err-prepare.fault u);
      count = c.in-Err-prepare.ensures.count;
      raw = c.prepare.ensures.raw;
      broken = c.prepare.ensures.broken;
    }

pub returns-in-Ok-line_for-clause-meant : goal.returns-in-Ok-line_for-clause-meant
returns-in-Ok-line_for-clause-meant g c = λ (b : Behaviour) (hs : Hosts) (st : SessionState) is may.
    let s = c.args.self.now in
    elim c.match-self.branch [
      | in-Running-default w ↦ subst (λ (z : Session g.row.L.Denot). AllPrepared b g.L.Link.conduct (g.L.Link.world (wire_of z.talk).link) s.first z.first s.second z.second hs st (resume_of c.args.how)) (sym w.self-is) (running_prepared b g.L.Link.conduct (g.L.Link.world (wire_of s.talk).link) s.first s.second hs st (resume_of w.in-Running-default.field-0-0) (resume_of c.args.how) (is.state ∙ ap state_of w.in-Running-default.is-0) is.there is.sides)
      | in_default-ByContinue+in-Ok w ↦ subst (λ (z : Session g.row.L.Denot). AllPrepared b g.L.Link.conduct (g.L.Link.world (wire_of z.talk).link) s.first z.first s.second z.second hs st (resume_of c.args.how)) (sym w.self-is) (subst (λ (r : How). AllPrepared b g.L.Link.conduct (g.L.Link.world (wire_of w.settle.new.self.talk).link) s.first w.settle.new.self.first s.second w.settle.new.self.second hs st (resume_of r)) (sym w.in_default-ByContinue.is-1) (settled_prepares b g.L.Link.conduct (g.L.Link.world (wire_of w.settle.new.self.talk).link) s.first w.settle.new.self.first s.second w.settle.new.self.second hs st (w.in-Ok.ensures.meant b hs st is (is_still s.mode st w.in_default-ByContinue.not-Running-0 is.state may))))
      | in_default-ByStep+in-Ok-prepare w ↦ subst (λ (z : Session g.row.L.Denot). AllPrepared b g.L.Link.conduct (g.L.Link.world (wire_of z.talk).link) s.first z.first s.second z.second hs st (resume_of c.args.how)) (sym w.self-is) (subst (λ (r : How). AllPrepared b g.L.Link.conduct (g.L.Link.world (wire_of w.prepare.new.self.talk).link) s.first w.prepare.new.self.first s.second w.prepare.new.self.second hs st (resume_of r)) (sym w.in_default-ByStep.is-1) (w.in-Ok-prepare.ensures.meant b hs st is (is_still s.mode st w.in_default-ByStep.not-Running-0 is.state may)))
    ]

pub returns-in-Err-line_for-clause-meant : goal.returns-in-Err-line_for-clause-meant
returns-in-Err-line_for-clause-meant g c = λ (b : Behaviour) (hs : Hosts) (st : SessionState) is may.
    let s = c.args.self.now in
    let m = c.match-self.self in
    let n = c.settle-in-Err-line_for.new.self in
    let p : (g.L.Link.faults (wire_of s.talk).link ≤ g.L.Link.faults (wire_of m.talk).link) × AllPrepared b g.L.Link.conduct (g.L.Link.world (wire_of m.talk).link) s.first m.first s.second m.second hs st (resume_of c.args.how) =
    elim c.match-self.branch [
      | in-Running-default w ↦ subst (λ (z : Session g.row.L.Denot). (g.L.Link.faults (wire_of s.talk).link ≤ g.L.Link.faults (wire_of z.talk).link) × AllPrepared b g.L.Link.conduct (g.L.Link.world (wire_of z.talk).link) s.first z.first s.second z.second hs st (resume_of c.args.how)) (sym w.self-is) (omega arith, (running_prepared b g.L.Link.conduct (g.L.Link.world (wire_of s.talk).link) s.first s.second hs st (resume_of w.in-Running-default.field-0-0) (resume_of c.args.how) (is.state ∙ ap state_of w.in-Running-default.is-0) is.there is.sides))
      | in_default-ByContinue+in-Ok w ↦ subst (λ (z : Session g.row.L.Denot). (g.L.Link.faults (wire_of s.talk).link ≤ g.L.Link.faults (wire_of z.talk).link) × AllPrepared b g.L.Link.conduct (g.L.Link.world (wire_of z.talk).link) s.first z.first s.second z.second hs st (resume_of c.args.how)) (sym w.self-is) (w.settle.ensures.faults, (subst (λ (r : How). AllPrepared b g.L.Link.conduct (g.L.Link.world (wire_of w.settle.new.self.talk).link) s.first w.settle.new.self.first s.second w.settle.new.self.second hs st (resume_of r)) (sym w.in_default-ByContinue.is-1) (settled_prepares b g.L.Link.conduct (g.L.Link.world (wire_of w.settle.new.self.talk).link) s.first w.settle.new.self.first s.second w.settle.new.self.second hs st (w.in-Ok.ensures.meant b hs st is (is_still s.mode st w.in_default-ByContinue.not-Running-0 is.state may)))))
      | in_default-ByStep+in-Ok-prepare w ↦ subst (λ (z : Session g.row.L.Denot). (g.L.Link.faults (wire_of s.talk).link ≤ g.L.Link.faults (wire_of z.talk).link) × AllPrepared b g.L.Link.conduct (g.L.Link.world (wire_of z.talk).link) s.first z.first s.second z.second hs st (resume_of c.args.how)) (sym w.self-is) (w.prepare.ensures.faults, (subst (λ (r : How). AllPrepared b g.L.Link.conduct (g.L.Link.world (wire_of w.prepare.new.self.talk).link) s.first w.prepare.new.self.first s.second w.prepare.new.self.second hs st (resume_of r)) (sym w.in_default-ByStep.is-1) (w.in-Ok-prepare.ensures.meant b hs st is (is_still s.mode st w.in_default-ByStep.not-Running-0 is.state may))))
    ] in
    no_line b g.L.Link.conduct {A = Line} (g.L.Link.faults (wire_of s.talk).link) (g.L.Link.faults (wire_of m.talk).link) (g.L.Link.faults (wire_of n.talk).link) (λ line. Unit {0}) (NotAll b g.L.Link.conduct (g.L.Link.world (wire_of n.talk).link) n.first n.second st (ResumesAs b (resume_of c.args.how) st))
    c.left.result c.settle-in-Err-line_for.result p.0 (c.settle-in-Err-line_for.ensures.talks b p.1.hosts p.1.there) c.left.ensures.ok c.left.ensures.err

pub returns-in-Err-clause-stays : goal.returns-in-Err-clause-stays
returns-in-Err-clause-stays g c = λ b hs st is may u. absurd (c.in-Err.ensures.whole (undone_as Line (Unit {0}) c.in-Err.fault u))

pub returns-in-Ok-line_for-clause-count : goal.returns-in-Ok-line_for-clause-count
returns-in-Ok-line_for-clause-count g c =
    let s = c.args.self.now in
    elim c.match-self.branch [
      | in-Running-default w ↦ ap (λ (z : Session g.row.L.Denot). g.L.Link.faults (wire_of z.talk).link) w.self-is
      | in_default-ByContinue+in-Ok w ↦ ap (λ (z : Session g.row.L.Denot). g.L.Link.faults (wire_of z.talk).link) w.self-is ∙ w.in-Ok.ensures.count
      | in_default-ByStep+in-Ok-prepare w ↦ ap (λ (z : Session g.row.L.Denot). g.L.Link.faults (wire_of z.talk).link) w.self-is ∙ w.in-Ok-prepare.ensures.count
    ]

pub returns-in-Err-line_for-clause-count : goal.returns-in-Err-line_for-clause-count
returns-in-Err-line_for-clause-count g c =
    let s = c.args.self.now in
    let m = c.match-self.self in
    let n = c.settle-in-Err-line_for.new.self in
    let same : g.L.Link.faults (wire_of m.talk).link ≡ g.L.Link.faults (wire_of s.talk).link = elim c.match-self.branch [
      | in-Running-default w ↦ ap (λ (z : Session g.row.L.Denot). g.L.Link.faults (wire_of z.talk).link) w.self-is
      | in_default-ByContinue+in-Ok w ↦ ap (λ (z : Session g.row.L.Denot). g.L.Link.faults (wire_of z.talk).link) w.self-is ∙ w.in-Ok.ensures.count
      | in_default-ByStep+in-Ok-prepare w ↦ ap (λ (z : Session g.row.L.Denot). g.L.Link.faults (wire_of z.talk).link) w.self-is ∙ w.in-Ok-prepare.ensures.count
    ] in
    wanted_counts (g.L.Link.faults (wire_of s.talk).link) (g.L.Link.faults (wire_of m.talk).link) (g.L.Link.faults (wire_of n.talk).link) c.settle-in-Err-line_for.result c.left.result same c.left.ensures.ok c.left.ensures.err c.settle-in-Err-line_for.ensures.count

pub returns-in-Err-line_for-clause-stays : goal.returns-in-Err-line_for-clause-stays
returns-in-Err-line_for-clause-stays g c = λ (b : Behaviour) (hs : Hosts) (st : SessionState) is may u.
    let s = c.args.self.now in
    let m = c.match-self.self in
    let n = c.settle-in-Err-line_for.new.self in
    let o = g.L.Link.world (wire_of s.talk).link in
    let on = g.L.Link.world (wire_of n.talk).link in
    let w = left_wants Line c.settle-in-Err-line_for.result NoMemory c.left.result c.left.ensures.ok c.left.ensures.err c.settle-in-Err-line_for.ensures.whole u in
    elim c.match-self.branch [
      | in-Running-default w1 ↦
          let same : n ≡ s = c.settle-in-Err-line_for.ensures.running w1.in-Running-default.field-0-0 (ap (λ (z : Session g.row.L.Denot). z.mode) w1.self-is ∙ w1.in-Running-default.is-0) ∙ w1.self-is in
          subst (λ (z : Session g.row.L.Denot). StandAgain WithTable b g.L.Link.conduct (g.L.Link.world (wire_of z.talk).link) z.first z.second st) (sym same) (stands_same WithTable same_with b g.L.Link.conduct o s.first s.second hs st is.there is.sides)
      | in_default-ByContinue+in-Ok w1 ↦
          let still = is_still s.mode st w1.in_default-ByContinue.not-Running-0 is.state may in
          let mid = w1.settle.new.self in
          let p = settled_prepares b g.L.Link.conduct (g.L.Link.world (wire_of mid.talk).link) s.first mid.first s.second mid.second hs st (w1.in-Ok.ensures.meant b hs st is still) in
          let q : AllPrepared b g.L.Link.conduct (g.L.Link.world (wire_of m.talk).link) s.first m.first s.second m.second hs st ByContinue =
          subst (λ (z : Session g.row.L.Denot). AllPrepared b g.L.Link.conduct (g.L.Link.world (wire_of z.talk).link) s.first z.first s.second z.second hs st ByContinue) (sym w1.self-is) p in
          unready b g.L.Link.conduct st still ByContinue o (g.L.Link.world (wire_of m.talk).link) on s.first m.first n.first s.second m.second n.second hs is.there is.sides q tt c.settle-in-Err-line_for.result w.0
          (c.settle-in-Err-line_for.ensures.cleared b q.hosts (λ how e. w1.in_default-ByContinue.not-Running-0 how (sym (ap (λ (z : Session g.row.L.Denot). z.mode) w1.self-is ∙ w1.settle.ensures.mode) ∙ e)) q.there)
      | in_default-ByStep+in-Ok-prepare w1 ↦
          let still = is_still s.mode st w1.in_default-ByStep.not-Running-0 is.state may in
          let mid = w1.prepare.new.self in
          let q : AllPrepared b g.L.Link.conduct (g.L.Link.world (wire_of m.talk).link) s.first m.first s.second m.second hs st ByStep =
          subst (λ (z : Session g.row.L.Denot). AllPrepared b g.L.Link.conduct (g.L.Link.world (wire_of z.talk).link) s.first z.first s.second z.second hs st ByStep) (sym w1.self-is) (w1.in-Ok-prepare.ensures.meant b hs st is still) in
          let stay : TablesStay ByStep s.first m.first s.second m.second = subst (λ (z : Session g.row.L.Denot). TablesStay ByStep s.first z.first s.second z.second) (sym w1.self-is) w1.in-Ok-prepare.ensures.tables in
          unready b g.L.Link.conduct st still ByStep o (g.L.Link.world (wire_of m.talk).link) on s.first m.first n.first s.second m.second n.second hs is.there is.sides q stay c.settle-in-Err-line_for.result w.0
          (c.settle-in-Err-line_for.ensures.cleared b q.hosts (λ how e. w1.in_default-ByStep.not-Running-0 how (sym (ap (λ (z : Session g.row.L.Denot). z.mode) w1.self-is ∙ w1.prepare.ensures.mode) ∙ e)) q.there)
    ]
