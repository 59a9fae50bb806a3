use Rattle.std.proofs.Common.{◌≡◌, ◌∙◌, refl, sym, ap, subst, ℕ, ◌-◌, ◌<◌, length, arith}
use Rattle.ldb_words.specs.declared.event.Event.{Event}
use Rattle.nub_wire.specs.Nub.{NubState, Host, running}
use Rattle.nub_core.proofs.Stretches.{at, at_start, stretch_goes, stretch_acts}
use Rattle.nub_core.proofs.nub.Nub.stretch.Goals as goal

pub loop-turn-init : goal.loop-turn-init
loop-turn-init g c =
    let m : c.args.most - 0 ≡ c.args.most = omega arith in
    let l : c.args.left - 0 ≡ c.args.left = omega arith in
    record {
      same = rw (m, l) (ap (running g.T.Target.behaviour c.args.most) (at_start c.args.self.now c.args.left c.requires.left_is));
      nub_is = refl;
    }

pub loop-turn-preserved : goal.loop-turn-preserved
loop-turn-preserved g c =
    let lt : c.loop-turn.turn < c.args.left = omega (arith, c.min-count.ensures, c.loop-turn-test.true) in
    let more : c.loop-turn.turn < c.args.most = omega (arith, c.min-count.ensures, c.loop-turn-test.true) in
    let nub_is = ap (λ (h : Host). h.nub) c.self.view_is ∙ c.loop-turn.invariant.nub_is in
    record {
      same =
          c.loop-turn.invariant.same
          ∙ ap (λ (h : Host). running g.T.Target.behaviour (c.args.most - c.loop-turn.turn) (at h.nub (c.args.left - c.loop-turn.turn) h.machine)) (sym c.self.view_is)
          ∙ stretch_goes g.T.Target.behaviour c.args.most c.args.left c.loop-turn.turn (record {
            killed = c.self.inside.is_killed;
            blocked = c.self.inside.is_blocked;
            ended = c.self.inside.ended;
            left = c.self.inside.left;
            output = c.self.inside.output.items;
          }) (g.T.Target.state c.self.inside.target) (g.T.Target.state c.step.new.self) lt more
          (ap (λ (n : NubState). n.ended) nub_is ∙ c.requires.goes_on)
          (subst (λ (n : NubState). length n.output < 1024) (sym nub_is) c.requires.room)
          (c.step.ensures ∙ ap (λ (e : Event). (e, g.T.Target.state c.step.new.self)) c.in-Went.is);
      nub_is = nub_is;
    }

pub act-requires : goal.act-requires
act-requires g c =
    let nub_is = ap (λ (h : Host). h.nub) c.self.view_is ∙ c.loop-turn.invariant.nub_is in
    subst (λ (n : NubState). length n.output < 1024) (sym nub_is) c.requires.room

pub returns-in_default : goal.returns-in_default
returns-in_default g c =
    let lt : c.loop-turn.turn < c.args.left = omega (arith, c.min-count.ensures, c.loop-turn-test.true) in
    let more : c.loop-turn.turn < c.args.most = omega (arith, c.min-count.ensures, c.loop-turn-test.true) in
    let nub_is = ap (λ (h : Host). h.nub) c.self.view_is ∙ c.loop-turn.invariant.nub_is in
    record {
      some = omega arith;
      within = omega (arith, more);
      same =
          c.loop-turn.invariant.same
          ∙ ap (λ (h : Host). running g.T.Target.behaviour (c.args.most - c.loop-turn.turn) (at h.nub (c.args.left - c.loop-turn.turn) h.machine)) (sym c.self.view_is)
          ∙ stretch_acts g.T.Target.behaviour c.args.most c.args.left c.loop-turn.turn (record {
            killed = c.self.inside.is_killed;
            blocked = c.self.inside.is_blocked;
            ended = c.self.inside.ended;
            left = c.self.inside.left;
            output = c.self.inside.output.items;
          }) (g.T.Target.state c.self.inside.target) (g.T.Target.state c.step.new.self) c.step.result c.act.new.self lt more
          (ap (λ (n : NubState). n.ended) nub_is ∙ c.requires.goes_on)
          (subst (λ (n : NubState). length n.output < 1024) (sym nub_is) c.requires.room)
          c.step.ensures
          c.act.ensures;
    }

pub returns-clause-same : goal.returns-clause-same
returns-clause-same g c =
    let e : c.loop-turn.turn ≡ c.min-count.result = omega (arith, c.loop-turn-test.false, c.loop-turn.auto.turn-end) in
    c.loop-turn.invariant.same
    ∙ ap (λ (h : Host). running g.T.Target.behaviour (c.args.most - c.loop-turn.turn) (at h.nub (c.args.left - c.loop-turn.turn) h.machine)) (sym c.self-2.view_is)
    ∙ ap (λ (k : ℕ). running g.T.Target.behaviour (c.args.most - k) (at (record {
      killed = c.self-2.inside.is_killed;
      blocked = c.self-2.inside.is_blocked;
      ended = c.self-2.inside.ended;
      left = c.self-2.inside.left;
      output = c.self-2.inside.output.items;
    }) (c.args.left - k) (g.T.Target.state c.self-2.inside.target))) e
