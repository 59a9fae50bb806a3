use Rattle.std.proofs.Common.{rules, refl, arith}
use Rattle.machine_state.specs.State.{Behaviour}
use Rattle.claims.specs.Side.{SessionState}
use Rattle.session.specs.Meant.{Hosts}
use Rattle.session.proofs.Words.{wire_of}
use Rattle.session.proofs.Counting.{counts_on}
use Rattle.session.proofs.Tallying.{clear_none, clear_some}
use Rattle.session.proofs.Readying.{settle_none, settle_some, talks_some, first_failed}
use Rattle.session.proofs.conversation.Session.settle.Goals as goal

pub returns-in-Err : goal.returns-in-Err
returns-in-Err g c =
    let s = c.args.self.now in
    let o = g.L.Link.world (wire_of s.talk).link in let o1 = g.L.Link.world (wire_of c.taken_away.new.talk).link in
    let f = g.L.Link.faults (wire_of s.talk).link in let f1 = g.L.Link.faults (wire_of c.taken_away.new.talk).link in
    record {
      mode = refl;
      limit = refl;
      kept = search rules;
      still = search rules;
      ready = tt;
      running = search rules;
      faults = c.taken_away.ensures.faults;
      talks = λ (b : Behaviour) (hs : Hosts) there. first_failed b g.L.Link.conduct o o1 f f1 s.first c.taken_away.new.side s.second hs (λ u. Unit {0}) c.in-Err.fault there (c.in-Err.ensures.meant b);
      meant = λ (b : Behaviour) (hs : Hosts) (st : SessionState) is still. first_failed b g.L.Link.conduct o o1 f f1 s.first c.taken_away.new.side s.second hs (λ u. Unit {0}) c.in-Err.fault is.there (c.in-Err.ensures.meant b);
      whole = c.in-Err.ensures.whole;
      cleared = λ b hs n there. tt;
      count = c.in-Err.ensures.count;
      raw = refl;
      broken = refl;
    }

pub returns-in-None : goal.returns-in-None
returns-in-None g c =
    let s = c.args.self.now in
    let o = g.L.Link.world (wire_of s.talk).link in let o1 = g.L.Link.world (wire_of c.taken_away.new.talk).link in
    let f = g.L.Link.faults (wire_of s.talk).link in let f1 = g.L.Link.faults (wire_of c.taken_away.new.talk).link in
    record {
      mode = refl;
      limit = refl;
      kept = search rules;
      still = search rules;
      ready = search rules;
      running = search rules;
      faults = c.taken_away.ensures.faults;
      talks = λ (b : Behaviour) (hs : Hosts) there. tt;
      meant = λ (b : Behaviour) (hs : Hosts) (st : SessionState) is still.
          settle_none b g.L.Link.conduct o o1 f f1 s.first c.taken_away.new.side c.taken_away.ensures.which s.second c.in-None.is hs st is.there is.sides still (c.in-Ok.ensures.meant b);
      whole = λ u. u;
      cleared = λ (b : Behaviour) (hs : Hosts) n there. clear_none b g.L.Link.conduct o o1 f f1 s.first c.taken_away.new.side c.taken_away.ensures.which (c.in-Ok.ensures.meant b) s.second c.in-None.is hs there;
      count = c.in-Ok.ensures.count;
      raw = refl;
      broken = refl;
    }

pub returns-in-Some : goal.returns-in-Some
returns-in-Some g c =
    let s = c.args.self.now in
    let o = g.L.Link.world (wire_of s.talk).link in let o1 = g.L.Link.world (wire_of c.taken_away.new.talk).link in let o2 = g.L.Link.world (wire_of c.taken_away-in-Some.new.talk).link in
    let f = g.L.Link.faults (wire_of s.talk).link in let f1 = g.L.Link.faults (wire_of c.taken_away.new.talk).link in let f2 = g.L.Link.faults (wire_of c.taken_away-in-Some.new.talk).link in
    record {
      mode = refl;
      limit = refl;
      kept = search rules;
      still = search rules;
      ready = search rules;
      running = search rules;
      faults = omega (arith, c.taken_away.ensures.faults, c.taken_away-in-Some.ensures.faults);
      talks = λ (b : Behaviour) (hs : Hosts) there.
          talks_some b g.L.Link.conduct o o1 f f1 s.first c.taken_away.new.side c.taken_away.ensures.which o2 f2 c.in-Some.second c.taken_away-in-Some.new.side c.taken_away-in-Some.ensures.which (c.in-Ok.ensures.meant b) s.second c.in-Some.is hs c.taken_away-in-Some.result c.taken_away.ensures.faults there
          (c.taken_away-in-Some.ensures.meant b);
      meant = λ (b : Behaviour) (hs : Hosts) (st : SessionState) is still.
          settle_some b g.L.Link.conduct o o1 f f1 s.first c.taken_away.new.side c.taken_away.ensures.which o2 f2 c.in-Some.second c.taken_away-in-Some.new.side c.taken_away-in-Some.ensures.which (c.in-Ok.ensures.meant b) s.second c.in-Some.is hs st c.taken_away-in-Some.result c.taken_away.ensures.faults is.there
          is.sides still (c.taken_away-in-Some.ensures.meant b);
      whole = c.taken_away-in-Some.ensures.whole;
      cleared = λ (b : Behaviour) (hs : Hosts) n there.
          clear_some b g.L.Link.conduct o o1 f f1 s.first c.taken_away.new.side c.taken_away.ensures.which (c.in-Ok.ensures.meant b) o2 f2 c.in-Some.second c.taken_away-in-Some.new.side c.taken_away-in-Some.ensures.which s.second c.in-Some.is hs there c.taken_away-in-Some.result
          (c.taken_away-in-Some.ensures.meant b);
      count = counts_on f f1 f2 c.taken_away-in-Some.result c.in-Ok.ensures.count c.taken_away-in-Some.ensures.count;
      raw = refl;
      broken = refl;
    }

pub returns-in-Running-clause-cleared : goal.returns-in-Running-clause-cleared
returns-in-Running-clause-cleared g c = λ b hs n there. absurd (n _ c.in-Running.is)
