use Rattle.std.proofs.Common.{◌≡◌, ◌∙◌, sym, ap, subst, ℕ, ◌+◌, ◌-◌, ◌≤◌, List, ◌++◌, length, take, drop, Option, Ok, Err, arith}
use Rattle.machine_state.specs.State.{Behaviour}
use Rattle.nub_wire.specs.Nub.{Host}
use Rattle.resuming.specs.Standing.{Stands}
use Rattle.session.specs.Starting.{given_to}
use Rattle.session.proofs.Starting.{taken_more, given_twice, piece_room}
use Rattle.session.proofs.start.give_all.Goals as goal

pub loop-done-preserved : goal.loop-done-preserved
loop-done-preserved g c =
    let i = c.loop-done.invariant in
    let n = c.loop-done.done in
    let m = c.min-count.result in
    let xs = c.args.input.now in
    let after = g.L.Link.world c.give.new.link in
    record {
      bound = omega (arith, i.bound, c.min-count.ensures, c.loop-done-test.true);
      faults = c.in_ok-give.ensures.calm ∙ i.faults;
      stands = λ (b : Behaviour) (h : Host) (beside : Option Host) x room.
          let e : n + m - n ≡ m = omega arith in
          let k = c.in_ok-give.ensures.meant b (given_to (take n xs) h) beside (i.stands b h beside x room) (subst (λ (k : ℕ). h.machine.given + length (take n xs) + length (take k (drop n xs)) ≤ 16777216) (sym e) (piece_room h.machine.given n m xs room)) in
          subst (λ (l : List ℕ). Stands b g.L.Link.conduct c.args.side after (given_to l h) beside) (taken_more n m xs)
          (subst (λ (z : Host). Stands b g.L.Link.conduct c.args.side after z beside) (given_twice (take n xs) (take m (drop n xs)) h)
          (subst (λ (k : ℕ). Stands b g.L.Link.conduct c.args.side after (given_to (take k (drop n xs)) (given_to (take n xs) h)) beside) e k));
    }
