use Rattle.std.proofs.Common.{◌≡◌, ◌<◌, ◌≤◌, ◌+◌, ◌-◌, ℕ, List, [], length, drop, map, sym, ap, None, arith}
use Rattle.std.proofs.lemmas.Grind.{common_steps}
use Rattle.break_plant.specs.Planted.{noop_of}
use Rattle.table_points.specs.declared.row.Point.{Point}
use Rattle.debug_side.specs.Meant.{address_of}
use Rattle.debug_side.specs.Wrote.{words_put_back}
use Rattle.debug_side.proofs.Putting.{BackDone, wrote_none, puts_after, at_drop, back_more, back_all, led_after}
use Rattle.debug_side.proofs.words.unplant_back.Goals as goal

past_end : (ps : List Point) (i : ℕ) → length ps ≤ i → drop i ps ≡ []
past_end ps i h = grind (arith, common_steps)

pub loop-left-init : goal.loop-left-init
loop-left-init g c =
    let end : length c.args.points.now ≤ length c.args.points.now = omega arith in
    record {
      within = omega arith;
      wrote = wrote_none (g.M.AbsMem.seen c.args.m.now) (BackDone (noop_of c.args.target) c.args.points.now (length c.args.points.now))
          (λ b. sym (ap (λ (l : List Point). words_put_back b.order (noop_of c.args.target) (map address_of l) b.regions) (past_end c.args.points.now (length c.args.points.now) end)));
      calls = g.met.M.AbsMem.stays c.args.m.now;
    }

pub returns-in-Err-clause-meaning : goal.returns-in-Err-clause-meaning
returns-in-Err-clause-meaning g c =
    puts_after (g.M.AbsMem.seen c.args.m.now) (g.M.AbsMem.seen c.loop-left.m) (g.M.AbsMem.seen c.put_noop.new.m) (BackDone (noop_of c.args.target) c.args.points.now c.loop-left.left) _
    c.in-Err.fault _ c.loop-left.invariant.wrote c.in-Err.ensures.meaning

pub returns-in-Err-clause-calls : goal.returns-in-Err-clause-calls
returns-in-Err-clause-calls g c =
    led_after (Unit {0}) (Unit {0}) g.M.AbsMem.leads g.met.M.AbsMem.goes_on c.args.m.now c.loop-left.m c.put_noop.new.m c.in-Err.fault c.loop-left.invariant.calls c.in-Err.ensures.calls

pub loop-left-preserved : goal.loop-left-preserved
loop-left-preserved g c =
    let some : 0 < c.loop-left.left = omega arith in
    let back : c.loop-left.left ≡ c.loop-left.left - 1 + 1 = omega arith in
    let inside : c.loop-left.left - 1 < length c.args.points.now = omega (arith, c.loop-left.invariant.within) in
    record {
      within = omega (arith, c.loop-left.invariant.within);
      wrote = back_more (noop_of c.args.target) c.args.points.now (c.loop-left.left - 1) c.loop-left.left _ (g.M.AbsMem.seen c.args.m.now) (g.M.AbsMem.seen c.loop-left.m) (g.M.AbsMem.seen c.put_noop.new.m) back
          (at_drop c.args.points.now (c.loop-left.left - 1) _ inside) c.loop-left.invariant.wrote c.in-Ok.ensures.meaning;
      calls = g.met.M.AbsMem.goes_on c.args.m.now c.loop-left.m c.put_noop.new.m None c.loop-left.invariant.calls c.in-Ok.ensures.calls;
    }

pub returns-clause-meaning : goal.returns-clause-meaning
returns-clause-meaning g c =
    let none : c.loop-left.left ≡ 0 = omega arith in
    back_all (noop_of c.args.target) c.args.points.now c.loop-left.left (g.M.AbsMem.seen c.args.m.now) (g.M.AbsMem.seen c.loop-left.m) none c.loop-left.invariant.wrote

pub returns-clause-calls : goal.returns-clause-calls
returns-clause-calls g c = c.loop-left.invariant.calls
