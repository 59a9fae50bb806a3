use Rattle.std.proofs.Common.{◌≡◌, ◌<◌, ◌≤◌, ℕ, List, [], length, drop, refl, None, arith}
use Rattle.std.proofs.lemmas.Grind.{common_steps}
use Rattle.break_plant.specs.Planted.{noop_of}
use Rattle.table_points.specs.declared.row.Point.{Point}
use Rattle.debug_side.proofs.Putting.{FrontLeft, wrote_none, puts_after, at_drop, front_more, front_all, led_after}
use Rattle.debug_side.proofs.words.unplant_all.Goals as goal

past_end : (ps : List Point) (i : ℕ) → length ps ≤ i → drop i ps ≡ []
past_end ps i h = grind (arith, common_steps)

pub loop-point-init : goal.loop-point-init
loop-point-init g c = record {
  wrote = wrote_none (g.M.AbsMem.seen c.args.m.now) (FrontLeft (noop_of c.args.target) c.args.points.now 0) (λ b. refl);
  calls = g.met.M.AbsMem.stays c.args.m.now;
}

pub returns-in-Err-clause-meaning : goal.returns-in-Err-clause-meaning
returns-in-Err-clause-meaning g c =
    puts_after (g.M.AbsMem.seen c.args.m.now) (g.M.AbsMem.seen c.loop-point.m) (g.M.AbsMem.seen c.put_noop.new.m) (FrontLeft (noop_of c.args.target) c.args.points.now c.loop-point.point-index) _
    c.in-Err.fault _ c.loop-point.invariant.wrote c.in-Err.ensures.meaning

pub returns-in-Err-clause-calls : goal.returns-in-Err-clause-calls
returns-in-Err-clause-calls g c =
    led_after (Unit {0}) (Unit {0}) g.M.AbsMem.leads g.met.M.AbsMem.goes_on c.args.m.now c.loop-point.m c.put_noop.new.m c.in-Err.fault c.loop-point.invariant.calls c.in-Err.ensures.calls

pub loop-point-preserved : goal.loop-point-preserved
loop-point-preserved g c =
    let inside : c.loop-point.point-index < length c.args.points.now = omega arith in
    record {
      wrote = front_more (noop_of c.args.target) c.args.points.now c.loop-point.point-index _ (g.M.AbsMem.seen c.args.m.now) (g.M.AbsMem.seen c.loop-point.m) (g.M.AbsMem.seen c.put_noop.new.m)
          (at_drop c.args.points.now c.loop-point.point-index _ inside) c.loop-point.invariant.wrote c.in-Ok.ensures.meaning;
      calls = g.met.M.AbsMem.goes_on c.args.m.now c.loop-point.m c.put_noop.new.m None c.loop-point.invariant.calls c.in-Ok.ensures.calls;
    }

pub returns-clause-meaning : goal.returns-clause-meaning
returns-clause-meaning g c =
    let past : length c.args.points.now ≤ c.loop-point.point-index = omega arith in
    front_all (noop_of c.args.target) c.args.points.now c.loop-point.point-index (g.M.AbsMem.seen c.args.m.now) (g.M.AbsMem.seen c.loop-point.m)
    (past_end c.args.points.now c.loop-point.point-index past) c.loop-point.invariant.wrote

pub returns-clause-calls : goal.returns-clause-calls
returns-clause-calls g c = c.loop-point.invariant.calls
