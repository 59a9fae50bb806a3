use Rattle.std.proofs.Common.{◌≡◌, ◌∙◌, ◌+◌, ◌<◌, ◌≤◌, ◌∷◌, length, take, drop, List, sym, ap, subst, None, Ok, arith}
use Rattle.table_points.specs.declared.row.Point.{Point}
use Rattle.debug_side.specs.Planting.{GivesUp, PlantsAll}
use Rattle.debug_side.proofs.Putting.{at_drop}
use Rattle.debug_side.proofs.Stepped.{Stepped, stepped, stepped_fault, stepped_all, next_rest, next_here, none_left}
use Rattle.debug_side.proofs.planting.plant_for_step.Goals as goal

pub returns-in-Err-clause-meaning : goal.returns-in-Err-clause-meaning
returns-in-Err-clause-meaning g c =
    let inside : c.loop-at.at < length c.loop-at.points.items = omega arith in
    stepped_fault c.args.target c.args.points.now.items c.loop-at.at (take c.loop-at.kept c.loop-at.points.items) c.index-point.result.now (g.M.AbsMem.seen c.args.m.now) (g.M.AbsMem.seen c.loop-at.m) (g.M.AbsMem.seen c.plant_one.new.m)
    (next_here c.loop-at.points.items c.args.points.now.items c.loop-at.at c.index-point.result.now c.loop-at.invariant.rest (at_drop c.loop-at.points.items c.loop-at.at c.index-point.result.now inside ∙ ap (λ (p : Point). p ∷ drop (c.loop-at.at + 1) c.loop-at.points.items) (sym c.index-point.ensures)))
    c.loop-at.invariant.stepped c.in-Err.fault (g.M.AbsMem.seen c.gives_up.new.m) c.gives_up.result c.loop-at.points.items c.in-Err.ensures.meaning
    (subst (λ (l : List Point). GivesUp c.args.target (g.M.AbsMem.seen c.plant_one.new.m) (take c.loop-at.kept l) c.in-Err.fault c.gives_up.result (g.M.AbsMem.seen c.gives_up.new.m)) c.deref.ensures.value c.gives_up.ensures.meaning)

pub loop-at-preserved : goal.loop-at-preserved
loop-at-preserved g c =
    let inside : c.loop-at.at < length c.loop-at.points.items = omega arith in
    let point : drop c.loop-at.at c.loop-at.points.items ≡ c.index-point.result.now ∷ drop (c.loop-at.at + 1) c.loop-at.points.items = at_drop c.loop-at.points.items c.loop-at.at c.index-point.result.now inside ∙ ap (λ (p : Point). p ∷ drop (c.loop-at.at + 1) c.loop-at.points.items) (sym c.index-point.ensures) in
    record {
      kept_in = c.keep-kept.ensures.behind;
      at_in = omega (arith, inside, c.keep-kept.ensures.same_length);
      rest = c.keep-kept.ensures.rest ∙ next_rest c.loop-at.points.items c.args.points.now.items c.loop-at.at c.loop-at.invariant.rest;
      same_length = c.keep-kept.ensures.same_length ∙ c.loop-at.invariant.same_length;
      stepped = subst (λ (l : List Point). Stepped c.args.target c.args.points.now.items (c.loop-at.at + 1) l (g.M.AbsMem.seen c.args.m.now) (g.M.AbsMem.seen c.plant_one.new.m)) (sym (c.keep-kept.ensures.front c.index-point.result.now point))
          (stepped c.args.target c.args.points.now.items c.loop-at.at (take c.loop-at.kept c.loop-at.points.items) c.index-point.result.now (g.M.AbsMem.seen c.args.m.now) (g.M.AbsMem.seen c.loop-at.m) (g.M.AbsMem.seen c.plant_one.new.m)
          (next_here c.loop-at.points.items c.args.points.now.items c.loop-at.at c.index-point.result.now c.loop-at.invariant.rest point) c.loop-at.invariant.stepped c.in-Ok.is_put c.in-Ok.ensures.meaning);
      calls = g.met.M.AbsMem.goes_on c.args.m.now c.loop-at.m c.plant_one.new.m None c.loop-at.invariant.calls c.in-Ok.ensures.calls;
    }

pub returns-clause-meaning : goal.returns-clause-meaning
returns-clause-meaning g c =
    let behind : length c.args.points.now.items ≤ c.loop-at.at = omega (arith, c.loop-at.invariant.same_length, c.loop-at.invariant.at_in) in
    subst (λ (l : List Point). PlantsAll c.args.target c.args.points.now.items (g.M.AbsMem.seen c.args.m.now) (Ok tt) l (g.M.AbsMem.seen c.loop-at.m)) (sym c.truncate.ensures.items)
    (stepped_all c.args.target c.args.points.now.items c.loop-at.at (take c.loop-at.kept c.loop-at.points.items) (g.M.AbsMem.seen c.args.m.now) (g.M.AbsMem.seen c.loop-at.m) (none_left c.args.points.now.items c.loop-at.at behind)
    c.loop-at.invariant.stepped)
