use Rattle.std.proofs.Common.{sym, ◌∙◌, arith, ◌-◌}
use Rattle.ps_emit.specs.Places.{homes}
use Rattle.ps_emit.proofs.Points.{points_more, made_more, points_end, addresses_end, made_points_end, made_addresses_end}
use Rattle.ps_emit.proofs.functions.add_points.Goals as goal

pub loop-i-preserved : goal.loop-i-preserved
loop-i-preserved c = record {
  text =
      points_more c.args.scene.program.now c.args.scene.functions.now (homes c.args.scene.places.now c.args.scene.locals.now) c.loop-i.made c.in_ok-made.made c.args.points.now c.args.addresses.now c.loop-i.i
      c.loop-i-test.true (omega arith) c.in_ok-made.ensures.text c.in_ok-made.ensures.made
      ∙ c.loop-i.invariant.text;
  made =
      made_more c.args.scene.program.now c.args.scene.functions.now c.loop-i.made c.in_ok-made.made c.args.points.now c.args.addresses.now c.loop-i.i
      c.loop-i-test.true (omega arith) c.in_ok-made.ensures.made
      ∙ c.loop-i.invariant.made;
}

pub returns : goal.returns
returns c = record {
  text = record {
    text =
        sym (points_end c.args.scene.program.now c.args.scene.functions.now (homes c.args.scene.places.now c.args.scene.locals.now) c.loop-i.made c.args.points.now c.args.addresses.now c.loop-i.i c.loop-i.text
        c.loop-i-test.false)
        ∙ c.loop-i.invariant.text;
  };
  made =
      sym (made_points_end c.args.scene.program.now c.args.scene.functions.now c.loop-i.made c.args.points.now c.args.addresses.now c.loop-i.i c.loop-i-test.false)
      ∙ c.loop-i.invariant.made;
}

pub returns-then-i-addresses-clause-text : goal.returns-then-i-addresses-clause-text
returns-then-i-addresses-clause-text c = record {
  text =
      sym (addresses_end c.args.scene.program.now c.args.scene.functions.now (homes c.args.scene.places.now c.args.scene.locals.now) c.loop-i.made c.args.points.now c.args.addresses.now c.loop-i.i c.loop-i.text
      (omega arith))
      ∙ c.loop-i.invariant.text;
}

pub returns-then-i-addresses-clause-made : goal.returns-then-i-addresses-clause-made
returns-then-i-addresses-clause-made c =
    sym (made_addresses_end c.args.scene.program.now c.args.scene.functions.now c.loop-i.made c.args.points.now c.args.addresses.now c.loop-i.i (omega arith)) ∙ c.loop-i.invariant.made
