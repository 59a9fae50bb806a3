use Rattle.std.proofs.Common.{refl, sym, ◌∙◌, arith}
use Rattle.ps_emit.proofs.Followed.{none_left, counted_more}
use Rattle.ps_emit.proofs.places.add_objects.Goals as goal
use Rattle.ps_emit.specs.Places.{object_code, objects_from}

pub loop-o-preserved : goal.loop-o-preserved
loop-o-preserved c = record {
  text =
      counted_more (objects_from c.args.units.now) c.loop-o.k c.in_ok-k.k (object_code c.args.units.now c.loop-o.k c.o-item.result) c.args.objects.now c.loop-o.o-index c.o-item.result
      c.in_ok-k.ensures c.loop-o-test.true c.o-item.is refl c.in_ok-add_object.ensures
      ∙ c.loop-o.invariant.text;
  number = c.in_ok-k.ensures ∙ omega arith;
}

pub returns : goal.returns
returns c = record {
  text = record { text = sym (none_left (objects_from c.args.units.now c.loop-o.k) c.args.objects.now c.loop-o.o-index c.loop-o.text refl c.loop-o-test.false) ∙ c.loop-o.invariant.text };
  number = omega arith;
}
