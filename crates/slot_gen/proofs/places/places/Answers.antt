use Rattle.std.proofs.Common.{◌+◌, refl, ap, ◌∙◌}
use Rattle.slot_gen.proofs.Placed.{none_noted, one_noted, all_placed}
use Rattle.slot_gen.proofs.places.places.Goals as goal

pub loop-op-preserved : goal.loop-op-preserved
loop-op-preserved c = record {
  noted = one_noted c.args.code.now c.first_point-first.result c.loop-op.op-index c.loop-op.at _ _ c.loop-op.places.items c.note.new.places.items c.loop-op-test.true refl c.loop-op.invariant.number c.loop-op.invariant.noted c.note.ensures.each;
  many = c.note.ensures.many ∙ c.loop-op.invariant.many;
  number = c.in_ok-at.ensures ∙ ap (λ k. k + 1) c.loop-op.invariant.number;
}

pub returns : goal.returns
returns c = all_placed c.args.code.now c.args.points.now c.loop-op.places.items c.first_point-first.result c.loop-op.op-index c.first_point-first.ensures c.loop-op.invariant.many c.loop-op-test.false c.loop-op.invariant.noted
