use Rattle.std.proofs.Common.{rules, refl, sym, subst, ◌∙◌}
use Rattle.slot_gen.specs.Bounds.{AreBelow}
use Rattle.slot_gen.proofs.Few.{few_of}
use Rattle.slot_gen.proofs.Placed.{placed_row}
use Rattle.slot_gen.proofs.rows.lower_function.Goals as goal

pub returns : goal.returns
returns c = record {
  name = search rules;
  params = refl;
  locals = search rules;
  points = search rules;
  code = c.from_vec-3.ensures ∙ c.in_ok-code.ensures;
  below = subst (λ l. AreBelow c.in_ok-temporaries.field-0 l) (c.deref-2.ensures.value ∙ sym c.from_vec-3.ensures) c.in_ok-temporaries.ensures.below;
  places = placed_row _ _ _ _ _ _ (c.deref.ensures.value ∙ sym c.from_vec-3.ensures) (search rules) (search rules) c.in_ok-places.ensures;
  few = few_of c.args.program.now c.args.number c.args.function.now c.deref-2.result.now c.in_ok-temporaries.field-0 (λ m. c.in_ok-temporaries.ensures.least m) (c.deref-2.ensures.value ∙ c.in_ok-code.ensures);
}
