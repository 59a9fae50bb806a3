use Rattle.std.proofs.Common.{◌∙◌}
use Rattle.std.proofs.lemmas.List.{take_all}
use Rattle.slot_gen.proofs.Begun.{strings_more}
use Rattle.slot_gen.proofs.rows.lower_strings.Goals as goal

pub loop-text-preserved : goal.loop-text-preserved
loop-text-preserved c = strings_more _ _ c.args.strings.now c.loop-text.text-index c.text-item.result c.in_ok-from_slice.field-0 c.as_bytes.result.now c.loop-text-test.true c.text-item.is c.in_ok-from_slice.ensures c.as_bytes.ensures c.loop-text.invariant c.in_ok-push.ensures.items

pub returns : goal.returns
returns c = c.from_vec.ensures ∙ c.loop-text.invariant ∙ take_all _ _ c.loop-text-test.false
