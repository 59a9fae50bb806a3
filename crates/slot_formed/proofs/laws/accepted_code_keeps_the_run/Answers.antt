use Rattle.slot_gen.specs.Correct.{IsCodeOf}
use Rattle.slot_formed.proofs.Sizes.{laid_out}
use Rattle.slot_formed.proofs.Formed.{main_is, of_code, there_is}
use Rattle.slot_formed.proofs.Keeps.{is_code}
use Rattle.slot_formed.proofs.laws.accepted_code_keeps_the_run.Goals as goal

pub returns : goal.returns
returns c = record {
  there = λ p accepted. there_is p accepted (λ t. c.leaves_ascend.ensures p.defs t (laid_out p.defs accepted.structs)) (λ f fn. c.code_takes_few_temporaries.ensures.function p f fn);
  rows = λ p code accepted is. of_code p accepted (λ t. c.leaves_ascend.ensures p.defs t (laid_out p.defs accepted.structs)) (IsCodeOf p) code is (is_code p code.functions is.functions accepted.objects);
  run = λ p code accepted is.
      c.slot_code_keeps_the_run.ensures p code
      (of_code p accepted (λ t. c.leaves_ascend.ensures p.defs t (laid_out p.defs accepted.structs)) (IsCodeOf p) code is (is_code p code.functions is.functions accepted.objects))
      (main_is p accepted (λ t. c.leaves_ascend.ensures p.defs t (laid_out p.defs accepted.structs)));
}
