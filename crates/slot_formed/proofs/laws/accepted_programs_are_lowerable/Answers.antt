use Rattle.slot_formed.proofs.Sizes.{laid_out}
use Rattle.slot_formed.proofs.Formed.{main_is}
use Rattle.slot_formed.proofs.Given.{all_fit}
use Rattle.slot_formed.proofs.laws.accepted_programs_are_lowerable.Goals as goal

pub returns : goal.returns
returns c = λ p accepted. record {
  laid_out = laid_out p.defs accepted.structs;
  fitting = all_fit p p.objects accepted.objects;
  main = main_is p accepted (λ t. c.leaves_ascend.ensures p.defs t (laid_out p.defs accepted.structs));
}
