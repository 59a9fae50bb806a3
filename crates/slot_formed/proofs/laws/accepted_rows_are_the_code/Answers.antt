use Rattle.slot_formed.proofs.Sizes.{laid_out}
use Rattle.slot_formed.proofs.Given.{given}
use Rattle.slot_formed.proofs.laws.accepted_rows_are_the_code.Goals as goal

pub returns : goal.returns
returns c = λ p code accepted rows. given p accepted (λ t. c.leaves_ascend.ensures p.defs t (laid_out p.defs accepted.structs)) code rows
