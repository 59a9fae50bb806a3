use Rattle.slot_formed.proofs.Sizes.{laid_out}
use Rattle.slot_formed.proofs.Formed.{well_formed}
use Rattle.slot_formed.proofs.laws.code_is_well_formed.Goals as goal

pub returns : goal.returns
returns c = λ p code accepted is few.
    let all = laid_out p.defs accepted.structs in
    well_formed p accepted (λ t. c.leaves_ascend.ensures p.defs t all) (λ t w. (c.leaves_ascend.ensures p.defs t all, c.leaves_are_aligned.ensures p.defs t all, c.leaves_fill.ensures p.defs t all w)) code is few
    (c.code_of_a_program_is_short.ensures p code is)
