use Rattle.slot_formed.proofs.Sizes.{laid_out}
use Rattle.slot_formed.proofs.Formed.{main_is}
use Rattle.slot_formed.proofs.TakingStmts.{takes_pointers_alone}
use Rattle.slot_formed.proofs.laws.numbers_taken_are_zero.Goals as goal

pub returns : goal.returns
returns c = λ p code accepted is.
    let main = main_is p accepted (λ t. c.leaves_ascend.ensures p.defs t (laid_out p.defs accepted.structs)) in
    takes_pointers_alone p accepted code is main.0 main.1
