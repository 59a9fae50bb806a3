-- What is known of any expression at its place holds of its typed tree in the program.
use Rattle.c_accepted.proofs.Told.{operand_is}
use Rattle.c_accepted.proofs.Expressions.{told}
use Rattle.c_accepted.proofs.Statements.{AllTold}

pub all_told : AllTold
all_told v s e z j r q k l = (λ w. (told v s r e z j q k l).typed w, operand_is s z j (told v s r e z j q k l))
