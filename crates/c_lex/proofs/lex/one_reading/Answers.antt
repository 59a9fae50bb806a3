use Rattle.c_lex.proofs.Lexing.{one_list, not_both, one_fault}
use Rattle.c_lex.proofs.lex.one_reading.Goals as goal

pub returns-clause-tokens : goal.returns-clause-tokens
returns-clause-tokens c = λ text ts us a b. one_list a b

pub returns-clause-either : goal.returns-clause-either
returns-clause-either c = λ text ts at a b. not_both a b

pub returns-clause-fault : goal.returns-clause-fault
returns-clause-fault c = λ text a b x y. one_fault x y
