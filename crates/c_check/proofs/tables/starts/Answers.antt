use Rattle.c_check.proofs.tables.starts.Goals as goal

pub returns : goal.returns
returns c = λ q d o. record { defs = d; of = o; numbers = c.in_ok-numbers.ensures }
