use Rattle.c_tokens.proofs.Program.{few_tokens}
use Rattle.c_tokens.proofs.Joined.{terminals_few}
use Rattle.c_tokens.proofs.laws.programs_have_few_tokens.Goals as goal

pub returns : goal.returns
returns c = record { fewest = λ names us tss p s m. few_tokens names us tss p s (m.1.behind, m.1.files, m.1.rows); joined = λ text ts. terminals_few text ts }
