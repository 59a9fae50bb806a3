use Rattle.std.proofs.Common.{arith}
use Rattle.std.proofs.lemmas.Grind.{common_steps}
use Rattle.std.proofs.lemmas.List.Sums.{fold_more}
use Rattle.c_defs.specs.Digests.{digest}
use Rattle.c_defs.proofs.digests.digest.Goals as goal

pub loop-byte-preserved : goal.loop-byte-preserved
loop-byte-preserved c = grind (arith, common_steps, fold_more)

pub returns : goal.returns
unfolding digest
returns c = grind (arith, common_steps)
