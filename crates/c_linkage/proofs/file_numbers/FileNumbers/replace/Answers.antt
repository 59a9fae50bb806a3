use Rattle.c_linkage.proofs.Pairs.{pairs_update}
use Rattle.c_linkage.proofs.file_numbers.FileNumbers.replace.Goals as goal

pub returns-in-Ok-clause-ok : goal.returns-in-Ok-clause-ok
returns-in-Ok-clause-ok c = pairs_update c.args.unit c.args.name.now c.digest.result c.args.self.now.of c.insert.new.self _ c.digest.ensures c.in-Ok.ensures.updates
