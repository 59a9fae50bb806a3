use Rattle.c_defs.proofs.Digested.{digested_update}
use Rattle.c_defs.proofs.numbers.Numbers.replace.Goals as goal

pub returns-in-Ok-clause-ok : goal.returns-in-Ok-clause-ok
returns-in-Ok-clause-ok c = digested_update c.args.name.now c.digest.result c.args.self.now.of c.insert.new.self _ c.digest.ensures c.in-Ok.ensures.updates
