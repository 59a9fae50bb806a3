use Rattle.c_defs.proofs.Digested.{digested_update}
use Rattle.c_linkage.proofs.definitions.KnownNames.set.Goals as goal

pub returns-in-Ok : goal.returns-in-Ok
returns-in-Ok c = digested_update c.args.name.now c.digest.result c.args.self.now.of c.insert.new.self _ c.digest.ensures c.in-Ok.ensures.updates
