use Rattle.ldb_top.proofs.Opened.{built_stops}
use Rattle.ldb_top.proofs.generated.begin_own.Goals as goal

pub returns : goal.returns
returns c = built_stops _ _ _ c.begin.ensures.builds
