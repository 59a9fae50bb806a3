use Rattle.ps_places.proofs.Cells.{only_cell}
use Rattle.ps_places.proofs.access.immediate.Goals as goal

pub returns-in-Err-push-clause-does : goal.returns-in-Err-push-clause-does
returns-in-Err-push-clause-does g c = only_cell (g.M.AbsMem.seen c.args.memory.now) (g.M.AbsMem.seen c.store.new.self) c.in-Ok.value c.in-Ok-store.ensures.meaning
