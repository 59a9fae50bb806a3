use Rattle.ps_store.specs.Store.{bytes_of}
use Rattle.table_model.specs.Places.{rows_of}
use Rattle.table_points.proofs.Adding.{SoFar}
use Rattle.table_points.proofs.every.add_functions.Given as goal

abbrev pub invariant-loop-function : goal.invariant-loop-function
invariant-loop-function l = SoFar l.store (λ n x. rows_of l.store (bytes_of l.store l.file) x) l.functions l.initial.points.items l.function-index l.points.items
