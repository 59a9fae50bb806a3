use Rattle.ps_store.specs.Store.{bytes_of}
use Rattle.table_model.specs.Places.{row_of}
use Rattle.table_points.proofs.Adding.{SoFar}
use Rattle.table_points.proofs.every.add_points.Given as goal

abbrev pub invariant-loop-object : goal.invariant-loop-object
invariant-loop-object l = SoFar l.store (λ n x. row_of l.store (bytes_of l.store l.file) (bytes_of l.store l.function) x) l.objects l.initial.points.items l.object-index l.points.items
