use Rattle.table_model.specs.Places.{rows_in}
use Rattle.table_points.proofs.Adding.{SoFar}
use Rattle.table_points.proofs.every.add_units.Given as goal

abbrev pub invariant-loop-number : goal.invariant-loop-number
invariant-loop-number l = SoFar l.store (rows_in l.store) l.units l.initial.points.items l.number l.points.items
