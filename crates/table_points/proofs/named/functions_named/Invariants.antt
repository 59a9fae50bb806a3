use Rattle.std.proofs.Common.{◌≡◌, drop}
use Rattle.table_model.specs.Reading.{all_from}
use Rattle.table_model.specs.Places.{called_in}
use Rattle.table_read.specs.Reads.{in_ok}
use Rattle.table_points.specs.Naming.{choice_of, nothing_read, with_all}
use Rattle.table_points.proofs.named.functions_named.Given as goal

-- what is kept, and what is left
abbrev pub invariant-loop-number : goal.invariant-loop-number
invariant-loop-number l = in_ok (with_all (choice_of l.meant)) (all_from (called_in l.store l.name) l.number (drop l.number l.units)) ≡ in_ok (with_all nothing_read) (all_from (called_in l.store l.name) 0 l.units)
