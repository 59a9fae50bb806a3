use Rattle.std.proofs.Common.{◌≡◌, drop}
use Rattle.table_model.specs.Reading.{all_from}
use Rattle.table_model.specs.Places.{called}
use Rattle.table_read.specs.Reads.{in_ok}
use Rattle.table_points.specs.Naming.{choice_of, with_all}
use Rattle.table_points.proofs.named.add_functions.Given as goal

-- what is kept, and what is left
abbrev pub invariant-loop-function : goal.invariant-loop-function
invariant-loop-function l = in_ok (with_all (choice_of l.meant)) (all_from (λ n x. called l.store l.name l.number l.unit x) l.function-index (drop l.function-index l.functions)) ≡ in_ok (with_all (choice_of l.fn.before)) (all_from (λ n x. called l.store l.name l.number l.unit x) 0 l.functions)
