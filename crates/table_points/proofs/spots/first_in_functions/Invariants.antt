use Rattle.std.proofs.Common.{◌≡◌, drop}
use Rattle.ps_store.specs.Store.{bytes_of}
use Rattle.table_model.specs.Reading.{first_from}
use Rattle.table_model.specs.Places.{in_function}
use Rattle.table_points.proofs.spots.first_in_functions.Given as goal

-- what is left decides
abbrev pub invariant-loop-function : goal.invariant-loop-function
invariant-loop-function l = first_from (λ n x. in_function l.store (bytes_of l.store l.file) l.line l.column x) l.function-index (drop l.function-index l.functions) ≡ first_from (λ n x. in_function l.store (bytes_of l.store l.file) l.line l.column x) 0 l.functions
