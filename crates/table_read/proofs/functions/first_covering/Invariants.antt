use Rattle.std.proofs.Common.{◌≡◌, drop}
use Rattle.table_model.specs.Reading.{first_from}
use Rattle.table_model.specs.Rows.{covering}
use Rattle.table_read.proofs.functions.first_covering.Given as goal

-- what is left decides
abbrev pub invariant-loop-function : goal.invariant-loop-function
invariant-loop-function l = first_from (λ n x. covering l.store l.pc l.unit x) l.function-index (drop l.function-index l.functions) ≡ first_from (λ n x. covering l.store l.pc l.unit x) 0 l.functions
