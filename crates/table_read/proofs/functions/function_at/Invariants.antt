use Rattle.std.proofs.Common.{◌≡◌, drop}
use Rattle.table_model.specs.Reading.{first_from}
use Rattle.table_model.specs.Rows.{covering_in}
use Rattle.table_read.proofs.functions.function_at.Given as goal

-- what is left decides
abbrev pub invariant-loop-number : goal.invariant-loop-number
invariant-loop-number l = first_from (covering_in l.store l.pc) l.number (drop l.number l.units) ≡ first_from (covering_in l.store l.pc) 0 l.units
