use Rattle.std.proofs.Common.{◌≡◌, ◌++◌, drop}
use Rattle.ps_text.specs.Code.{render}
use Rattle.ps_emit.specs.Functions.{units_code}
use Rattle.ps_emit.proofs.functions.add_units.Given as goal

abbrev pub invariant-loop-unit : goal.invariant-loop-unit
invariant-loop-unit l = l.text ++ render (units_code l.program l.rows (drop l.unit-index l.units)) ≡ l.initial.text ++ render (units_code l.program l.rows l.units)
