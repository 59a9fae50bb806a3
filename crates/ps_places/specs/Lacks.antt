-- What a use of a table lacks, as the error of an operator.
use Rattle.std.specs.Prelude.{Option, Some, None, Result, Ok, Err}
use Rattle.ps_step.specs.declared.fault.PsError.{PsError}
use Rattle.ps_step.specs.declared.fault.PsError.TheVariants.{Undefined}
use Rattle.table_model.specs.declared.lack.Lack.{Lack}
use Rattle.table_model.specs.Reading.{Walked, kind_of}

-- No error is told of a unit that is still to be run: it is run, and the operator acts again. Names and types of a table are
-- read without units, so there the last case is not met.
abbrev pub error_of : Lack → PsError
error_of l = elim (kind_of l) [ Some e ↦ e | None ↦ Undefined ]

abbrev pub looked : {A : Type 0} → Walked A → Result A PsError
looked (Ok x) = Ok x
looked (Err l) = Err (error_of l)
