-- The state of a run, and what all operators do to it.
use Rattle.std.specs.Prelude.{ℕ, nat_lt, if◌then◌else◌, Result, Ok, Err, List, ◌∷◌, length}
use Rattle.ps_store.specs.declared.object.PsObj.{PsObj}
use Rattle.ps_store.specs.declared.object.ArrayId.{ArrayId}
use Rattle.ps_store.specs.Store.{elements_of}
use Rattle.ps_step.specs.declared.fault.PsError.{PsError}
use Rattle.ps_step.specs.declared.fault.PsError.TheVariants.{StackOverflow, ExecStackOverflow}
use Rattle.ps_step.specs.declared.item.Item.{Item}
use Rattle.ps_step.specs.declared.item.Item.TheVariants.{Procedure}
use Rattle.ps_step.specs.declared.machine.PsCore.{PsCore}

-- What an operator makes of a state, or the error that it raises, which leaves the state as it was.
abbrev pub Made : Type 0
Made = Result PsCore PsError

-- the state with other operands; with another execution stack
abbrev pub with_operands : PsCore → List PsObj → PsCore
with_operands c operands = record c { operands = operands }

abbrev pub with_execution : PsCore → List Item → PsCore
with_execution c execution = record c { execution = execution }

-- an object on top of the operands, of which there are at most 100,000
abbrev pub pushing : PsObj → PsCore → Made
pushing x c = if nat_lt (length c.operands) 100000 then Ok (with_operands c (x ∷ c.operands)) else Err StackOverflow

-- an item on top of the execution stack, of which there are at most 1,000
abbrev pub scheduling : Item → PsCore → Made
scheduling item c = if nat_lt (length c.execution) 1000 then Ok (with_execution c (item ∷ c.execution)) else Err ExecStackOverflow

-- a procedure is entered; an empty one has nothing to do
abbrev pub calling : ArrayId → PsCore → Made
calling a c = if nat_lt 0 (length (elements_of c.store a)) then scheduling (Procedure a 0) c else Ok c
