-- Control operators. They take their operands once the procedure is entered.
use Rattle.std.specs.Prelude.{ℕ, ℤ, ◌+◌, pos, Bool, nat_lt, int_le, if◌then◌else◌, Option, Some, None, Result, Ok, Err, List, ◌∷◌, length, drop}
use Rattle.ps_store.specs.declared.object.PsObj.{PsObj}
use Rattle.ps_store.specs.declared.object.PsObj.TheVariants.{Array, Str, Dict}
use Rattle.ps_store.specs.declared.object.ArrayId.{ArrayId}
use Rattle.ps_step.specs.declared.fault.PsError.{PsError}
use Rattle.ps_step.specs.declared.fault.PsError.TheVariants.{TypeCheck, ExecStackOverflow, InvalidExit}
use Rattle.ps_step.specs.declared.item.Item.{Item}
use Rattle.ps_step.specs.declared.item.Item.TheVariants.{Object, Repeat, For, ForArray, ForString, ForDict, Loop, Stopped}
use Rattle.ps_step.specs.declared.machine.PsCore.{PsCore}
use Rattle.ps_step.specs.Results.{◌>>=◌}
use Rattle.ps_step.specs.Arithmetic.{integer_of, truth_of}
use Rattle.ps_step.specs.Item.{loop_from}
use Rattle.ps_step.specs.Operands.{one_of, pair_of, triple_of, quadruple_of}
use Rattle.ps_step.specs.State.{Made, with_operands, with_execution, scheduling, calling}
use Rattle.ps_step.specs.Values.{count_of, length_of, procedure_of}

-- `if`, `ifelse`
abbrev pub choosing : PsCore → Made
choosing c = do
  p ← pair_of c.operands
  b ← truth_of p.0
  a ← procedure_of p.1
  c' ← if b then calling a c else Ok c
  Ok (with_operands c' (drop 2 c.operands))

abbrev pub choosing_one : PsCore → Made
choosing_one c = do
  p ← triple_of c.operands
  b ← truth_of p.0
  first ← procedure_of p.1
  second ← procedure_of p.2
  c' ← calling (if b then first else second) c
  Ok (with_operands c' (drop 3 c.operands))

-- whether `for` makes another turn
abbrev pub goes_on : ℤ → ℤ → ℤ → Bool
goes_on next by limit = if int_le (pos 0) by then int_le next limit else int_le limit next

-- `for`, `repeat`, `loop`
abbrev pub counting_up : PsCore → Made
counting_up c = do
  p ← quadruple_of c.operands
  next ← integer_of p.0
  by ← integer_of p.1
  limit ← integer_of p.2
  a ← procedure_of p.3
  c' ← if goes_on next by limit then scheduling (For next by limit a) c else Ok c
  Ok (with_operands c' (drop 4 c.operands))

abbrev pub repeating : PsCore → Made
repeating c = do
  p ← pair_of c.operands
  a ← procedure_of p.1
  n ← count_of p.0
  c' ← if nat_lt 0 n then scheduling (Repeat n a) c else Ok c
  Ok (with_operands c' (drop 2 c.operands))

abbrev pub looping : PsCore → Made
looping c = do
  body ← one_of c.operands
  a ← procedure_of body
  c' ← scheduling (Loop a) c
  Ok (with_operands c' (drop 1 c.operands))

-- `exit`: the innermost loop is left, with all above it
abbrev pub exiting : PsCore → Made
exiting c = elim (loop_from 0 c.execution) [ Some n ↦ Ok (with_execution c (drop (n + 1) c.execution)) | None ↦ Err InvalidExit ]

-- `forall` over an array, a string or a dictionary
abbrev pub cursor_of : PsObj → ArrayId → Result Item PsError
cursor_of (Array a x) body = Ok (ForArray a 0 body)
cursor_of (Str t x) body = Ok (ForString t 0 body)
cursor_of (Dict d) body = Ok (ForDict d 0 body)
cursor_of other body = Err TypeCheck

abbrev pub each_of : PsCore → Made
each_of c = do
  p ← pair_of c.operands
  a ← procedure_of p.1
  cursor ← cursor_of p.0 a
  n ← length_of c.store p.0
  c' ← if nat_lt 0 n then scheduling cursor c else Ok c
  Ok (with_operands c' (drop 2 c.operands))

-- `exec`, `stopped`
abbrev pub executing_top : PsCore → Made
executing_top c = do
  x ← one_of c.operands
  c' ← scheduling (Object x) c
  Ok (with_operands c' (drop 1 c.operands))

abbrev pub guarding : PsCore → Made
guarding c = do
  x ← one_of c.operands
  if nat_lt (length c.execution + 1) 1000
      then Ok (record c { execution = Object x ∷ Stopped ∷ c.execution; operands = drop 1 c.operands })
      else Err ExecStackOverflow
