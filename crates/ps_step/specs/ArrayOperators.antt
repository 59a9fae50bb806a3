-- Operators on arrays.
use Rattle.std.specs.Prelude.{ℕ, ◌+◌, nat_lt, if◌then◌else◌, Option, Some, None, Result, Ok, Err, List, ◌∷◌, ◌++◌, length, drop, take, reverse, false}
use Rattle.ps_store.specs.declared.object.PsObj.TheVariants.{Array}
use Rattle.ps_store.specs.Store.{elements_of, making_array, making_nulls, writing_elements}
use Rattle.ps_step.specs.declared.fault.PsError.TheVariants.{StackUnderflow, StackOverflow, UnmatchedMark}
use Rattle.ps_step.specs.declared.machine.PsCore.{PsCore}
use Rattle.ps_step.specs.Results.{◌>>=◌, stored, opened}
use Rattle.ps_step.specs.Marks.{mark_from}
use Rattle.ps_step.specs.Operands.{one_of}
use Rattle.ps_step.specs.State.{Made, with_operands}
use Rattle.ps_step.specs.Values.{array_of, count_of}

-- `]`: an array of the objects above the topmost mark
abbrev pub closing_array : PsCore → Made
closing_array c = elim (mark_from 0 c.operands) [
  | Some n ↦ stored (making_array c.store (reverse (take n c.operands))) >>= λ given.
      Ok (record c { store = given.1; operands = Array given.0 false ∷ drop (n + 1) c.operands })
  | None ↦ Err UnmatchedMark
]

-- `array`: an array of nulls
abbrev pub making_nulls_of : PsCore → Made
making_nulls_of c = do
  size ← one_of c.operands
  n ← count_of size
  given ← stored (making_nulls c.store n)
  Ok (record c { store = given.1; operands = Array given.0 false ∷ drop 1 c.operands })

-- `aload`: the elements of an array, and the array on top
abbrev pub loading_all : PsCore → Made
loading_all c = do
  whole ← one_of c.operands
  a ← array_of whole
  if nat_lt 100000 (length c.operands + length (elements_of c.store a)) then Err StackOverflow
      else Ok (with_operands c (whole ∷ (reverse (elements_of c.store a) ++ drop 1 c.operands)))

-- `astore`: as many objects as an array has elements are put into it
abbrev pub storing_all : PsCore → Made
storing_all c = do
  whole ← one_of c.operands
  a ← array_of whole
  if nat_lt (length (elements_of c.store a)) (length c.operands)
      then (opened (writing_elements c.store a 0 (reverse (take (length (elements_of c.store a)) (drop 1 c.operands)))) >>= λ s.
      Ok (record c { store = s; operands = whole ∷ drop (length (elements_of c.store a) + 1) c.operands }))
      else Err StackUnderflow
