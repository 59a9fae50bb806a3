-- Operators on strings, names and attributes.
use Rattle.std.specs.Prelude.{Bool, false, Result, Ok, Err, List, ◌∷◌, drop}
use Rattle.ps_store.specs.declared.object.PsObj.TheVariants.{Name, Str}
use Rattle.ps_store.specs.Store.{bytes_of, making_zeros, making_name}
use Rattle.ps_store.specs.Object.{with_attribute}
use Rattle.ps_step.specs.declared.machine.PsCore.{PsCore}
use Rattle.ps_step.specs.Results.{◌>>=◌, stored}
use Rattle.ps_step.specs.Operands.{one_of}
use Rattle.ps_step.specs.State.{Made, with_operands}
use Rattle.ps_step.specs.Values.{count_of, string_of}

-- `string`: a string of zeros
abbrev pub making_string_of : PsCore → Made
making_string_of c = do
  size ← one_of c.operands
  n ← count_of size
  given ← stored (making_zeros c.store n)
  Ok (record c { store = given.1; operands = Str given.0 false ∷ drop 1 c.operands })

-- `cvn`: a name of the characters of a string, executable where the string is
abbrev pub naming_of : PsCore → Made
naming_of c = do
  whole ← one_of c.operands
  t ← string_of whole
  given ← stored (making_name c.store (bytes_of c.store t.0))
  Ok (record c { store = given.1; operands = Name given.0 t.1 ∷ drop 1 c.operands })

-- `cvx`, `cvlit`
abbrev pub converting : Bool → PsCore → Made
converting executable c = one_of c.operands >>= λ x. Ok (with_operands c (with_attribute x executable ∷ drop 1 c.operands))
