-- Operators on dictionaries and on their stack.
use Rattle.std.specs.Prelude.{nat_lt, nat_le, is_some, if◌then◌else◌, Option, Some, None, Result, Ok, Err, List, ◌∷◌, length, drop, true, false}
use Rattle.ps_store.specs.declared.object.PsObj.TheVariants.{Bool as Truth, Dict}
use Rattle.ps_store.specs.Store.{making_dict}
use Rattle.ps_step.specs.declared.fault.PsError.TheVariants.{StackOverflow, DictStackUnderflow, DictStackOverflow}
use Rattle.ps_step.specs.declared.machine.PsCore.{PsCore}
use Rattle.ps_step.specs.Results.{◌>>=◌, stored}
use Rattle.ps_step.specs.Keys.{current, holder_of, key_of, meant_by, put_under, under, value_under}
use Rattle.ps_step.specs.Operands.{one_of, pair_of}
use Rattle.ps_step.specs.State.{Made, with_operands}
use Rattle.ps_step.specs.Values.{count_of, dict_of}

-- `dict`: an empty dictionary
abbrev pub making_dict_of : PsCore → Made
making_dict_of c = do
  size ← one_of c.operands
  n ← count_of size
  given ← stored (making_dict c.store)
  Ok (record c { store = given.1; operands = Dict given.0 ∷ drop 1 c.operands })

-- `begin`: at most 64 dictionaries are on the stack
abbrev pub beginning : PsCore → Made
beginning c = do
  x ← one_of c.operands
  d ← dict_of x
  if nat_lt (length c.dictionaries) 64
      then Ok (record c { dictionaries = d ∷ c.dictionaries; operands = drop 1 c.operands })
      else Err DictStackOverflow

-- `end`: a base dictionary is never taken
abbrev pub ending : PsCore → Made
ending c =
    if nat_le (length c.dictionaries) (length c.store.base) then Err DictStackUnderflow
    else Ok (record c { dictionaries = drop 1 c.dictionaries })

-- `def`
abbrev pub defining : PsCore → Made
defining c = do
  p ← pair_of c.operands
  d ← current c.dictionaries
  s ← put_under c.store d p.0 p.1
  Ok (record c { store = s; operands = drop 2 c.operands })

-- `load`
abbrev pub loading : PsCore → Made
loading c = do
  place ← one_of c.operands
  found ← meant_by c.store c.dictionaries place
  x ← under found
  Ok (with_operands c (x ∷ drop 1 c.operands))

-- `known`
abbrev pub knowing : PsCore → Made
knowing c = do
  p ← pair_of c.operands
  d ← dict_of p.0
  found ← value_under c.store d p.1
  Ok (with_operands c (Truth (is_some found) ∷ drop 2 c.operands))

-- `where`: the topmost dictionary that has the key, and true; or false
abbrev pub finding : PsCore → Made
finding c = do
  place ← one_of c.operands
  key ← key_of c.store place
  elim (holder_of c.store c.dictionaries key) [
    | Some d ↦ if nat_lt (length c.operands) 100000 then Ok (with_operands c (Truth true ∷ Dict d ∷ drop 1 c.operands)) else Err StackOverflow
    | None ↦ Ok (with_operands c (Truth false ∷ drop 1 c.operands))
  ]
