-- Units of a table in which functions are still to be run.
use Rattle.std.specs.Prelude.{◌≡◌, ℕ, true, slice_get, codes, Result, Ok, Err}
use Rattle.ps_store.specs.declared.object.PsObj.{PsObj}
use Rattle.ps_store.specs.declared.object.PsObj.TheVariants.{Str}
use Rattle.ps_store.specs.declared.object.DictId.{DictId}
use Rattle.ps_store.specs.declared.object.StringId.{StringId}
use Rattle.ps_store.specs.StoreState.{StoreState}
use Rattle.ps_step.specs.declared.fault.PsError.{PsError}
use Rattle.ps_step.specs.declared.fault.PsError.TheVariants.{TypeCheck}
use Rattle.ps_step.specs.Results.{◌>>=◌}
use Rattle.ps_places.specs.Lacks.{looked}
use Rattle.table_model.specs.Reading.{Walked, dict_in, entry, or_missing}
use Rattle.table_model.specs.Rows.{units_of}
use Rattle.dialect_model.specs.Forcing.{deferred}

-- the dictionary of a unit
abbrev pub unit_of : StoreState → (unit : ℕ) → Walked DictId
unit_of s u = units_of s >>= λ us. or_missing (slice_get us u) >>= dict_in

-- the same, where its functions are an executable string; else an error
abbrev pub if_text : DictId → PsObj → Result DictId PsError
if_text d (Str t true) = Ok d
if_text d x = Err TypeCheck

abbrev pub deferred_unit : StoreState → (unit : ℕ) → Result DictId PsError
deferred_unit s u = looked (unit_of s u) >>= λ d. looked (entry s d (codes "functions")) >>= if_text d

-- the functions of a unit are an executable string
pub record IsDeferred (s : StoreState) (u : ℕ) : Type 0 where
  pub unit : DictId
  pub text : StringId
  pub stands : deferred s u ≡ Ok (unit, Str text true)
