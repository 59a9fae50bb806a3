-- The dialect where there is no target, and the executable strings of a table that are run under it.
use Rattle.std.specs.Prelude.{◌≡◌, ◌≢◌, ℕ, [], ◌∷◌, slice_get, codes, Result, Ok, Err}
use Rattle.ps_store.specs.declared.object.PsObj.{PsObj}
use Rattle.ps_store.specs.declared.object.DictId.{DictId}
use Rattle.ps_store.specs.declared.key.Key.{Key}
use Rattle.ps_store.specs.declared.key.Key.TheVariants.{Name as NameKey}
use Rattle.ps_store.specs.StoreState.{StoreState}
use Rattle.ps_step.specs.declared.fault.PsError.{PsError}
use Rattle.ps_step.specs.declared.fault.PsFault.{PsFault}
use Rattle.ps_step.specs.declared.fault.PsFault.TheVariants.{Error, NoMemory}
use Rattle.ps_step.specs.declared.item.Item.TheVariants.{Object}
use Rattle.ps_step.specs.declared.machine.PsCore.{PsCore}
use Rattle.ps_step.specs.State.{with_execution}
use Rattle.ps_step.specs.Results.{◌>>=◌}
use Rattle.ps_run.specs.Runs.{Answer}
use Rattle.ps_force.specs.Forcing.{Forces, apart}
use Rattle.table_model.specs.Reading.{Walked, dict_in, entry, or_missing}
use Rattle.table_model.specs.Rows.{units_of}
use Rattle.dialect_model.specs.Dial.{Dial, no_target, Raises}
use Rattle.dialect_model.specs.Operators.{act}

-- No object is looked for where there is no target, so no unit is needed.
pub data NoTarget : Dial → PsCore → ℕ → ℕ → Answer → Dial → PsCore → ℕ → Type 0 where
  acted : (d d' : Dial) (c c' : PsCore) (op left : ℕ) → act op d c ≡ Ok (d', c') → NoTarget d c op left (Ok tt) d' c' left
  raised : (d : Dial) (c : PsCore) (op left : ℕ) (e : PsError) → act op d c ≡ Err (Raises e) → NoTarget d c op left (Err (Error e)) d c left
  wanting : (d : Dial) (c : PsCore) (op left : ℕ) → NoTarget d c op left (Err NoMemory) d c left

-- the interpreter's state over a store, with nothing on its stacks
abbrev pub idle : StoreState → PsCore
idle s = record { store = s; operands = []; dictionaries = []; execution = [] }

-- an object is run on empty stacks, with the dictionaries that stood when the table began
abbrev pub forcing : StoreState → PsObj → PsCore
forcing s x = with_execution (apart (idle s)) (Object x ∷ [])

-- ---- the functions of a unit

abbrev pub FUNCTIONS : Key
FUNCTIONS = NameKey (codes "functions")

-- the dictionary of a unit, and its executable string
abbrev pub deferred_in : StoreState → PsObj → Walked (DictId × PsObj)
deferred_in s x = dict_in x >>= λ d. entry s d (codes "functions") >>= λ text. Ok (d, text)

abbrev pub deferred : StoreState → (unit : ℕ) → Walked (DictId × PsObj)
deferred s u = units_of s >>= λ us. or_missing (slice_get us u) >>= deferred_in s

-- that a value was given
abbrev pub answer_of : Result PsObj PsFault → Answer
answer_of (Ok x) = Ok tt
answer_of (Err f) = Err f

-- The functions of the unit with a number are run, with so many steps left, by a dial of their own: what they leave takes the place
-- of the executable string. A run that failed leaves the entry, and what it made is dropped. Want of memory is none of its answers.
pub record ForcesUnit (u : ℕ) (c : PsCore) (left : ℕ) (answer : Answer) (left' : ℕ) (c' : PsCore) : Type 0 where
  pub unit : DictId
  pub text : PsObj
  pub stands : deferred c.store u ≡ Ok (unit, text)
  pub given : Result PsObj PsFault
  pub dial : Dial
  pub forces : Forces NoTarget left no_target c unit FUNCTIONS text given left' dial c'
  pub answers : answer ≡ answer_of given
  pub found_memory : answer ≢ Err NoMemory
