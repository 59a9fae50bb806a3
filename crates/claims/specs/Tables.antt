-- Images and tables: what they are loaded and run to.
use Rattle.std.specs.Prelude.{◌≡◌, ℕ, pos, Bool, true, false, nat_eq, List, [], ◌∷◌, length, bytes_eq, codes, ◌&&◌, Option, Some, None, Result, Ok, Err}
use Rattle.std.specs.Ordering.{int_eq}
use Rattle.ps_store.specs.declared.object.PsObj.{PsObj}
use Rattle.ps_store.specs.declared.object.PsObj.TheVariants.{Int, Str, Array, Dict}
use Rattle.ps_store.specs.declared.object.DictId.{DictId}
use Rattle.ps_store.specs.declared.object.StringId.{StringId}
use Rattle.ps_store.specs.declared.key.Key.TheVariants.{Name as NameKey}
use Rattle.ps_store.specs.StoreState.{StoreState}
use Rattle.ps_store.specs.Store.{entries_of, bytes_of, making_string}
use Rattle.ps_store.specs.Entries.{value_at}
use Rattle.ps_store.specs.Cut.{mark_of}
use Rattle.ps_step.specs.declared.fault.PsFault.{PsFault}
use Rattle.ps_step.specs.declared.fault.PsFault.TheVariants.{Error}
use Rattle.ps_step.specs.declared.fault.PsError.TheVariants.{LimitCheck}
use Rattle.ps_step.specs.declared.machine.PsCore.{PsCore}
use Rattle.ps_run.specs.Runs.{Answer, Runs}
use Rattle.dialect_model.specs.Dial.{Dial, no_target}
use Rattle.dialect_model.specs.Forcing.{NoTarget, forcing}
use Rattle.claims.specs.Side.{MOST_STEPS}
use Rattle.claims.specs.Lines.{target_text}

-- ---- the shape of a table

abbrev is_number : ℕ → Option PsObj → Bool
is_number n (Some (Int k)) = int_eq k (pos n)
is_number n o = false

abbrev is_text : StoreState → List ℕ → Option PsObj → Bool
is_text s text (Some (Str t x)) = bytes_eq (bytes_of s t) text
is_text s text o = false

abbrev is_dict : Option PsObj → Bool
is_dict (Some (Dict d)) = true
is_dict o = false

abbrev is_array : Option PsObj → Bool
is_array (Some (Array a x)) = true
is_array o = false

-- what is asked of a table before a session: the rest is checked when it is used
abbrev has_shape_at : StoreState → (target : ℕ) → DictId → Bool
has_shape_at s target d =
    let value = λ (name : List ℕ). value_at (entries_of s d) (NameKey name) in
    is_number 1 (value (codes "ldb")) && (is_text s (target_text target) (value (codes "target"))
    && (is_dict (value (codes "anchors")) && (is_dict (value (codes "structs")) && is_array (value (codes "units")))))

abbrev pub has_shape : StoreState → (target : ℕ) → Bool
has_shape s target = elim s.top [ None ↦ false | Some d ↦ has_shape_at s target d ]

-- ---- the run of a table

-- why a table has no store: an error of PostScript or spent steps; or it leaves something else than one dictionary of the shape
pub data TableFault : Type 0 where
  RunFault : (fault : PsFault) → TableFault
  Shape : TableFault

-- the store after a table has left a dictionary: all is closed
abbrev pub finished : StoreState → DictId → StoreState
finished s d = record s { top = Some d; closed = mark_of s.table }

abbrev shaped : StoreState → (has_shape : Bool) → Result StoreState TableFault
shaped s true = Ok s
shaped s false = Err Shape

-- one dictionary and nothing else, on either stack
abbrev left_by : (target : ℕ) → PsCore → List PsObj → Result StoreState TableFault
left_by target c (Dict d ∷ []) =
    let s = finished c.store d in
    shaped s (nat_eq (length c.dictionaries) (length s.base) && has_shape s target)
left_by target c xs = Err Shape

abbrev result_of : (target : ℕ) → Answer → PsCore → Result StoreState TableFault
result_of target (Ok u) c = left_by target c c.operands
result_of target (Err f) c = Err (RunFault f)

-- A table's text runs with no target, in the store that the prelude left and with the dictionaries that stand there.
pub data RunsTable (prelude : StoreState) (bytes : List ℕ) (target : ℕ) : Result StoreState TableFault → Type 0 where
  full : {f : _} → making_string prelude bytes ≡ Err f → RunsTable prelude bytes target (Err (RunFault (Error LimitCheck)))
  ran : {text : StringId} {filled : StoreState} {answer : Answer} {left : ℕ} {dial : Dial} {core : PsCore} → making_string prelude bytes ≡ Ok (text, filled)
      → Runs NoTarget MOST_STEPS no_target (forcing filled (Str text true)) answer left dial core → RunsTable prelude bytes target (result_of target answer core)
