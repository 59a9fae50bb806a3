-- `print`: the printer of a symbol's type runs on the place that the symbol's procedure leaves.
use Rattle.std.specs.Prelude.{ℕ, Bool, true, false, List, [], ◌∷◌, ◌++◌, codes, Option, Some, None, Result, Ok, Err}
use Rattle.ps_store.specs.declared.object.DictId.{DictId}
use Rattle.ps_store.specs.declared.object.PsObj.TheVariants.{Dict}
use Rattle.ps_step.specs.State.{pushing}
use Rattle.ps_step.specs.Results as results
use Rattle.frame_bytes.specs.declared.frame.Frame.{Frame}
use Rattle.table_model.specs.Reading.{Walked, entry, dict_at}
use Rattle.table_model.specs.Symbols.{scope_of, symbol_named, is_function}
use Rattle.table_model.specs.Types.{is_within}
use Rattle.table_model.specs.declared.lack.Lack.{Lack}
use Rattle.table_model.specs.declared.lack.Lack.TheVariants.{TooDeep}
use Rattle.ps_store.specs.StoreState.{StoreState}
use Rattle.dialect_model.specs.Dial.{InFrame}
use Rattle.dialect_model.specs.TableUse.{Looks, gives, refuses, ◌>>=◌}
use Rattle.dialect_model.specs.Running.{or_error, beginning, running, procedure}
use Rattle.c_session.specs.Commands.{BadText}
use Rattle.c_reading.specs.Readings.{NoScope, BadType, BadSyntax, is_identifier}
use Rattle.claims.specs.Side.{SideState, Change, OnSide, dial_of}
use Rattle.claims.specs.Frames.{chosen}

abbrev pub or_no_scope : {A : Type 0} → Option A → OnSide A
or_no_scope None = refuses (BadText NoScope)
or_no_scope (Some x) = gives x

-- a function's name is of no object
abbrev pub of_object : (is_function : Bool) → OnSide (Unit {0})
of_object true = refuses (BadText BadType)
of_object false = gives tt

abbrev pub one_name : (is_name : Bool) → OnSide (Unit {0})
one_name true = gives tt
one_name false = refuses (BadText BadSyntax)

-- what is appended by a symbol's procedure and then by its type's printer
abbrev pub printed : SideState → Frame → (scope : Option DictId) → (symbol type : DictId) → OnSide (List ℕ)
printed a f scope x type = do
  where_is ← Looks (λ s. results.◌>>=◌ (entry s x (codes "where")) procedure)
  c ← beginning
  placed ← running where_is (dial_of a (InFrame f scope) false) c
  pushed ← or_error (pushing (Dict type) placed.core)
  printer ← Looks (λ s. entry s type (codes "printer"))
  done ← running printer placed.dial pushed
  gives done.dial.out

-- A type that is too deep isn't printed. What else a type lacks is met by its printer, where that asks for it.
abbrev unless_too_deep : DictId → Result (Unit {0}) Lack → Walked DictId
unless_too_deep t (Err TooDeep) = Err TooDeep
unless_too_deep t other = Ok t

abbrev pub printed_type : StoreState → DictId → Walked DictId
printed_type s t = unless_too_deep t (is_within s 64 t)

abbrev pub printing : SideState → List ℕ → OnSide Change
printing a name = do
  f ← chosen a
  u ← one_name (is_identifier name)
  scope ← Looks (λ s. scope_of s a.frame f)
  found ← Looks (λ s. symbol_named s scope name)
  x ← or_no_scope found
  function ← Looks (λ s. is_function s x)
  v ← of_object function
  type ← Looks (λ s. results.◌>>=◌ (dict_at s x (codes "type")) (printed_type s))
  text ← printed a f scope x type
  gives (record { lines = (codes "value " ++ text) ∷ []; side = a })
