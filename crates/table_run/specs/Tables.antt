-- What the text of a table comes to, which is run behind the prelude and where there is no target.
use Rattle.std.specs.Prelude.{◌≡◌, ℕ, true, nat_eq, ◌&&◌, if◌then◌else◌, List, length, slice_get, Option, Some, None, Result, Ok, Err}
use Rattle.ps_store.specs.declared.object.DictId.{DictId}
use Rattle.ps_store.specs.declared.object.StringId.{StringId}
use Rattle.ps_store.specs.declared.object.PsObj.{PsObj}
use Rattle.ps_store.specs.declared.object.PsObj.TheVariants.{Str, Dict}
use Rattle.ps_store.specs.Cut.{mark_of}
use Rattle.ps_store.specs.StoreState.{StoreState}
use Rattle.ps_store.specs.Store.{Given, making_string}
use Rattle.ps_step.specs.declared.fault.PsFault.{PsFault}
use Rattle.ps_step.specs.declared.fault.PsFault.TheVariants as ps
use Rattle.ps_step.specs.declared.machine.PsCore.{PsCore}
use Rattle.ps_step.specs.Results.{fault_of}
use Rattle.ps_run.specs.Runs.{Answer, RunsObject}
use Rattle.ps_print.specs.Loaded.{loaded}
use Rattle.dialect_model.specs.Dial.{Dial}
use Rattle.dialect_model.specs.Forcing.{NoTarget}
use Rattle.ps_bare.specs.Bare.{bare}
use Rattle.table_run.specs.declared.run.TableFault.{TableFault}
use Rattle.table_run.specs.declared.run.TableFault.TheVariants.{Raised, Spent, Shape, NoMemory}
use Rattle.table_run.specs.declared.run.TheConstants.{MOST_STEPS}
use Rattle.table_run.specs.Shape.{is_table}

-- ---- its run

-- an executable string was run from a state to this end
pub record RunsString (start : PsCore) (made : StringId × StoreState) (answer : Answer) (c : PsCore) : Type 0 where
  pub left : ℕ
  pub dial : Dial
  pub runs : RunsObject NoTarget MOST_STEPS (Str made.0 true) (bare 0) (record start { store = made.1 }) answer left dial c

-- a text for which the store has no room isn't run
abbrev pub runs_made : PsCore → Given StringId → Answer → PsCore → Type 0
runs_made start (Ok made) answer c = RunsString start made answer c
runs_made start (Err fault) answer c = answer ≡ Err (fault_of fault)

abbrev pub RunsText : PsCore → List ℕ → Answer → PsCore → Type 0
RunsText start text answer c = runs_made start (making_string start.store text) answer c

-- a text was run behind the prelude
pub record RunsBehind (text : List ℕ) (answer : Answer) (c : PsCore) : Type 0 where
  pub start : PsCore
  pub is_loaded : start ≡ loaded
  pub runs : RunsText start text answer c

-- why there is no table, by what ended its run: no link is asked
abbrev pub why : PsFault → TableFault
why (ps.Error e) = Raised e
why ps.Spent = Spent
why ps.Link = NoMemory
why ps.NoMemory = NoMemory

-- ---- what it leaves

abbrev pub dict_of : Option PsObj → Option DictId
dict_of (Some (Dict d)) = Some d
dict_of o = None

-- one dictionary and nothing else
abbrev pub left_by : PsCore → Option DictId
left_by c = if nat_eq (length c.operands) 1 && nat_eq (length c.dictionaries) (length c.store.base) then dict_of (slice_get c.operands 0) else None

-- the store with all that was made closed, and this top
abbrev pub closed_with : PsCore → DictId → StoreState
closed_with c top = record c.store { closed = mark_of c.store.table; top = Some top }

abbrev pub table_with : (target : ℕ) → PsCore → Option DictId → Result StoreState TableFault
table_with target c None = Err Shape
table_with target c (Some top) = if is_table (closed_with c top) target top then Ok (closed_with c top) else Err Shape

abbrev pub table_in : (target : ℕ) → PsCore → Result StoreState TableFault
table_in target c = table_with target c (left_by c)

-- ---- all of it

-- The store that a table for a target leaves, or why there is none: an error that it doesn't catch, its steps, or its shape.
abbrev pub IsTableOf : (text : List ℕ) → (target : ℕ) → Result StoreState TableFault → Type 0
IsTableOf text target (Ok s) = (c : PsCore) × RunsBehind text (Ok tt) c × (table_in target c ≡ Ok s)
IsTableOf text target (Err Shape) = (c : PsCore) × RunsBehind text (Ok tt) c × (table_in target c ≡ Err Shape)
IsTableOf text target (Err (Raised e)) = (c : PsCore) × RunsBehind text (Err (ps.Error e)) c
IsTableOf text target (Err Spent) = (c : PsCore) × RunsBehind text (Err ps.Spent) c
IsTableOf text target (Err NoMemory) = Unit {0}
