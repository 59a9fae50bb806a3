-- Deferred entries: an executable string under a key of a dictionary is run at its first use.
use Rattle.std.specs.Prelude.{◌≡◌, ◌≢◌, ℕ, true, List, [], ◌∷◌, reverse, Option, Some, None, Result, Ok, Err}
use Rattle.ps_store.specs.declared.object.Part.{Part}
use Rattle.ps_store.specs.declared.object.Part.TheVariants.{Table}
use Rattle.ps_store.specs.declared.object.Mark.{Mark}
use Rattle.ps_store.specs.declared.object.PsObj.{PsObj}
use Rattle.ps_store.specs.declared.object.PsObj.TheVariants.{Str}
use Rattle.ps_store.specs.declared.object.DictId.{DictId}
use Rattle.ps_store.specs.declared.key.Key.{Key}
use Rattle.ps_store.specs.StoreState.{StoreState}
use Rattle.ps_store.specs.Store.{held, with_held, with_entries, entries_of}
use Rattle.ps_store.specs.Entries.{value_at, replaced}
use Rattle.ps_store.specs.Cut.{mark_of, cut}
use Rattle.ps_step.specs.declared.fault.PsError.TheVariants.{StackUnderflow, TypeCheck, Undefined}
use Rattle.ps_step.specs.declared.fault.PsFault.{PsFault}
use Rattle.ps_step.specs.declared.fault.PsFault.TheVariants.{Error, NoMemory}
use Rattle.ps_step.specs.declared.machine.PsCore.{PsCore}
use Rattle.ps_run.specs.Runs.{Answer, Operates, RunsObject}

-- what is given for an entry, and the store then
abbrev pub Forced : Type 0
Forced = Result PsObj PsFault × StoreState

-- what was made since a mark is dropped
abbrev pub dropping : Mark → PsFault → StoreState → Forced
dropping mark f s = (Err f, with_held s s.part (cut (held s s.part) mark))

-- what was made is closed
abbrev pub closing : PsObj → StoreState → Forced
closing x s = (Ok x, record s { closed = mark_of s.table })

-- A value takes the place of the executable string under the key. Where the run itself put another value there, that one stays.
abbrev pub placing : Mark → DictId → Key → PsObj → Option PsObj → StoreState → Forced
placing mark d key x (Some (Str t true)) s = closing x (with_entries s d (replaced (entries_of s d) key x))
placing mark d key x (Some y) s = closing y s
placing mark d key x None s = dropping mark (Error Undefined) s

-- what a run leaves: its topmost operand, which may not be an executable string
abbrev pub left_on : List PsObj → Result PsObj PsFault
left_on [] = Err (Error StackUnderflow)
left_on (Str t true ∷ rest) = Err (Error TypeCheck)
left_on (x ∷ rest) = Ok x

abbrev pub placing_left : Mark → DictId → Key → Result PsObj PsFault → StoreState → Forced
placing_left mark d key (Err f) s = dropping mark f s
placing_left mark d key (Ok x) s = placing mark d key x (value_at (entries_of s d) key) s

-- A run that failed leaves the entry as it was, and what it made is dropped.
abbrev pub forced_by : Mark → DictId → Key → Answer → List PsObj → StoreState → Forced
forced_by mark d key (Err f) operands s = dropping mark f s
forced_by mark d key (Ok u) operands s = placing_left mark d key (left_on operands) s

-- The state in which a deferred entry is run: no operands, the store's base dictionaries, and what is made belongs to the table.
abbrev pub apart : PsCore → PsCore
apart c = record c { store = record c.store { part = Table }; operands = []; dictionaries = reverse c.store.base }

abbrev pub with_part : Part → StoreState → StoreState
with_part part s = record s { part = part }

-- An executable string was run, with so many steps left, and its entry settled. The stacks and the part in which objects are
-- made are as before.
pub record Forces {D : Type 0} (Op : Operates D) (n : ℕ) (dialect : D) (c : PsCore) (d : DictId) (key : Key) (text : PsObj) (result : Result PsObj PsFault) (m : ℕ) (dialect' : D) (c' : PsCore) : Type 0 where
  pub answer : Answer
  pub core : PsCore
  pub runs : RunsObject Op n text dialect (apart c) answer m dialect' core
  pub given : (forced_by (mark_of c.store.table) d key answer core.operands core.store).0 ≡ result
  pub after : c' ≡ record c { store = with_part c.store.part (forced_by (mark_of c.store.table) d key answer core.operands core.store).1 }

-- A use of an entry by what is under its key. Only an executable string is run. Where memory runs out nothing is said.
abbrev pub Uses : {D : Type 0} → Operates D → ℕ → D → PsCore → DictId → Key → Option PsObj → Result PsObj PsFault → ℕ → D → PsCore → Type 0
Uses Op n dialect c d key None result m dialect' c' = (result ≡ Err (Error Undefined)) × (m ≡ n) × (dialect' ≡ dialect) × (c' ≡ c)
Uses Op n dialect c d key (Some (Str t true)) result m dialect' c' = result ≢ Err NoMemory → Forces Op n dialect c d key (Str t true) result m dialect' c'
Uses Op n dialect c d key (Some x) result m dialect' c' = (result ≡ Ok x) × (m ≡ n) × (dialect' ≡ dialect) × (c' ≡ c)
