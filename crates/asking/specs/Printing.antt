-- `print`: the printer of a symbol's type runs on the place that the symbol's procedure leaves.
use Rattle.std.specs.Prelude.{◌≡◌, ℕ, zero, suc, Bool, true, false, List, [], ◌++◌, codes, Option, Some, None, Result, Ok, Err}
use Rattle.machine_state.specs.Regions.{Regions}
use Rattle.ps_store.specs.declared.object.Part.TheVariants.{Command}
use Rattle.ps_store.specs.declared.object.DictId.{DictId}
use Rattle.ps_store.specs.declared.object.PsObj.{PsObj}
use Rattle.ps_store.specs.declared.object.PsObj.TheVariants.{Dict}
use Rattle.ps_store.specs.StoreState.{StoreState}
use Rattle.ps_step.specs.declared.item.Item.{Item}
use Rattle.ps_step.specs.State.{pushing, with_execution}
use Rattle.ps_step.specs.Results as results
use Rattle.frame_bytes.specs.declared.frame.Frame.{Frame}
use Rattle.abs_mem.specs.Meaning.{Seen}
use Rattle.abs_mem.specs.declared.memory.MemFault.TheVariants.{BadReply}
use Rattle.table_model.specs.declared.lack.Lack.{Lack}
use Rattle.table_model.specs.declared.lack.Lack.TheVariants.{TooDeep}
use Rattle.table_model.specs.Reading.{Walked, entry, dict_at}
use Rattle.table_model.specs.Frames.{frame_at}
use Rattle.table_model.specs.Symbols.{scope_of, symbol_named, is_function}
use Rattle.table_model.specs.Types.{is_within}
use Rattle.dialect_model.specs.Dial.{Dial, Target, InFrame, memory_bytes}
use Rattle.dialect_model.specs.TableUse.{TableUse, use_of, Trouble, Kind, Eval, Looks, gives, refuses, ◌>>=◌}
use Rattle.dialect_model.specs.TableUse.{Refused as RefusedFor, Spent as StepsSpent}
use Rattle.dialect_model.specs.Running.{Run, or_error, beginning, running, procedure}
use Rattle.c_reading.specs.Readings.{is_identifier}
use Rattle.ps_ops.specs.Desk.{dial_of, target_of}
use Rattle.ps_ops.specs.declared.dialect.Operators.{Operators}
use Rattle.told_runs.specs.Told.{desk, target, Tells}
use Rattle.table_asks.specs.declared.fault.Cause.{Cause}
use Rattle.table_asks.specs.declared.fault.Cause.TheVariants.{BadSyntax, NoScope, BadType}
use Rattle.table_asks.specs.declared.fault.AskFault.{AskFault}
use Rattle.table_asks.specs.declared.fault.AskFault.TheVariants.{Refused, Raised, Spent, NoMemory, Broken}
use Rattle.table_asks.specs.declared.inquiry.Inquiry.{Inquiry}
use Rattle.table_asks.specs.Asking.{left_of}
use Rattle.asking.specs.Lines.{line}
use Rattle.asking.specs.Frames.{or_no_frame}

abbrev pub or_no_scope : {A : Type 0} → Option A → Eval Cause A
or_no_scope None = refuses NoScope
or_no_scope (Some x) = gives x

-- a function's name is of no object
abbrev pub of_object : (is_function : Bool) → Eval Cause (Unit {0})
of_object true = refuses BadType
of_object false = gives tt

abbrev pub one_name : (is_name : Bool) → Eval Cause (Unit {0})
one_name true = gives tt
one_name false = refuses BadSyntax

-- ---- the type

-- What walking the parts of a type found, where it may be given up: with nothing left nothing is said of the type.
abbrev pub FoundWithin : Result ℕ Lack → Walked (Unit {0}) → Type 0
FoundWithin (Ok zero) within = Unit {0}
FoundWithin (Ok (suc left)) within = within ≡ Ok tt
FoundWithin (Err lack) within = within ≡ Err lack

-- A type that is too deep isn't printed. What else a type lacks is met by its printer, where that asks for it.
abbrev pub unless_too_deep : DictId → Walked (Unit {0}) → Walked DictId
unless_too_deep t (Err TooDeep) = Err TooDeep
unless_too_deep t other = Ok t

unfoldable pub printed_type : StoreState → DictId → Walked DictId
printed_type s t = unless_too_deep t (is_within s 64 t)

abbrev pub type_of : DictId → Eval Cause DictId
type_of x = Looks (λ s. results.◌>>=◌ (dict_at s x (codes "type")) (printed_type s))

-- the type of the variable that a symbol is
abbrev pub variable_type : (symbol : DictId) → Eval Cause DictId
variable_type x = do
  function ← Looks (λ s. is_function s x)
  v ← of_object function
  type_of x

-- ---- the text

abbrev pub procedure_of : StoreState → (symbol : DictId) → Walked PsObj
procedure_of s x = results.◌>>=◌ (entry s x (codes "where")) procedure

-- a symbol's procedure runs, in the command's own dictionary
abbrev pub placed : (symbol : DictId) → Dial → Eval Cause Run
placed x d = do
  where_is ← Looks (λ s. procedure_of s x)
  c ← beginning
  running where_is d c

-- a type's printer runs on the place that is left
abbrev pub shown : (type : DictId) → Run → Eval Cause Run
shown type run = do
  pushed ← or_error (pushing (Dict type) run.core)
  printer ← Looks (λ s. entry s type (codes "printer"))
  running printer run.dial pushed

abbrev pub printed : (symbol : DictId) → Dial → Eval Cause (List ℕ)
printed x d = do
  type ← variable_type x
  place ← placed x d
  done ← shown type place
  gives (line (codes "value " ++ done.dial.out))

-- what stands beside the interpreter in a frame that was found: its operators may not store to the target
abbrev pub dial_in : Target → Frame → (scope : Option DictId) → Dial
dial_in t f scope = record { target = Some t; standing = InFrame f scope; cell = 0; out = []; raw = false }

abbrev pub printed_in : (number : ℕ) → Frame → List ℕ → Target → Eval Cause (List ℕ)
printed_in n f name t = do
  u ← one_name (is_identifier name)
  scope ← Looks (λ s. scope_of s n f)
  found ← Looks (λ s. symbol_named s scope name)
  x ← or_no_scope found
  printed x (dial_in t f scope)

-- the line of the variable of a name in the frame with a number
abbrev pub printing : (number : ℕ) → List ℕ → Target → Eval Cause (List ℕ)
printing n name t = do
  told ← Looks (λ s. frame_at t.row s (memory_bytes t) t.context n)
  f ← or_no_frame told
  printed_in n f name t

-- ---- over a memory

-- a part of a command came to an end; so the table and the steps stand after it
pub record Ends {A : Type 0} (m : Eval Cause A) (before : TableUse) (r : Result A (Trouble Cause)) (new : Inquiry) : Type 0 where
  pub use_after : TableUse
  pub comes : m before r use_after
  pub store : use_after.store ≡ new.core.store
  pub left : use_after.left ≡ left_of new

-- the target's bytes that were told are told still
abbrev pub TellsStill : {R : Type 0} → (Regions → Target) → (old new : Seen R) → Type 0
TellsStill {R = R} at s s' = (regions : Regions) (rest : R) → s.tells (memory_bytes (at regions)) rest → s'.tells (memory_bytes (at regions)) rest

module _ {R A : Type 0} (m : Regions → Eval Cause A) (at : Regions → Target) (before : TableUse) (s : Seen R) where
  abbrev pub EndsOnTold : Result A (Trouble Cause) → Inquiry → Seen R → Type 0
  EndsOnTold r new s' = (regions : Regions) (rest : R) → s.tells (memory_bytes (at regions)) rest → s'.tells (memory_bytes (at regions)) rest × Ends (m regions) before r new

  -- Over the bytes that are told the part comes to this from here on, and they are told after it, also where memory ran out. A bad reply came only where no bytes were told.
  abbrev pub EndsFrom : Result A AskFault → Inquiry → Seen R → Type 0
  EndsFrom (Ok x) new s' = EndsOnTold (Ok x) new s'
  EndsFrom (Err (Refused cause)) new s' = EndsOnTold (Err (RefusedFor cause)) new s'
  EndsFrom (Err (Raised e)) new s' = EndsOnTold (Err (Kind e)) new s'
  EndsFrom (Err Spent) new s' = EndsOnTold (Err StepsSpent) new s'
  EndsFrom (Err NoMemory) new s' = TellsStill at s s'
  EndsFrom (Err (Broken (BadReply frame))) new s' = (regions : Regions) (rest : R) → s.tells (memory_bytes (at regions)) rest → ⊥
  EndsFrom (Err (Broken f)) new s' = Unit {0}

-- A command that runs PostScript and stores nothing to the target, where what it makes is its own: over the bytes that are told it comes to this, and they are told after it.
-- Where memory ran out they are told too. Where the link failed nothing is said; a bad reply came only where no bytes were told.
abbrev pub EndsOver : {R A : Type 0} → (Target → Eval Cause A) → (Regions → Target) → (old : Inquiry) → Seen R → Result A AskFault → Inquiry → Seen R → Type 0
EndsOver m at old s r new s' = old.core.store.part ≡ Command → EndsFrom (λ regions. m (at regions)) at (use_of old.core.store (left_of old)) s r new s'

-- ---- its two runs. No public contract cites what follows.

module _ {W : Type 0} (o : Operators W) where
  -- the target of the operators, by what it has in its memory
  abbrev pub target_with : Regions → Target
  target_with regions = target_of o.view o.memory.below.below.order regions

  -- a use of the table where the interpreter, the steps and the cell stand so
  abbrev pub used_at : Inquiry → (own : Option DictId) → TableUse
  used_at i own = record { store = i.core.store; left = left_of i; cell = o.memory.below.cell; own = own }

  -- what has run
  abbrev pub run_at : Inquiry → List Item → Regions → Run
  run_at i execution regions = record { dial = dial_of (desk o) regions; core = with_execution i.core execution }

-- A run was done over these bytes, which are told after it.
pub record Ran {W R : Type 0} (seen : W → Seen R) (m : Eval Cause Run) (before : TableUse) (t : Target) (rest : R) (i' : Inquiry) (o' : Operators W) : Type 0 where
  pub regions' : Regions
  pub execution : List Item
  pub own : Option DictId
  pub comes : m before (Ok (run_at o' i' execution regions')) (used_at o' i' own)
  pub same : target_with o' regions' ≡ t
  pub raw : o'.view.raw ≡ false
  pub tells : Tells seen o' regions' rest

module _ {W R : Type 0} (seen : W → Seen R) (m : Regions → Eval Cause Run) (before : TableUse) where
  abbrev pub RanFrom : Operators W → Result (Unit {0}) AskFault → Inquiry → Operators W → Type 0
  RanFrom o (Ok x) i' o' = (regions : Regions) (rest : R) → Tells seen o regions rest → Ran seen (m regions) before (target_with o regions) rest i' o'
  RanFrom o (Err f) i' o' = EndsFrom m (target_with o) before (target seen o) (Err f) i' (target seen o')

module _ {W R : Type 0} (seen : W → Seen R) where
  abbrev pub PlacedOver : (symbol : DictId) → Frame → (scope : Option DictId) → Inquiry → Operators W → Result (Unit {0}) AskFault → Inquiry → Operators W → Type 0
  PlacedOver x f scope i o r i' o' =
      i.core.store.part ≡ Command → RanFrom seen (λ regions. placed x (dial_in (target_with o regions) f scope)) (use_of i.core.store (left_of i)) o r i' o'

  abbrev pub ShownOver : (type : DictId) → Inquiry → Operators W → Result (Unit {0}) AskFault → Inquiry → Operators W → Type 0
  ShownOver type i o r i' o' =
      o.view.raw ≡ false → (own : Option DictId) (execution : List Item) → RanFrom seen (λ regions. shown type (run_at o i execution regions)) (used_at o i own) o r i' o'
