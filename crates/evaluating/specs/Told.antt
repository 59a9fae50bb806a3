-- What parts of `eval`, `assign` and `code` leave of the memory of the target.
use Rattle.std.specs.Prelude.{◌≡◌, ℕ, Option, Some, None, Result, Ok, Err}
use Rattle.ldb_edge.specs.Count.{Rose}
use Rattle.ldb_words.specs.declared.kinds.Kind.{Kind}
use Rattle.ldb_words.specs.declared.kinds.Order.{Order}
use Rattle.machine_state.specs.Regions.{Regions}
use Rattle.frame_bytes.specs.declared.frame.Space.{Space}
use Rattle.frame_bytes.specs.Bytes.{Bytes, stored}
use Rattle.abs_mem.specs.Meaning.{Seen}
use Rattle.abs_mem.specs.declared.memory.MemFault.TheVariants.{Outside, LinkFault, BadReply}
use Rattle.ps_ops.specs.Acting.{KeepsMemory, NeverTold}
use Rattle.ps_ops.specs.Desk.{memory_of}
use Rattle.ps_ops.specs.declared.dialect.Operators.{Operators}
use Rattle.told_runs.specs.Told.{desk, target}
use Rattle.table_asks.specs.declared.fault.AskFault.{AskFault}
use Rattle.table_asks.specs.declared.fault.AskFault.TheVariants.{Refused, Raised, Spent, NoMemory, Broken}
use Rattle.ps_step.specs.declared.fault.PsError.TheVariants.{Overflow, Division, Shift, Pointer}
use Rattle.ldb_words.specs.declared.kinds.Undef.TheVariants as undef
use Rattle.table_asks.specs.declared.fault.Cause.TheVariants.{Undefined}

-- the dialect's four errors are undefined steps
abbrev pub reasoned : AskFault → AskFault
reasoned (Raised Overflow) = Refused (Undefined undef.Overflow)
reasoned (Raised Division) = Refused (Undefined undef.Division)
reasoned (Raised Shift) = Refused (Undefined undef.Shift)
reasoned (Raised Pointer) = Refused (Undefined undef.Pointer)
reasoned other = other

-- numbers were stored in leaves, one after another
pub data StoresLeaves (o : Order) (r : Regions) : Order → Regions → Type 0 where
  none_stored : StoresLeaves o r o r
  stores : (b b' : Bytes) (space : Space) (at : ℕ) (kind : Kind) (value : ℕ) → StoresLeaves o r b.order b.regions → stored b space at kind value ≡ Some b' → StoresLeaves o r b'.order b'.regions

module _ {W R : Type 0} (seen : W → Seen R) where
  -- no fault came, and the bytes that were told are told still
  abbrev pub Keeps : (old new : Operators W) → Type 0
  Keeps o o' = KeepsMemory (desk o) (target seen o) (desk o') (target seen o')

  -- no fault came, and the bytes that were told are told with what was stored in leaves
  pub record Changed (o o' : Operators W) : Type 0 where
    pub faults : (target seen o').faults ≡ (target seen o).faults
    pub after : (r : Regions) (rest : R) → (target seen o).tells (memory_of (desk o) r) rest
        → (r' : Regions) × StoresLeaves o.memory.below.below.order r o'.memory.below.below.order r' × (target seen o').tells (memory_of (desk o') r') rest

  -- Why a part has no result. A link that failed has counted it. A bad reply, which is no fault, came only where no bytes were told.
  abbrev pub Fails : Operators W → AskFault → Operators W → Type 0
  Fails o (Refused cause) o' = Keeps o o'
  Fails o (Raised e) o' = Keeps o o'
  Fails o Spent o' = Keeps o o'
  Fails o NoMemory o' = Keeps o o'
  Fails o (Broken LinkFault) o' = Rose (target seen o).faults (target seen o').faults
  Fails o (Broken (BadReply frame)) o' = NeverTold (desk o) (target seen o) (target seen o')
  Fails o (Broken (Outside p)) o' = ⊥

  -- Nothing is stored to the target, also by PostScript that is run, whose operators may not, and also where memory ran out.
  abbrev pub StoresNone : {A : Type 0} → Operators W → Result A AskFault → Operators W → Type 0
  StoresNone o (Ok x) o' = Keeps o o'
  StoresNone o (Err f) o' = Fails o f o'

  -- Numbers are stored in leaves, up to one that is outside.
  abbrev pub StoresAll : Operators W → Result (Unit {0}) AskFault → Operators W → Type 0
  StoresAll o (Ok x) o' = Changed o o'
  StoresAll o (Err (Raised e)) o' = Changed o o'
  StoresAll o (Err (Broken LinkFault)) o' = Rose (target seen o).faults (target seen o').faults
  StoresAll o (Err (Broken (BadReply frame))) o' = NeverTold (desk o) (target seen o) (target seen o')
  StoresAll o (Err f) o' = ⊥
