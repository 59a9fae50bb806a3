-- What parts of commands come to that ask nothing of the table.
use Rattle.std.specs.Prelude.{◌≡◌, ℕ, Bool, List, [], Option, Some, None, Result, Ok, Err}
use Rattle.ldb_edge.specs.Count.{Rose}
use Rattle.ps_step.specs.declared.fault.PsError.TheVariants.{RangeCheck}
use Rattle.frame_bytes.specs.Bytes.{Bytes}
use Rattle.abs_mem.specs.Meaning.{Seen, Same, OnTold, Untold}
use Rattle.abs_mem.specs.declared.memory.MemFault.TheVariants.{Outside, LinkFault, BadReply}
use Rattle.table_model.specs.Rows.{PointRow}
use Rattle.dialect_model.specs.TableUse.{TableUse, Kind, Eval, gives, fails}
use Rattle.dialect_model.specs.TableUse.{Refused as RefusedFor}
use Rattle.ps_ops.specs.declared.view.Standing.{Standing}
use Rattle.ps_ops.specs.declared.dialect.Operators.{Operators}
use Rattle.table_asks.specs.declared.fault.Cause.{Cause}
use Rattle.table_asks.specs.declared.fault.AskFault.{AskFault}
use Rattle.table_asks.specs.declared.fault.AskFault.TheVariants.{Refused, Raised, Spent, NoMemory, Broken}
use Rattle.table_asks.specs.declared.inquiry.Inquiry.{Inquiry}
use Rattle.table_asks.specs.Asking.{Comes, ComesOver}

-- a byte that the target doesn't hold, and an address that is no multiple of 4, are out of range
abbrev pub or_range : {A : Type 0} → Option A → Eval Cause A
or_range None = fails (Kind RangeCheck)
or_range (Some x) = gives x

module _ {R : Type 0} (s : Seen R) where
  -- The memory of the target is asked alone, and stays as it is.
  abbrev pub Asks : {A : Type 0} → (Bytes → Option A) → Result A AskFault → Seen R → Type 0
  Asks f (Ok x) s' = Same s s' × OnTold s (λ b. f b ≡ Some x)
  Asks f (Err (Raised e)) s' = (e ≡ RangeCheck) × Same s s' × OnTold s (λ b. f b ≡ None)
  Asks f (Err NoMemory) s' = Same s s'
  Asks f (Err (Broken LinkFault)) s' = Rose s.faults s'.faults
  Asks f (Err (Broken (BadReply frame))) s' = Untold s s'
  Asks f (Err (Broken (Outside p))) s' = ⊥
  Asks f (Err (Refused cause)) s' = ⊥
  Asks f (Err Spent) s' = ⊥

-- ---- breakpoints

-- what `break` and `clear` say, and the breakpoints and the bytes of the target that they leave
pub record Change : Type 0 where
  pub text : List ℕ
  pub breaks : List PointRow
  pub bytes : Bytes

-- What a command comes to that stores to the target: where it is done, the bytes that were told are told with the words that it stored; where it isn't, nothing is stored.
abbrev pub ChangesOver : {R : Type 0} → (Bytes → Eval Cause Change) → (old : Inquiry) → Seen R → Result (List ℕ) AskFault → List PointRow → (new : Inquiry) → Seen R → Type 0
ChangesOver {R = R} m old s (Ok text) breaks new s' =
    (s'.faults ≡ s.faults)
    × ((b : Bytes) (r : R) → s.tells b r → (b' : Bytes) × Comes (m b) old (Ok (record { text = text; breaks = breaks; bytes = b' })) new × s'.tells b' r)
ChangesOver m old s (Err f) breaks new s' = ComesOver m old s (Err f) new s'

-- The same of a part that takes nothing of the table; memory may be wanting before it stores anything.
abbrev pub Changes : {R : Type 0} → (Bytes → Eval Cause Change) → Seen R → Result (List ℕ) AskFault → List PointRow → Seen R → Type 0
Changes {R = R} m s (Ok text) breaks s' =
    (s'.faults ≡ s.faults)
    × ((b : Bytes) (r : R) → s.tells b r → (b' : Bytes) × ((u : TableUse) → m b u (Ok (record { text = text; breaks = breaks; bytes = b' })) u) × s'.tells b' r)
Changes m s (Err (Refused cause)) breaks s' = Same s s' × OnTold s (λ b. (u : TableUse) → m b u (Err (RefusedFor cause)) u)
Changes m s (Err (Raised e)) breaks s' = Same s s' × OnTold s (λ b. (u : TableUse) → m b u (Err (Kind e)) u)
Changes m s (Err NoMemory) breaks s' = Same s s'
Changes m s (Err Spent) breaks s' = ⊥
Changes m s (Err (Broken LinkFault)) breaks s' = Rose s.faults s'.faults
Changes m s (Err (Broken (BadReply frame))) breaks s' = Untold s s'
Changes m s (Err (Broken (Outside p))) breaks s' = ⊥

-- ---- runs

-- a command's operators before its first run: in a frame, with nothing appended and the cell at 0
abbrev pub talk_in : {W : Type 0} → Operators W → Standing → Bool → Operators W
talk_in o standing raw = record o {
  memory = record o.memory { below = record o.memory.below { cell = 0 } };
  view = record o.view { standing = standing; raw = raw };
  out = [];
  fault = None;
}
