-- What stands beside the interpreter while it runs for a session.
use Rattle.std.specs.Prelude.{ℕ, Bool, false, List, [], Option, Some, None, Result, Ok, Err}
use Rattle.ldb_words.specs.declared.kinds.Order.{Order}
use Rattle.machine_state.specs.Regions.{Regions}
use Rattle.ps_store.specs.declared.object.DictId.{DictId}
use Rattle.ps_store.specs.StoreState.{StoreState}
use Rattle.ps_step.specs.declared.fault.PsError.{PsError}
use Rattle.ps_step.specs.declared.fault.PsError.TheVariants.{RangeCheck}
use Rattle.ps_step.specs.declared.machine.PsCore.{PsCore}
use Rattle.ps_step.specs.Results.{◌>>=◌}
use Rattle.frame_bytes.specs.Bytes.{Bytes, no_places, places_of, no_bytes}
use Rattle.frame_bytes.specs.declared.frame.Frame.{Frame}
use Rattle.table_model.specs.declared.lack.Lack.{Lack}
use Rattle.table_model.specs.declared.lack.Lack.TheVariants.{Unforced}
use Rattle.table_model.specs.Reading.{Walked}
use Rattle.table_model.specs.declared.row.TargetRow.{TargetRow}
use Rattle.table_model.specs.Frames.{frame_at}
use Rattle.table_model.specs.Symbols as symbols
use Rattle.ps_places.specs.Lacks.{error_of}

-- A target: how its frames are found, where its context block is, its byte order and its memory.
pub record Target : Type 0 where
  pub row : TargetRow
  pub context : ℕ
  pub order : Order
  pub regions : Regions

-- In which frame operators work: in none; in one that was found, with the innermost symbol in scope there, if there is
-- one; or in the one with a number, which is looked for when an operator asks for it.
pub data Standing : Type 0 where
  NoFrame : Standing
  InFrame : (frame : Frame) (scope : Option DictId) → Standing
  Numbered : (number : ℕ) → Standing

-- The target, if there is one; the frame; the word of the immediate cell; the text that was appended; and whether the
-- target may be written, as in `ps` alone.
pub record Dial : Type 0 where
  pub target : Option Target
  pub standing : Standing
  pub cell : ℕ
  pub out : List ℕ
  pub raw : Bool

-- While the prelude, a table or an executable string of a table runs there is no target: all places but the cell are
-- outside, no object is live, there is no frame, and what is appended is dropped. The cell holds 0.
abbrev pub no_target : Dial
no_target = record { target = None; standing = NoFrame; cell = 0; out = []; raw = false }

-- ---- why an operator does nothing

-- it raises an error, or the functions of a unit have to be run first
pub data Halt : Type 0 where
  Raises : (e : PsError) → Halt
  Needs : (unit : ℕ) → Halt

abbrev pub Acted : Type 0 → Type 0
Acted A = Result A Halt

-- what an operator makes of the dial and of the interpreter's state
abbrev pub Act : Type 0
Act = Acted (Dial × PsCore)

-- what a table lacks
abbrev pub halt_of : Lack → Halt
halt_of (Unforced unit) = Needs unit
halt_of l = Raises (error_of l)

abbrev pub looked : {A : Type 0} → Walked A → Acted A
looked (Ok x) = Ok x
looked (Err l) = Err (halt_of l)

abbrev pub raised : {A : Type 0} → Result A PsError → Acted A
raised (Ok x) = Ok x
raised (Err e) = Err (Raises e)

-- ---- bytes

-- a target's bytes in a frame, or in none
abbrev pub target_bytes : Target → Option Frame → (cell : ℕ) → Bytes
target_bytes t f cell = record { order = t.order; regions = t.regions; registers = places_of f; cell = Some cell }

abbrev bytes_by : Option Target → Option Frame → (cell : ℕ) → Bytes
bytes_by None f cell = no_bytes cell
bytes_by (Some t) f cell = target_bytes t f cell

abbrev pub bytes_in : Dial → Option Frame → Bytes
bytes_in d f = bytes_by d.target f d.cell

abbrev with_memory : Bytes → Option Target → Option Target
with_memory b None = None
with_memory b (Some t) = Some (record t { order = b.order; regions = b.regions })

abbrev cell_or : ℕ → Option ℕ → ℕ
cell_or n None = n
cell_or n (Some m) = m

-- the dial with these bytes
abbrev pub with_bytes : Bytes → Dial → Dial
with_bytes b d = record d { target = with_memory b d.target; cell = cell_or d.cell b.cell }

-- a target's memory alone, which is all that a search for a frame or an object sees
abbrev pub memory_bytes : Target → Bytes
memory_bytes t = record { order = t.order; regions = t.regions; registers = no_places; cell = None }

-- ---- the frame, and the innermost symbol in scope there

abbrev numbered_frame : StoreState → (number : ℕ) → Option Target → Acted (Option Frame)
numbered_frame s n None = Ok None
numbered_frame s n (Some t) = looked (frame_at t.row s (memory_bytes t) t.context n)

abbrev pub frame_of : Dial → StoreState → Acted (Option Frame)
frame_of d s = elim d.standing [
  | NoFrame ↦ Ok None
  | InFrame f scope ↦ Ok (Some f)
  | Numbered n ↦ numbered_frame s n d.target
]

-- an operator that needs a frame where there is none is out of range
abbrev or_no_frame : Option Frame → Acted Frame
or_no_frame None = Err (Raises RangeCheck)
or_no_frame (Some f) = Ok f

-- the innermost symbol in scope in the frame, which has to be there
abbrev pub scope_of : Dial → StoreState → Acted (Option DictId)
scope_of d s = elim d.standing [
  | NoFrame ↦ Err (Raises RangeCheck)
  | InFrame f scope ↦ Ok scope
  | Numbered n ↦ numbered_frame s n d.target >>= or_no_frame >>= λ f. looked (symbols.scope_of s n f)
]
