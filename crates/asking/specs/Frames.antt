-- `frames` and `frame`.
use Rattle.std.specs.Prelude.{ℕ, ◌-◌, List, ◌++◌, length, codes, decimal, Option, Some, None, Result, Ok, Err}
use Rattle.ps_store.specs.StoreState.{StoreState}
use Rattle.frame_bytes.specs.Bytes.{Bytes}
use Rattle.frame_bytes.specs.declared.frame.Frame.{Frame}
use Rattle.abs_mem.specs.Meaning.{Seen, Same}
use Rattle.abs_mem.specs.Walking.{Walks, LedWalk}
use Rattle.table_model.specs.Reading.{Walked}
use Rattle.table_model.specs.Rows.{PointRow}
use Rattle.table_model.specs.declared.row.TargetRow.{TargetRow}
use Rattle.table_model.specs.Frames.{MOST_FRAMES, told_outward, told_frames, told_frame_at}
use Rattle.table_read.specs.Reads.{in_ok}
use Rattle.dialect_model.specs.TableUse.{Eval, Looks, gives, refuses, ◌>>=◌}
use Rattle.table_asks.specs.declared.fault.Cause.{Cause}
use Rattle.table_asks.specs.declared.fault.Cause.TheVariants.{NoFrame}
use Rattle.asking.specs.declared.frames.Listed.{Listed}
use Rattle.asking.specs.declared.frames.ListFault.{ListFault}
use Rattle.asking.specs.declared.frames.ListFault.TheVariants.{Walk, NoMemory}
use Rattle.asking.specs.Lines.{line, frame_text, frame_lines}

abbrev pub listing : TargetRow → (context : ℕ) → Bytes → Eval Cause (List ℕ)
listing row context b = do
  ps ← Looks (λ s. told_frames row s b context)
  gives (line (codes "frames " ++ decimal (length ps)) ++ frame_lines 0 ps)

abbrev pub or_no_frame : {A : Type 0} → Option A → Eval Cause A
or_no_frame None = refuses NoFrame
or_no_frame (Some x) = gives x

abbrev pub choosing : TargetRow → (context number : ℕ) → Bytes → Eval Cause (List ℕ)
choosing row context n b = do
  told ← Looks (λ s. told_frame_at row s b context n)
  p ← or_no_frame told
  gives (line (frame_text n p))

-- ---- the lines of frames in one walk

abbrev pub listed : List PointRow → Listed
listed ps = record { count = length ps; lines = frame_lines 0 ps }

-- those of all frames from the innermost one on
unfoldable pub listed_outward : TargetRow → StoreState → Bytes → (innermost : Frame) → Walked Listed
listed_outward row s b f = in_ok listed (told_outward row s b (MOST_FRAMES - 1) 0 f)

-- memory may be wanting for the lines
abbrev pub Lists : {R : Type 0} → (Bytes → Walked Listed) → Seen R → Result Listed ListFault → Seen R → Type 0
Lists f s (Ok all) s' = Walks f s (Ok all) s'
Lists f s (Err (Walk fault)) s' = Walks f s (Err fault) s'
Lists f s (Err NoMemory) s' = Same s s'

abbrev pub LedList : {M : Type 0} → (M → Option (List ℕ) → M → Type 0) → M → Result Listed ListFault → M → Type 0
LedList leads m (Ok all) m' = leads m None m'
LedList leads m (Err (Walk fault)) m' = LedWalk {A = Listed} leads m (Err fault) m'
LedList leads m (Err NoMemory) m' = leads m None m'
