-- `frames`, `frame`, and the frame in which a command works.
use Rattle.std.specs.Prelude.{ℕ, [], ◌∷◌, ◌++◌, length, codes, decimal, Option, Some, None}
use Rattle.machine_state.specs.declared.layout.TheConstants.{CONTEXT}
use Rattle.frame_bytes.specs.declared.frame.Frame.{Frame}
use Rattle.table_model.specs.Frames.{frame_at, told_frames, told_frame_at}
use Rattle.dialect_model.specs.TableUse.{Looks, gives, refuses, ◌>>=◌}
use Rattle.c_session.specs.Commands.{NoFrame}
use Rattle.claims.specs.Side.{SideState, Change, OnSide, row_of, memory_of}
use Rattle.claims.specs.Lines.{frame_text, frame_texts}

abbrev pub listing : SideState → OnSide Change
listing a = do
  ps ← Looks (λ s. told_frames (row_of a) s (memory_of a) CONTEXT)
  gives (record { lines = (codes "frames " ++ decimal (length ps)) ∷ frame_texts 0 ps; side = a })

abbrev pub or_no_frame : {A : Type 0} → Option A → OnSide A
or_no_frame None = refuses NoFrame
or_no_frame (Some x) = gives x

abbrev pub choosing : SideState → (number : ℕ) → OnSide Change
choosing a n = do
  told ← Looks (λ s. told_frame_at (row_of a) s (memory_of a) CONTEXT n)
  p ← or_no_frame told
  gives (record { lines = frame_text n p ∷ []; side = record a { frame = n } })

-- the chosen frame
abbrev pub chosen : SideState → OnSide Frame
chosen a = do
  found ← Looks (λ s. frame_at (row_of a) s (memory_of a) CONTEXT a.frame)
  or_no_frame found
