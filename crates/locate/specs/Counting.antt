-- Locals frame by frame, in the steps in which they are found. No public contract cites them.
use Rattle.std.specs.Prelude.{ℕ, ◌-◌, length, Option, Some, None, Ok}
use Rattle.ps_store.specs.StoreState.{StoreState}
use Rattle.ps_step.specs.Results.{◌>>=◌}
use Rattle.frame_bytes.specs.Bytes.{Bytes}
use Rattle.frame_bytes.specs.declared.frame.Frame.{Frame}
use Rattle.table_model.specs.declared.found.Found.{Found}
use Rattle.table_model.specs.declared.row.TargetRow.{TargetRow}
use Rattle.table_model.specs.Reading.{Walked}
use Rattle.table_model.specs.Frames.{MOST_FRAMES, first_frame, outward}
use Rattle.table_model.specs.Objects.{local_at, found_outward}

-- how many frames are outward of one, of which at most so many are left
abbrev pub outward_count : TargetRow → StoreState → Bytes → (most : ℕ) → Frame → Walked ℕ
outward_count row s b n f = outward row s b n f >>= λ fs. Ok (length fs)

-- the local of a frame that has an address, with the number of its activation
abbrev pub found_here : TargetRow → StoreState → Bytes → (address left number : ℕ) → Frame → Walked (Option Found)
found_here row s b address left number f = local_at s number f address >>= λ found. elim found [
  | None ↦ Ok None
  | Some o ↦ outward_count row s b left f >>= λ n. Ok (Some (record o { activation = Some n }))
]

-- the first local that has an address, from the innermost frame on
abbrev pub found_in_frames : TargetRow → StoreState → Bytes → (context address : ℕ) → Walked (Option Found)
found_in_frames row s b context address = first_frame row s b context >>= λ f. elim f [ None ↦ Ok None | Some f ↦ found_outward row s b address (MOST_FRAMES - 1) 0 f ]
