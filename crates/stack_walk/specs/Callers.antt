-- The frame of a caller, in the steps in which it is found.
use Rattle.std.specs.Prelude.{ℕ, Bool, List, Option, Ok}
use Rattle.ps_store.specs.declared.object.PsObj.{PsObj}
use Rattle.ps_store.specs.declared.object.DictId.{DictId}
use Rattle.ps_store.specs.StoreState.{StoreState}
use Rattle.ps_step.specs.Results.{◌>>=◌}
use Rattle.frame_bytes.specs.Bytes.{Bytes}
use Rattle.frame_bytes.specs.declared.frame.Frame.{Frame}
use Rattle.table_model.specs.declared.row.SavingRow.{SavingRow}
use Rattle.table_model.specs.Reading.{Walked, all_in}
use Rattle.table_model.specs.Rows.{function_at}
use Rattle.table_model.specs.Frames.{Saved, kept_at, outer_places, saving_frame, framed, caller_saving}
use Rattle.table_read.specs.Saved.{pair_in}

-- the saved registers of some entries of `/saved`
abbrev pub saved_in : StoreState → List PsObj → Walked (List Saved)
saved_in s items = all_in (pair_in s) items

-- what the saved registers say, where all entries are as they should be
abbrev pub by_saved : {A : Type 0} → Walked (List Saved) → (List Saved → A) → Walked A
by_saved x f = x >>= λ saved. Ok (f saved)

-- the frame of a function at a pc, whose callee saved these registers
abbrev pub outer_frame : (preserved : List Bool) → StoreState → Walked (List Saved) → (base : ℕ) → List (Option ℕ) → (pc : ℕ) → DictId → Walked Frame
outer_frame preserved s x base places pc g = x >>= λ saved. saving_frame s pc base (outer_places preserved 0 base places saved) g

-- the frame of a caller at a pc, whose callee saved these registers
abbrev pub caller_at : (preserved : List Bool) → StoreState → Walked (List Saved) → (base : ℕ) → List (Option ℕ) → (pc : ℕ) → Walked (Option Frame)
caller_at preserved s x base places pc = function_at s pc >>= λ row. framed row (outer_frame preserved s x base places pc)

-- the caller of a frame whose function saves these registers
abbrev pub returned_to : SavingRow → Frame → StoreState → Walked (List Saved) → Bytes → Walked (Option Frame)
returned_to target f s x b = x >>= λ saved. caller_saving target s b f saved (kept_at f.base saved target.return_register)
