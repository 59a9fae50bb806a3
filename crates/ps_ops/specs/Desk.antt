-- What the dialect of a command has beside the memory of its target.
use Rattle.std.specs.Prelude.{◌≡◌, ℕ, Bool, List, Option, Some, None}
use Rattle.ldb_words.specs.declared.kinds.Order.{Order}
use Rattle.machine_state.specs.Regions.{Regions}
use Rattle.frame_bytes.specs.Bytes.{Bytes, no_places}
use Rattle.table_model.specs.Frames.{row_of_target}
use Rattle.dialect_model.specs.Dial.{Dial, Target, Standing, NoFrame, InFrame, Numbered, memory_bytes}
use Rattle.ps_ops.specs.declared.view.View.{View}
use Rattle.ps_ops.specs.declared.view.Standing.{Standing as Place}
use Rattle.ps_ops.specs.declared.view.Standing.TheVariants as standing

abbrev pub standing_of : Place → Standing
standing_of standing.NoFrame = NoFrame
standing_of (standing.InFrame frame scope) = InFrame frame scope
standing_of (standing.Numbered number) = Numbered number

-- what the operators see of the target, the order of its bytes, the cell's word, and the text
pub record Desk : Type 0 where
  pub view : View
  pub order : Order
  pub cell : ℕ
  pub out : List ℕ

abbrev pub desk_of : View → Order → ℕ → List ℕ → Desk
desk_of v order cell out = record { view = v; order = order; cell = cell; out = out }

abbrev pub target_of : View → Order → Regions → Target
target_of v order rg = record { row = row_of_target v.target; context = v.context; order = order; regions = rg }

-- the dial over a memory
abbrev pub dial_of : Desk → Regions → Dial
dial_of k rg = record { target = Some (target_of k.view k.order rg); standing = standing_of k.view.standing; cell = k.cell; out = k.out; raw = k.view.raw }

-- the bytes of the memory alone, which the memory below tells
abbrev pub memory_of : Desk → Regions → Bytes
memory_of k rg = memory_bytes (target_of k.view k.order rg)
