-- What a command that asks one side does.
use Rattle.std.specs.Prelude.{◌≡◌, ℕ, List, Option, Result, IfErr}
use Rattle.abs_mem.specs.Meaning.{Seen}
use Rattle.table_model.specs.Frames.{row_of_target}
use Rattle.table_points.specs.declared.row.Point.{Point}
use Rattle.ps_ops.specs.declared.dialect.Operators.{Operators}
use Rattle.c_session.specs.declared.command.Command.{Command}
use Rattle.c_session.specs.declared.command.Command.TheVariants as command
use Rattle.table_asks.specs.declared.fault.AskFault.{AskFault}
use Rattle.table_asks.specs.declared.inquiry.Inquiry.{Inquiry}
use Rattle.table_asks.specs.Asking.{ComesOver}
use Rattle.table_asks.specs.Running.{RanOver}
use Rattle.asking.specs.Doing.{ChangesOver}
use Rattle.asking.specs.Breaks.{rows_in, breaking, clearing}
use Rattle.asking.specs.Frames.{listing, choosing}
use Rattle.asking.specs.Printing.{EndsOver, printing, target_with}
use Rattle.evaluating.specs.Told.{StoresNone}

module _ {W R : Type 0} (seen : W → Seen R) (leads : W → Option (List ℕ) → W → Type 0) where
  -- the memory of the target, as operators see it
  abbrev pub target : Operators W → Seen R
  target o = seen o.memory.below.below.below

  -- The command's own part, from its begin to its end, in the frame with a number and with these breakpoints; of `print` it is also said where its calls led. (Of expressions it is said what they leave of the target, and a text of PostScript is run by itself.)
  abbrev pub Does : Command → (frame : ℕ) → List Point → Inquiry → Operators W → Result (List ℕ) AskFault → List Point → Inquiry → Operators W → Type 0
  Does (command.Break spot) frame ps i o r ps' i' o' = ChangesOver (λ b. breaking o.view.target (rows_in i'.core.store ps) b spot) i (target o) r (rows_in i'.core.store ps') i' (target o')
  Does (command.Clear spot) frame ps i o r ps' i' o' = ChangesOver (λ b. clearing o.view.target (rows_in i'.core.store ps) b spot) i (target o) r (rows_in i'.core.store ps') i' (target o')
  Does command.Frames frame ps i o r ps' i' o' = ComesOver (listing (row_of_target o.view.target) o.view.context) i (target o) r i' (target o') × (ps' ≡ ps)
  Does (command.Frame n) frame ps i o r ps' i' o' = ComesOver (choosing (row_of_target o.view.target) o.view.context n) i (target o) r i' (target o') × (ps' ≡ ps)
  Does (command.Print name) frame ps i o r ps' i' o' = EndsOver (printing frame name) (target_with o) i (target o) r i' (target o') × RanOver seen leads o.memory.below.below.below r o'.memory.below.below.below × (ps' ≡ ps)
  Does (command.Eval text) frame ps i o r ps' i' o' = StoresNone seen o r o'
  Does (command.Code text) frame ps i o r ps' i' o' = StoresNone seen o r o'
  Does c frame ps i o r ps' i' o' = IfErr r (λ f. ⊥) × (o' ≡ o)

-- the chosen frame where the command is done
abbrev pub chosen_frame : Command → ℕ → ℕ
chosen_frame (command.Frame n) frame = n
chosen_frame c frame = frame
