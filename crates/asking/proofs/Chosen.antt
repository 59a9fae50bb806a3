-- `frame N`: what comes of what the frame with the number tells.
use Rattle.std.proofs.Common.{refl, ℕ, List, Option, Some, None, Ok, Err}
use Rattle.ps_store.specs.StoreState.{StoreState}
use Rattle.frame_bytes.specs.Bytes.{Bytes}
use Rattle.abs_mem.specs.Meaning.{Seen}
use Rattle.table_model.specs.declared.row.TargetRow.{TargetRow}
use Rattle.table_model.specs.Reading.{Walked}
use Rattle.table_model.specs.Rows.{PointRow}
use Rattle.table_model.specs.Frames.{told_frame_at}
use Rattle.dialect_model.specs.TableUse.{Eval, Looks, gives, Refused as RefusedFor, ◌>>=◌}
use Rattle.table_asks.specs.declared.fault.Cause.{Cause}
use Rattle.table_asks.specs.declared.fault.Cause.TheVariants.{NoFrame}
use Rattle.table_asks.specs.declared.fault.AskFault.{AskFault}
use Rattle.table_asks.specs.declared.fault.AskFault.TheVariants.{Refused, NoMemory}
use Rattle.table_asks.specs.declared.inquiry.Inquiry.{Inquiry}
use Rattle.table_asks.specs.Asking.{ComesOver}
use Rattle.table_asks.proofs.Binding.{behind_fault_over, behind_answer, behind_refusal, wanting_behind}
use Rattle.asking.specs.Lines.{line, frame_text}
use Rattle.asking.specs.Frames.{or_no_frame, choosing}

module _ {R : Type 0} (row : TargetRow) (context n : ℕ) (old new : Inquiry) (s s' : Seen R) where
  abbrev told : Bytes → StoreState → Walked (Option PointRow)
  told b i = told_frame_at row i b context n

  abbrev on_told : Bytes → Option PointRow → Eval Cause (List ℕ)
  on_told b o = or_no_frame o >>= λ p. gives (line (frame_text n p))

  pub choose_fails : (f : AskFault) → ComesOver (λ b. Looks (told b)) old s (Err f) new s' → ComesOver (choosing row context n) old s (Err f) new s'
  choose_fails f h = behind_fault_over (λ b. Looks (told b)) on_told old new s s' f h

  pub choose_none : ComesOver (λ b. Looks (told b)) old s (Ok None) new s' → ComesOver (choosing row context n) old s (Err (Refused NoFrame)) new s'
  choose_none h = behind_refusal (λ b. Looks (told b)) on_told old new s s' None NoFrame h (λ b u. (Err (RefusedFor NoFrame), u, (refl, refl), (refl, refl)))

  pub choose_line : (p : PointRow) → ComesOver (λ b. Looks (told b)) old s (Ok (Some p)) new s' → ComesOver (choosing row context n) old s (Ok (line (frame_text n p))) new s'
  choose_line p h = behind_answer (λ b. Looks (told b)) on_told old new s s' (Some p) (line (frame_text n p)) h (λ b u. (Ok p, u, (refl, refl), (refl, refl)))

  pub choose_wants : (o : Option PointRow) → ComesOver (λ b. Looks (told b)) old s (Ok o) new s' → ComesOver (choosing row context n) old s (Err NoMemory) new s'
  choose_wants o h = choose_fails NoMemory (wanting_behind told old new s s' o h)
