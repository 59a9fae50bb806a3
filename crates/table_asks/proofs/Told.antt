-- What the frame with a number tells, by the walk to that frame.
use Rattle.std.proofs.Common.{◌≡◌, ◌∙◌, refl, sym, ap, subst, ℕ, Option, Some, None, Result, Ok, Err}
use Rattle.ps_store.specs.StoreState.{StoreState}
use Rattle.ps_step.specs.Results.{◌>>=◌}
use Rattle.frame_bytes.specs.Bytes.{Bytes}
use Rattle.frame_bytes.specs.declared.frame.Frame.{Frame}
use Rattle.table_model.specs.declared.row.TargetRow.{TargetRow}
use Rattle.table_model.specs.Reading.{Walked}
use Rattle.table_model.specs.Rows.{PointRow}
use Rattle.table_model.specs.Frames.{frame_at, told_frame, told_frame_at}
use Rattle.table_read.specs.Reads.{in_ok}
use Rattle.abs_mem.specs.declared.walk.WalkFault.{WalkFault}
use Rattle.abs_mem.specs.Meaning.{Seen}
use Rattle.abs_mem.specs.Walking.{Walks, told_of}
use Rattle.abs_mem.proofs.Walks.{walks_fail, walks_then, walks_table}

abbrev told_by : StoreState → ℕ → Option Frame → Walked (Option PointRow)
told_by s n f = elim f [ None ↦ Ok None | Some f ↦ told_frame s n f >>= λ t. Ok (Some t) ]

some_of : (w : Walked PointRow) → in_ok (λ t. Some t) w ≡ (w >>= λ t. Ok (Some t))
some_of (Ok t) = refl
some_of (Err l) = refl

module _ {R : Type 0} (o u : Seen R) (row : TargetRow) (s : StoreState) (context n : ℕ) where
  pub told_fails : (x : WalkFault) → Walks (λ b. frame_at row s b context n) o (Err x) u → Walks (λ b. told_frame_at row s b context n) o (Err x) u
  unfolding told_frame_at
  told_fails x h = walks_fail o u (λ b. frame_at row s b context n) (λ b. told_by s n) x h

  pub told_none : Walks (λ b. frame_at row s b context n) o (Ok None) u → Walks (λ b. told_frame_at row s b context n) o (Ok None) u
  unfolding told_frame_at
  told_none h = (h.0, record { holds = λ (b : Bytes) (r : R) t. ap (λ (w : Walked (Option Frame)). w >>= told_by s n) (h.1.holds b r t) })

  pub told_some : (f : Frame) (r : Result (Option PointRow) WalkFault) → Walks (λ b. frame_at row s b context n) o (Ok (Some f)) u → r ≡ told_of (in_ok (λ t. Some t) (told_frame s n f))
      → Walks (λ b. told_frame_at row s b context n) o r u
  unfolding told_frame_at
  told_some f r h e =
      subst (λ (x : Result (Option PointRow) WalkFault). Walks (λ b. told_frame_at row s b context n) o x u) (sym (e ∙ ap told_of (some_of (told_frame s n f))))
      (walks_then o u u (λ b. frame_at row s b context n) (λ x b. told_by s n x) (λ b. told_frame_at row s b context n) (Some f) (told_of (told_by s n (Some f))) h
      (walks_table u (λ b. told_by s n (Some f)) (told_by s n (Some f)) (λ b. refl)) (λ b i. ap (λ (w : Walked (Option Frame)). w >>= told_by s n) i))
