-- Frames looked at one after another.
use Rattle.std.proofs.Common.{◌≡◌, ◌∙◌, refl, sym, ap, ℕ, zero, suc, List, length, Option, Some, None, Ok, Err}
use Rattle.ps_store.specs.StoreState.{StoreState}
use Rattle.ps_step.specs.Results.{◌>>=◌}
use Rattle.frame_bytes.specs.Bytes.{Bytes}
use Rattle.frame_bytes.specs.declared.frame.Frame.{Frame}
use Rattle.table_model.specs.declared.found.Found.{Found}
use Rattle.table_model.specs.declared.row.TargetRow.{TargetRow}
use Rattle.table_model.specs.Reading.{Walked}
use Rattle.table_model.specs.Frames.{first_frame, next_frame, outward}
use Rattle.table_model.specs.Objects.{local_at, with_activation, found_outward}
use Rattle.abs_mem.specs.declared.walk.WalkFault.{WalkFault}
use Rattle.abs_mem.specs.Meaning.{Seen}
use Rattle.abs_mem.specs.Walking.{Walks}
use Rattle.locate.specs.Counting.{found_here, found_in_frames}
use Rattle.locate.proofs.Far.{SoFar, so_far_then, so_far_gives, so_far_fails}

-- what is found, or else what comes behind it
abbrev pub or_next : Walked (Option Found) → Option Found → Walked (Option Found)
or_next next None = next
or_next next (Some o) = Ok (Some o)

abbrev pub looked : Walked (List Frame) → Walked (Option Found) → Option Found → Walked (Option Found)
looked outer next None = next
looked outer next (Some o) = outer >>= λ fs. Ok (Some (with_activation o fs))

abbrev pub numbered : Walked (List Frame) → Option Found → Walked (Option Found)
numbered outer None = Ok None
numbered outer (Some o) = (outer >>= λ fs. Ok (length fs)) >>= λ n. Ok (Some (record o { activation = Some n }))

looked_here : (outer : Walked (List Frame)) (next : Walked (Option Found)) (w : Walked (Option Found)) → (w >>= looked outer next) ≡ ((w >>= numbered outer) >>= or_next next)
looked_here outer next (Err l) = refl
looked_here outer next (Ok None) = refl
looked_here (Ok fs) next (Ok (Some o)) = refl
looked_here (Err l) next (Ok (Some o)) = refl

module _ (row : TargetRow) (s : StoreState) (address : ℕ) (b : Bytes) where
  abbrev pub outer_found : ℕ → ℕ → Option Frame → Walked (Option Found)
  outer_found n number None = Ok None
  outer_found n number (Some g) = found_outward row s b address n (suc number) g

  abbrev pub onward : ℕ → ℕ → Frame → Walked (Option Found)
  onward zero number f = Ok None
  onward (suc n) number f = next_frame row s b f >>= outer_found n number

  looks : (n number : ℕ) (f : Frame) → found_outward row s b address n number f ≡ (found_here row s b address n number f >>= or_next (onward n number f))
  looks zero number f = looked_here (outward row s b zero f) (onward zero number f) (local_at s number f address)
  looks (suc n) number f = looked_here (outward row s b (suc n) f) (onward (suc n) number f) (local_at s number f address)

module _ {R : Type 0} (o u t : Seen R) (row : TargetRow) (s : StoreState) (address : ℕ) (whole : Bytes → Walked (Option Found)) (n number : ℕ) (f : Frame) where
  -- what is left from a frame on
  abbrev to_look : Bytes → Walked (Option Found)
  to_look b = found_outward row s b address n number f

  looks_by : (x : Option Found) (b : Bytes) → found_here row s b address n number f ≡ Ok x → to_look b ≡ or_next (onward row s address b n number f) x
  looks_by x b e = looks row s address b n number f ∙ ap (λ (w : Walked (Option Found)). w >>= or_next (onward row s address b n number f)) e

  pub looks_fail : (x : WalkFault) → SoFar o u whole (λ b. found_outward row s b address n number f) → Walks (λ b. found_here row s b address n number f) u (Err x) t → Walks whole o (Err x) t
  looks_fail x far h = so_far_fails o u t whole to_look (λ b. found_here row s b address n number f) (λ b. or_next (onward row s address b n number f)) x far h (λ b. looks row s address b n number f)

  pub looks_found : (x : Found) → SoFar o u whole (λ b. found_outward row s b address n number f) → Walks (λ b. found_here row s b address n number f) u (Ok (Some x)) t → Walks whole o (Ok (Some x)) t
  looks_found x far h = so_far_gives o u t whole to_look (λ b. found_here row s b address n number f) (Some x) (Some x) far h (λ b e. looks_by (Some x) b e)

  pub looks_last : n ≡ 0 → SoFar o u whole (λ b. found_outward row s b address n number f) → Walks (λ b. found_here row s b address n number f) u (Ok None) t → Walks whole o (Ok None) t
  looks_last none far h =
      so_far_gives o u t whole to_look (λ b. found_here row s b address n number f) None None far h
      (λ b e. looks_by None b e ∙ ap (λ k. onward row s address b k number f) none)

  -- the frame itself has none, so that the ones outward of it are left
  pub looks_outward : (k : ℕ) → n ≡ suc k → SoFar o u whole (λ b. found_outward row s b address n number f) → Walks (λ b. found_here row s b address n number f) u (Ok None) t
      → SoFar o t whole (λ b. next_frame row s b f >>= outer_found row s address b k number)
  looks_outward k more far h =
      so_far_then o u t whole to_look (λ b. found_here row s b address n number f) None (λ b. next_frame row s b f >>= outer_found row s address b k number) far h
      (λ b e. looks_by None b e ∙ ap (λ j. onward row s address b j number f) more)

module _ {R : Type 0} (o u t : Seen R) (row : TargetRow) (s : StoreState) (address : ℕ) (whole : Bytes → Walked (Option Found)) (k number : ℕ) (f : Frame) where
  abbrev to_find : Bytes → Walked (Option Found)
  to_find b = next_frame row s b f >>= outer_found row s address b k number

  pub outer_fail : (x : WalkFault) → SoFar o u whole (λ b. next_frame row s b f >>= outer_found row s address b k number) → Walks (λ b. next_frame row s b f) u (Err x) t → Walks whole o (Err x) t
  outer_fail x far h = so_far_fails o u t whole to_find (λ b. next_frame row s b f) (λ b. outer_found row s address b k number) x far h (λ b. refl)

  pub outer_none : SoFar o u whole (λ b. next_frame row s b f >>= outer_found row s address b k number) → Walks (λ b. next_frame row s b f) u (Ok None) t → Walks whole o (Ok None) t
  outer_none far h =
      so_far_gives o u t whole to_find (λ b. next_frame row s b f) None None far h (λ b e. ap (λ (w : Walked (Option Frame)). w >>= outer_found row s address b k number) e)

  pub outer_on : (g : Frame) (next : ℕ) → next ≡ suc number → SoFar o u whole (λ b. next_frame row s b f >>= outer_found row s address b k number) → Walks (λ b. next_frame row s b f) u (Ok (Some g)) t
      → SoFar o t whole (λ b. found_outward row s b address k next g)
  outer_on g next e far h =
      so_far_then o u t whole to_find (λ b. next_frame row s b f) (Some g) (λ b. found_outward row s b address k next g) far h
      (λ b is. ap (λ (w : Walked (Option Frame)). w >>= outer_found row s address b k number) is ∙ ap (λ j. found_outward row s b address k j g) (sym e))

-- ---- from the innermost frame on

abbrev pub from_frame : TargetRow → StoreState → Bytes → (address : ℕ) → Option Frame → Walked (Option Found)
from_frame row s b address None = Ok None
from_frame row s b address (Some f) = found_outward row s b address 19999 0 f

pub found_from : (row : TargetRow) (s : StoreState) (b : Bytes) (context address : ℕ) (f : Option Frame) → first_frame row s b context ≡ Ok f → found_in_frames row s b context address ≡ from_frame row s b address f
found_from row s b context address f e = ap (λ (w : Walked (Option Frame)). w >>= from_frame row s b address) e
