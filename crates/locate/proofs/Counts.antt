-- Frames outward of one, counted one after another.
use Rattle.std.proofs.Common.{◌≡◌, ◌∙◌, refl, ap, ℕ, suc, ◌+◌, List, [], ◌∷◌, length, Option, Some, None, Ok, Err, arith}
use Rattle.ps_store.specs.StoreState.{StoreState}
use Rattle.ps_step.specs.Results.{◌>>=◌}
use Rattle.frame_bytes.specs.Bytes.{Bytes}
use Rattle.frame_bytes.specs.declared.frame.Frame.{Frame}
use Rattle.table_model.specs.declared.row.TargetRow.{TargetRow}
use Rattle.table_model.specs.Reading.{Walked}
use Rattle.table_model.specs.Frames.{next_frame, outward}
use Rattle.abs_mem.specs.declared.walk.WalkFault.{WalkFault}
use Rattle.abs_mem.specs.Meaning.{Seen}
use Rattle.abs_mem.specs.Walking.{Walks}
use Rattle.locate.specs.Counting.{outward_count}
use Rattle.locate.proofs.Far.{SoFar, so_far_then, so_far_is, so_far_gives, so_far_fails}

abbrev pub count_after : ℕ → Walked ℕ → Walked ℕ
count_after n x = x >>= λ k. Ok (n + k)

pub counts_begin : (x : Walked ℕ) → x ≡ count_after 0 x
counts_begin (Ok k) = let e : k ≡ 0 + k = omega arith in ap (λ (j : ℕ). Ok j) e
counts_begin (Err l) = refl

-- the next frame, behind so many
abbrev counted_on : ℕ → (Frame → Walked (List Frame)) → Option Frame → Walked ℕ
counted_on n rest None = Ok n
counted_on n rest (Some g) = count_after (n + 1) (rest g >>= λ fs. Ok (length fs))

abbrev listed : (Frame → Walked (List Frame)) → Option Frame → Walked (List Frame)
listed rest None = Ok []
listed rest (Some g) = rest g >>= λ gs. Ok (g ∷ gs)

one_more : (n : ℕ) (x : Walked (List Frame)) (g : Frame) → count_after n ((x >>= λ gs. Ok (g ∷ gs)) >>= λ fs. Ok (length fs)) ≡ count_after (n + 1) (x >>= λ fs. Ok (length fs))
one_more n (Err l) g = refl
one_more n (Ok gs) g = let e : n + suc (length gs) ≡ n + 1 + length gs = omega arith in ap (λ (k : ℕ). Ok k) e

counted_by : (n : ℕ) (rest : Frame → Walked (List Frame)) (w : Walked (Option Frame)) → count_after n ((w >>= listed rest) >>= λ fs. Ok (length fs)) ≡ (w >>= counted_on n rest)
counted_by n rest (Err l) = refl
counted_by n rest (Ok None) = let e : n + 0 ≡ n = omega arith in ap (λ (k : ℕ). Ok k) e
counted_by n rest (Ok (Some g)) = one_more n (rest g) g

counts_step : (row : TargetRow) (s : StoreState) (b : Bytes) (n k left : ℕ) (f : Frame) → left ≡ suc k → count_after n (outward_count row s b left f) ≡ (next_frame row s b f >>= counted_on n (outward row s b k))
counts_step row s b n k left f m = ap (λ j. count_after n (outward_count row s b j f)) m ∙ counted_by n (outward row s b k) (next_frame row s b f)

module _ {R : Type 0} (o u t : Seen R) (row : TargetRow) (s : StoreState) (whole : Bytes → Walked ℕ) (n left : ℕ) (f : Frame) where
  -- what is left, behind so many
  abbrev to_count : Bytes → Walked ℕ
  to_count b = count_after n (outward_count row s b left f)

  pub counts_fail : (k : ℕ) (x : WalkFault) → left ≡ suc k → SoFar o u whole (λ b. count_after n (outward_count row s b left f)) → Walks (λ b. next_frame row s b f) u (Err x) t → Walks whole o (Err x) t
  counts_fail k x m far h = so_far_fails o u t whole to_count (λ b. next_frame row s b f) (λ b. counted_on n (outward row s b k)) x far h (λ b. counts_step row s b n k left f m)

  pub counts_end : (k : ℕ) → left ≡ suc k → SoFar o u whole (λ b. count_after n (outward_count row s b left f)) → Walks (λ b. next_frame row s b f) u (Ok None) t → Walks whole o (Ok n) t
  counts_end k m far h =
      so_far_gives o u t whole to_count (λ b. next_frame row s b f) None n far h
      (λ b e. counts_step row s b n k left f m ∙ ap (λ (w : Walked (Option Frame)). w >>= counted_on n (outward row s b k)) e)

  pub counts_on : (k : ℕ) (g : Frame) → left ≡ suc k → SoFar o u whole (λ b. count_after n (outward_count row s b left f)) → Walks (λ b. next_frame row s b f) u (Ok (Some g)) t
      → SoFar o t whole (λ b. count_after (n + 1) (outward_count row s b k g))
  counts_on k g m far h =
      so_far_then o u t whole to_count (λ b. next_frame row s b f) (Some g) (λ b. count_after (n + 1) (outward_count row s b k g)) far h
      (λ b e. counts_step row s b n k left f m ∙ ap (λ (w : Walked (Option Frame)). w >>= counted_on n (outward row s b k)) e)

  pub counts_all : (most : ℕ) → left ≡ 0 → n ≡ most → SoFar o u whole (λ b. count_after n (outward_count row s b left f)) → Walks whole o (Ok most) u
  counts_all most none all far =
      let e : n + 0 ≡ most = omega (arith, all) in
      so_far_is o u whole to_count most far (λ b. ap (λ j. count_after n (outward_count row s b j f)) none ∙ ap (λ (k : ℕ). Ok k) e)
