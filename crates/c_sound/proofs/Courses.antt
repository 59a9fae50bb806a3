-- Runs to an event from a good state.
use Rattle.std.proofs.Common.{ℕ, suc, zero, Bool, true, false}
use Rattle.std.specs.Prelude.{slice_get}
use Rattle.runs.specs.Runs.{Next, Goes, Passes, Exits, Undefined, Reason, Stale, IllTyped, Course, Going, Comes, Stopped, Exited, Failed, counted, passing, onward, until}
use Rattle.c_tree.specs.declared.rows.Program.{Program}
use Rattle.c_source.specs.Control.{State}
use Rattle.c_source.specs.Source.{step}
use Rattle.c_sound.specs.Shapes.{CourseKeepsShapes}
use Rattle.c_sound.proofs.Ready.{Good}
use Rattle.c_sound.proofs.Fine.{Fine}
use Rattle.c_sound.proofs.Steps.{ShapedFunction, step_fine}

counted_course : (c : ℕ) (o : Course State) → CourseKeepsShapes o → CourseKeepsShapes (counted c o)
counted_course c (Going d s) k = tt
counted_course c (Comes d (Stopped q s)) k = tt
counted_course c (Comes d (Exited v s)) k = tt
counted_course c (Comes d (Failed (Reason u))) k = tt
counted_course c (Comes d (Failed Stale)) k = tt
counted_course c (Comes d (Failed IllTyped)) k = k

module _ (p : Program) (bodies : (g : ℕ) → ShapedFunction p g (slice_get p.functions g)) (stops : ℕ → Bool) where
  passing_course : (b : Bool) (q c : ℕ) (s : State) (go : State → Course State) → CourseKeepsShapes (go s) → CourseKeepsShapes (passing State (step p) b q c s go)
  passing_course true q c s go k = tt
  passing_course false q c s go k = counted_course c (go s) k

  onward_course : (n : Next State) (go : State → Course State) → Fine p n → ((s : State) → Good p s → CourseKeepsShapes (go s)) → CourseKeepsShapes (onward State (step p) stops n go)
  onward_course (Goes c s) go f k = counted_course c (go s) (k s f)
  onward_course (Passes q c s) go f k = passing_course (stops q) q c s go (k s f)
  onward_course (Exits v c s) go f k = tt
  onward_course (Undefined (Reason u)) go f k = tt
  onward_course (Undefined Stale) go f k = tt
  onward_course (Undefined IllTyped) go f k = f

  pub courses_keep : (n : ℕ) (s : State) → Good p s → CourseKeepsShapes (until State (step p) stops n s)
  courses_keep zero s g = tt
  courses_keep (suc n) s g = onward_course (step p s) (until State (step p) stops n) (step_fine p bodies s g) (courses_keep n)
