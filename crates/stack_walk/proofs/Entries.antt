-- What the entries of `/saved` say.
use Rattle.std.proofs.Common.{◌≡◌, ◌∙◌, refl, sym, ap, subst, ℕ, List, Option, Some, None, Result, Ok, Err}
use Rattle.ps_step.specs.Results.{◌>>=◌}
use Rattle.frame_bytes.specs.declared.frame.Frame.{Frame}
use Rattle.table_model.specs.Reading.{Walked}
use Rattle.table_model.specs.Frames.{Saved}
use Rattle.stack_walk.specs.Callers.{by_saved}

-- where all entries are as they should be, what doesn't ask them stays
pub frame_is : {A B : Type 0} (x : Walked (List Saved)) (f : List Saved → B) (v : B) (k : Walked A) → by_saved x f ≡ Ok v → (x >>= λ saved. k) ≡ k
frame_is (Ok saved) f v k e = refl
frame_is (Err l) f v k e = cc

pub caller_is : {A B : Type 0} (x : Walked (List Saved)) (f : List Saved → B) (v : B) (k : B → Walked A) → by_saved x f ≡ Ok v → (x >>= λ saved. k (f saved)) ≡ k v
caller_is (Ok saved) f v k e = let same : f saved ≡ v = cc in ap k same
caller_is (Err l) f v k e = cc
