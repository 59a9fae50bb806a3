-- The bounds of an array of arrays.
use Rattle.std.specs.Prelude.{ℕ, List, [], ◌∷◌, Option, Some, None}
use Rattle.c_trees.specs.Expressions.{Tree}
use Rattle.c_typing.specs.Plain.{Plain}
use Rattle.c_judge.specs.Scope.{Scope, defs_of}
use Rattle.c_judge.specs.Answers.{Answer, Broken, two, ◌then◌}
use Rattle.c_judge.specs.Places.{place_of}
use Rattle.c_judge.specs.Judgement.{judged, bounded}

abbrev pub one_bound : Scope → (at : ℕ) → Option Tree → Answer Plain → Answer Plain
one_bound v at None t = t then λ u. Broken 2 at
one_bound v at (Some e) t = two (bounded (defs_of v) at (place_of e).at) t (judged v e)

-- from the last to the first
abbrev pub all_bounds : Scope → (at : ℕ) → List (Option Tree) → Answer Plain → Answer Plain
all_bounds v at [] t = t
all_bounds v at (b ∷ bs) t = one_bound v at b (all_bounds v at bs t)
