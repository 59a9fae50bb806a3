-- The parameters of a function's declarator, one after another.
use Rattle.std.specs.Prelude.{ℕ, Bool, false, ◌==◌, if◌then◌else◌, List, [], ◌∷◌, Option, Some, None}
use Rattle.c_trees.specs.Declarators.{DeclaratorTree, begins}
use Rattle.c_typing.specs.Plain.{Plain}
use Rattle.c_judge.specs.Answers.{Answer, Known, Broken, ◌then◌}
use Rattle.c_scope.specs.Environment.{Environment}
use Rattle.c_scope.specs.Declarators.{Parameter, taken, with_one, unbounded}

-- those behind these
abbrev pub gathered : Environment → List Parameter → List DeclaratorTree → Answer (List Parameter)
gathered v ps [] = Known ps
gathered v ps (d ∷ ds) = (taken v d then with_one ps (begins d).at) then λ more. gathered v more ds

-- a bound that is not written, which only the outermost one may be
abbrev pub open_bound : Environment → (at : ℕ) → Bool → Plain → Answer Plain
open_bound v at outermost t = if outermost then unbounded v at t else Broken 2 at

-- whether so many bounds and what stands before them leave a bound the outermost
abbrev pub is_outermost : {B : Type 0} → ℕ → Option B → Bool
is_outermost left None = left == 0
is_outermost left (Some b) = false
