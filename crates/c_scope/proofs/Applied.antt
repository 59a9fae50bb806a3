-- A function's declarator with its parameters.
use Rattle.std.proofs.Common.{arith, ◌≡◌, ◌<◌, ◌+◌, ℕ, zero, suc, false, List, [], ◌∷◌, length, refl, ap, ◌∙◌, slice_index_or}
use Rattle.c_lex.specs.declared.token.Place.{Place}
use Rattle.c_trees.specs.Declarators.{DeclaratorTree, Function, Taking, begins, depth, with_parameters}
use Rattle.c_typing.specs.Plain.{Plain}
use Rattle.c_judge.specs.Answers.{Answer, Known, Unknown, Broken, ◌then◌}
use Rattle.c_scope.specs.Environment.{Environment}
use Rattle.c_scope.specs.Declarators.{name_in, is_name, is_function, shape, parameters, taken, function, with_one}
use Rattle.c_scope.specs.Gathered.{gathered}

name_more : (x : DeclaratorTree) (ps : List DeclaratorTree) → name_in (with_parameters x ps) ≡ name_in x
name_more x [] = refl
name_more x (p ∷ ps) = name_more (Taking x p) ps

pub name_with : (at : Place) (d : DeclaratorTree) (ps : List DeclaratorTree) → name_in (with_parameters (Function at d) ps) ≡ name_in d
name_with at d ps = name_more (Function at d) ps

no_name_more : (x p : DeclaratorTree) (ps : List DeclaratorTree) → is_name (with_parameters (Taking x p) ps) ≡ false
no_name_more x p [] = refl
no_name_more x p (q ∷ ps) = no_name_more (Taking x p) q ps

pub no_name_with : (at : Place) (d : DeclaratorTree) (ps : List DeclaratorTree) → is_name (with_parameters (Function at d) ps) ≡ false
no_name_with at d [] = refl
no_name_with at d (p ∷ ps) = no_name_more (Function at d) p ps

begins_more : (x : DeclaratorTree) (ps : List DeclaratorTree) → begins (with_parameters x ps) ≡ begins x
begins_more x [] = refl
begins_more x (p ∷ ps) = begins_more (Taking x p) ps

pub begins_with : (at : Place) (d : DeclaratorTree) (ps : List DeclaratorTree) → begins (with_parameters (Function at d) ps) ≡ at
begins_with at d ps = begins_more (Function at d) ps

-- ---- how deep it is

abbrev pub depths : List DeclaratorTree → ℕ
depths [] = 0
depths (p ∷ ps) = depth p + 1 + depths ps

depth_more : (d : DeclaratorTree) (ps : List DeclaratorTree) → depth (with_parameters d ps) ≡ depth d + depths ps
depth_more d [] = omega arith
depth_more d (p ∷ ps) = omega (arith, depth_more (Taking d p) ps)

pub depth_function : (at : Place) (d : DeclaratorTree) (ps : List DeclaratorTree) → depth (with_parameters (Function at d) ps) ≡ depth d + 1 + depths ps
depth_function at d ps = depth_more (Function at d) ps

pub depth_at : (ps : List DeclaratorTree) (i : ℕ) (d : DeclaratorTree) → i < length ps → depth (slice_index_or ps i d) < depths ps
depth_at [] i d h = absurd (omega arith)
depth_at (p ∷ ps) zero d h = omega arith
depth_at (p ∷ ps) (suc i) d h = omega (arith, depth_at ps i d (omega arith))

-- ---- what it declares

then_then : {A B C : Type 0} (a : Answer A) (f : A → Answer B) (g : B → Answer C) → ◌then◌ (◌then◌ a f) g ≡ ◌then◌ a (λ x. ◌then◌ (f x) g)
then_then (Known x) f g = refl
then_then (Unknown name) f g = refl
then_then (Broken r at) f g = refl

then_known : {A : Type 0} (a : Answer A) → a ≡ ◌then◌ a (λ x. Known x)
then_known (Known x) = refl
then_known (Unknown name) = refl
then_known (Broken r at) = refl

module _ (v : Environment) where
  parameters_with : (x : DeclaratorTree) (ps : List DeclaratorTree) → parameters v (with_parameters x ps) ≡ ◌then◌ (parameters v x) (λ qs. gathered v qs ps)
  parameters_with x [] = then_known (parameters v x)
  parameters_with x (p ∷ ps) = parameters_with (Taking x p) ps ∙ then_then (parameters v x) (λ qs. ◌then◌ (taken v p) (with_one qs (begins p).at)) (λ qs. gathered v qs ps)

  shape_taking : (x p : DeclaratorTree) (ps : List DeclaratorTree) (t : Plain) → shape v (with_parameters (Taking x p) ps) t ≡ ◌then◌ (parameters v (with_parameters (Taking x p) ps)) (function (is_function x) (begins x).at t)
  shape_taking x p [] t = refl
  shape_taking x p (q ∷ ps) t = shape_taking (Taking x p) q ps t

  shape_applied : (at : Place) (d : DeclaratorTree) (ps : List DeclaratorTree) (t : Plain) → shape v (with_parameters (Function at d) ps) t ≡ ◌then◌ (parameters v (with_parameters (Function at d) ps)) (function (is_name d) at.at t)
  shape_applied at d [] t = refl
  shape_applied at d (p ∷ ps) t = shape_taking (Function at d) p ps t

  pub shape_function : (at : Place) (d : DeclaratorTree) (ps : List DeclaratorTree) (t : Plain) → shape v (with_parameters (Function at d) ps) t ≡ ◌then◌ (gathered v [] ps) (function (is_name d) at.at t)
  shape_function at d ps t = shape_applied at d ps t ∙ ap (λ a. ◌then◌ a (function (is_name d) at.at t)) (parameters_with (Function at d) ps)
