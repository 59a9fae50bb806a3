-- Declarators of parameters without a name.
use Rattle.std.proofs.Common.{arith, ◌≡◌, false, ◌==◌, ◌≤◌, ◌<◌, ◌+◌, ◌-◌, ℕ, List, [], ◌∷◌, ◌++◌, length, take, slice_index_or, refl, sym, ap, ◌∙◌, subst, Result, Option, Some, None}
use Rattle.std.proofs.lemmas.List.{take_more, length-take}
use Rattle.c_tree.specs.declared.types.CType.{CType}
use Rattle.c_typing.specs.Plain.{Plain, plain}
use Rattle.c_judge.specs.declared.fault.Fault.{Fault}
use Rattle.c_judge.specs.Answers.{Known, Broken, ◌then◌}
use Rattle.c_judge.specs.Judgement.{pointers, stars_of}
use Rattle.c_judge.specs.Judges.{Denotes, IsFault}
use Rattle.c_scope.specs.Environment.{Environment}
use Rattle.c_scope.specs.Declarators.{unnamed, unnamed_within}
use Rattle.c_scope.specs.Gathered.{open_bound, is_outermost}
use Rattle.c_scope.proofs.Thens.{gives, fails}
use Rattle.c_trees.specs.Expressions.{Tree, depth, behind_stars, with_bounds, bound_behind, Bounded, Unbounded, Stars, Around}

abbrev pub inner_depth : {B : Type 0} → (B → Tree) → Option B → ℕ
inner_depth value None = 0
inner_depth value (Some b) = depth (value b) + 1

depth_bounds : (d : Tree) (bs : List (Option Tree)) → depth d ≤ depth (with_bounds d bs)
depth_bounds d [] = omega arith
depth_bounds d (None ∷ bs) = let h = depth_bounds (Unbounded d) bs in omega (arith, h)
depth_bounds d (Some e ∷ bs) = let h = depth_bounds (Bounded d e) bs in omega (arith, h)

pub depth_inner : {B : Type 0} (value : B → Tree) (n : ℕ) (inner : Option B) (bs : List (Option Tree)) → inner_depth value inner ≤ depth (with_bounds (behind_stars value n inner) bs)
depth_inner value n None bs = depth_bounds (Stars n) bs
depth_inner value n (Some b) bs = depth_bounds (Around n (value b)) bs

-- the last bound
pub bounds_last : (d : Tree) (bs : List (Option Tree)) (b : Option Tree) → with_bounds d (bs ++ b ∷ []) ≡ bound_behind (with_bounds d bs) b
bounds_last d [] b = refl
bounds_last d (c ∷ bs) b = bounds_last (bound_behind d c) bs b

stars_more : (d : Tree) (bs : List (Option Tree)) → stars_of (with_bounds d bs) ≡ stars_of d
stars_more d [] = refl
stars_more d (None ∷ bs) = stars_more (Unbounded d) bs
stars_more d (Some e ∷ bs) = stars_more (Bounded d e) bs

stars_with : {B : Type 0} (value : B → Tree) (n : ℕ) (inner : Option B) (bs : List (Option Tree)) → stars_of (with_bounds (behind_stars value n inner) bs) ≡ n
stars_with value n None bs = stars_more (Stars n) bs
stars_with value n (Some b) bs = stars_more (Around n (value b)) bs

module _ (v : Environment) (at : ℕ) where
  -- a bound that is not written is the outermost one, or none can be
  not_first : (d : Tree) (b : Option Tree) (bs : List (Option Tree)) (t : Plain) → unnamed_within v at (Unbounded (with_bounds (bound_behind d b) bs)) t ≡ Broken 2 at
  not_first d None [] t = refl
  not_first d (Some e) [] t = refl
  not_first d b (c ∷ bs) t = not_first (bound_behind d b) c bs t

  open_within : {B : Type 0} (value : B → Tree) (n : ℕ) (inner : Option B) (bs : List (Option Tree)) (t : Plain)
      → unnamed_within v at (Unbounded (with_bounds (behind_stars value n inner) bs)) t ≡ open_bound v at (is_outermost (length bs) inner) t
  open_within value n None [] t = refl
  open_within value n (Some b) [] t = refl
  open_within value n None (b ∷ bs) t = let e : (length (b ∷ bs) == 0) ≡ false = grind arith in not_first (Stars n) b bs t ∙ sym (ap (λ x. open_bound v at x t) e)
  open_within value n (Some d) (b ∷ bs) t = not_first (Around n (value d)) b bs t

  -- the last of the bounds that are left
  pub last_within : (base : Tree) (bs : List (Option Tree)) (i : ℕ) (d b : Option Tree) (t : Plain) → 0 < i → i ≤ length bs → slice_index_or bs (i - 1) d ≡ b
      → unnamed_within v at (with_bounds base (take i bs)) t ≡ unnamed_within v at (bound_behind (with_bounds base (take (i - 1) bs)) b) t
  last_within base bs i d b t h k e =
      let n : i ≡ (i - 1) + 1 = omega (arith, h) in
      ap (λ x. unnamed_within v at x t) (ap (λ m. with_bounds base (take m bs)) n ∙ (ap (with_bounds base) (take_more bs (i - 1) d (omega (arith, h, k)))
      ∙ (bounds_last base (take (i - 1) bs) _ ∙ ap (bound_behind (with_bounds base (take (i - 1) bs))) e)))

  pub open_last : {B : Type 0} (value : B → Tree) (n : ℕ) (inner : Option B) (bs : List (Option Tree)) (i : ℕ) (d : Option Tree) (t : Plain) → 0 < i → i ≤ length bs → slice_index_or bs (i - 1) d ≡ None
      → unnamed_within v at (with_bounds (behind_stars value n inner) (take i bs)) t ≡ open_bound v at (is_outermost (i - 1) inner) t
  open_last value n inner bs i d t h k e =
      let l : length (take (i - 1) bs) ≡ i - 1 = omega (arith, h, k, length-take (i - 1) bs) in
      last_within (behind_stars value n inner) bs i d None t h k e ∙ (open_within value n inner (take (i - 1) bs) t ∙ ap (λ m. open_bound v at (is_outermost m inner) t) l)

  unnamed_is : {B : Type 0} (value : B → Tree) (n : ℕ) (inner : Option B) (bs : List (Option Tree)) (t : Plain)
      → unnamed v at (with_bounds (behind_stars value n inner) bs) t ≡ ◌then◌ (pointers v.defs at n t) (unnamed_within v at (with_bounds (behind_stars value n inner) bs))
  unnamed_is value n inner bs t = ap (λ m. ◌then◌ (pointers v.defs at m t) (unnamed_within v at (with_bounds (behind_stars value n inner) bs))) (stars_with value n inner bs)

  pub unnamed_gives : {B : Type 0} (value : B → Tree) (n : ℕ) (inner : Option B) (bs : List (Option Tree)) (t u : Plain) (r : Result CType Fault) → pointers v.defs at n t ≡ Known u
      → Denotes (unnamed_within v at (with_bounds (behind_stars value n inner) bs) u) r → Denotes (unnamed v at (with_bounds (behind_stars value n inner) bs) t) r
  unnamed_gives value n inner bs t u r h k = subst (λ j. Denotes j r) (sym (unnamed_is value n inner bs t)) (gives plain (pointers v.defs at n t) u (unnamed_within v at (with_bounds (behind_stars value n inner) bs)) r h k)

  pub unnamed_fails : {B : Type 0} (value : B → Tree) (n : ℕ) (inner : Option B) (bs : List (Option Tree)) (t : Plain) (f : Fault) → IsFault (pointers v.defs at n t) f
      → IsFault (unnamed v at (with_bounds (behind_stars value n inner) bs) t) f
  unnamed_fails value n inner bs t f h = subst (λ j. IsFault j f) (sym (unnamed_is value n inner bs t)) (fails (pointers v.defs at n t) (unnamed_within v at (with_bounds (behind_stars value n inner) bs)) f h)
