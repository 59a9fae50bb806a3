-- What a declarator declares, from its `*`, its bounds and the declarator in parentheses.
use Rattle.std.proofs.Common.{◌≡◌, ◌<◌, ℕ, suc, List, [], ◌∷◌, length, drop, slice_index_or, ◌∙◌, sym, refl, ap, subst, Result, Ok, Err, Option, Some, None}
use Rattle.std.proofs.Math.Seq.{drop-cons}
use Rattle.c_trees.specs.Expressions.{Tree, Stars, Around, Bounded, Unbounded, behind_stars, with_bounds}
use Rattle.c_tree.specs.declared.types.CType.{CType}
use Rattle.c_typing.specs.Plain.{Plain, plain}
use Rattle.c_judge.specs.declared.part.Part.{Part}
use Rattle.c_judge.specs.declared.fault.Fault.{Fault}
use Rattle.c_judge.specs.Scope.{Scope, defs_of}
use Rattle.c_judge.specs.Answers.{Answer, Known, Broken, ◌then◌}
use Rattle.c_judge.specs.Places.{place_of}
use Rattle.c_judge.specs.Pairs.{paired, without_bound}
use Rattle.c_judge.specs.Parts.{judged_of}
use Rattle.c_judge.specs.Judgement.{judged, bounded, within, declared, pointers, stars_of}
use Rattle.c_judge.specs.Judges.{Judges, Denotes, Gives, IsFault}
use Rattle.c_judge.specs.Bounds.{one_bound, all_bounds}
use Rattle.c_judge.proofs.Faults.{then_fails, then_gives, two_fails, two_known, paired_both, judges_gives}
use Rattle.c_judge.proofs.Made.{there}

module _ (v : Scope) (at : ℕ) where
  pub within_bounds : (d : Tree) (bs : List (Option Tree)) (t : Answer Plain) → within v at (with_bounds d bs) t ≡ within v at d (all_bounds v at bs t)
  within_bounds d [] t = refl
  within_bounds d (None ∷ bs) t = within_bounds (Unbounded d) bs t
  within_bounds d (Some e ∷ bs) t = within_bounds (Bounded d e) bs t

  stars_behind : (d : Tree) (bs : List (Option Tree)) → stars_of (with_bounds d bs) ≡ stars_of d
  stars_behind d [] = refl
  stars_behind d (None ∷ bs) = stars_behind (Unbounded d) bs
  stars_behind d (Some e ∷ bs) = stars_behind (Bounded d e) bs

  -- first the `*`, then the bounds, then what is inside
  declared_by : (d : Tree) (bs : List (Option Tree)) (t : Answer Plain) → declared v at (with_bounds d bs) t ≡ within v at d (all_bounds v at bs (◌then◌ t (pointers (defs_of v) at (stars_of d))))
  declared_by d bs t = within_bounds d bs _ ∙ ap (λ n. within v at d (all_bounds v at bs (◌then◌ t (pointers (defs_of v) at n)))) (stars_behind d bs)

  pub declared_none : (n : ℕ) (bs : List (Option Tree)) (j : Answer Plain) (r : Result CType Fault) → Denotes (all_bounds v at bs (◌then◌ j (pointers (defs_of v) at n))) r → Denotes (declared v at (with_bounds (Stars n) bs) j) r
  declared_none n bs j r h = subst (λ w. Gives plain w r) (sym (declared_by (Stars n) bs j)) h

  pub declared_some : (n : ℕ) (d : Tree) (bs : List (Option Tree)) (j : Answer Plain) (r : Result CType Fault) → Denotes (declared v at d (all_bounds v at bs (◌then◌ j (pointers (defs_of v) at n)))) r → Denotes (declared v at (with_bounds (Around n d) bs) j) r
  declared_some n d bs j r h = subst (λ w. Gives plain w r) (sym (declared_by (Around n d) bs j)) h

  -- one bound more in front
  pub bounds_more : (bs : List (Option Tree)) (i : ℕ) (d : Option Tree) (j : Answer Plain) → i < length bs → all_bounds v at (drop i bs) j ≡ one_bound v at (slice_index_or bs i d) (all_bounds v at (drop (suc i) bs) j)
  bounds_more bs i d j h = ap (λ cs. all_bounds v at cs j) (drop-cons bs i d h)

  pub bound_judges : (e : Tree) (j : Answer Plain) (rt : Result CType Fault) (rx : Result Part Fault) (t : CType) (x : Part) (r : Result CType Fault) → Denotes j rt → Judges v e rx → paired rt rx ≡ Ok (t, x)
      → Denotes (bounded (defs_of v) at (place_of e).at (plain t) (judged_of x)) r → Denotes (one_bound v at (Some e) j) r
  bound_judges e j rt rx t x r h k p m =
      let two_there = paired_both rt rx (t, x) p in
      let o = (there v e rx x k two_there.1).0 in
      let i : j ≡ Known (plain t) = subst (Gives plain j) two_there.0 h in
      subst (λ w. Gives plain w r) (sym (two_known (bounded (defs_of v) at (place_of e).at) j (judged v e) _ _ i o)) m

  pub bound_fails : (e : Tree) (j : Answer Plain) (rt : Result CType Fault) (rx : Result Part Fault) (f : Fault) → Denotes j rt → Judges v e rx → paired rt rx ≡ Err f → IsFault (one_bound v at (Some e) j) f
  bound_fails e j rt rx f h k p = two_fails (bounded (defs_of v) at (place_of e).at) plain judged_of j (judged v e) rt rx f h (judges_gives v e rx k) p

  pub unbounded_denotes : (j : Answer Plain) (rt : Result CType Fault) → Denotes j rt → Denotes (one_bound v at None j) (without_bound at rt)
  unbounded_denotes j (Ok t) h = then_gives j (plain t) (λ u. Broken 2 at) h
  unbounded_denotes j (Err f) h = then_fails j (λ u. Broken 2 at) f h

  pub declared_without : {B : Type 0} (f : B → Tree) (n : ℕ) (i : Option B) (bs cs : List (Option Tree)) (d : Tree) (j : Answer Plain) (r : Result CType Fault) → with_bounds (behind_stars f n i) bs ≡ d → i ≡ None → cs ≡ bs
      → Denotes (all_bounds v at cs (◌then◌ j (pointers (defs_of v) at n))) r → Denotes (declared v at d j) r
  declared_without f n i bs cs d j r w e k h =
      subst (λ x. Gives plain (declared v at x j) r) w (subst (λ o. Gives plain (declared v at (with_bounds (behind_stars f n o) bs) j) r) (sym e)
      (declared_none n bs j r (subst (λ ys. Gives plain (all_bounds v at ys (◌then◌ j (pointers (defs_of v) at n))) r) k h)))

  pub declared_with : {B : Type 0} (f : B → Tree) (n : ℕ) (i : Option B) (b : B) (bs cs : List (Option Tree)) (d e : Tree) (j : Answer Plain) (r : Result CType Fault) → with_bounds (behind_stars f n i) bs ≡ d → i ≡ Some b → e ≡ f b → cs ≡ bs
      → Denotes (declared v at e (all_bounds v at cs (◌then◌ j (pointers (defs_of v) at n)))) r → Denotes (declared v at d j) r
  declared_with f n i b bs cs d e j r w o q k h =
      subst (λ x. Gives plain (declared v at x j) r) w (subst (λ o. Gives plain (declared v at (with_bounds (behind_stars f n o) bs) j) r) (sym o)
      (declared_some n (f b) bs j r (subst (λ x. Gives plain (declared v at x (all_bounds v at bs (◌then◌ j (pointers (defs_of v) at n)))) r) q (subst (λ ys. Gives plain (declared v at e (all_bounds v at ys (◌then◌ j (pointers (defs_of v) at n)))) r) k h))))
