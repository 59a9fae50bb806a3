-- What a declarator declares is written within the limits of types (C90 6.5.4).
use Rattle.std.proofs.Common.{◌≡◌, ◌≤◌, ◌<◌, refl, sym, subst, arith, ℕ, suc, ◌+◌, Bool, true, false, ◌&&◌, ◌||◌, true≢false, List, [], ◌∷◌, ◌++◌, length, Some, None, bytes_eq, if◌then◌else◌}
use Rattle.std.specs.Prelude.{nat_le}
use Rattle.std.specs.List.{AllByRecursion}
use Rattle.c_trees.specs.declared.expression.Spec.{Spec}
use Rattle.c_trees.specs.declared.expression.Spec.TheVariants as spec
use Rattle.c_trees.specs.Expressions.{Tree}
use Rattle.c_trees.specs.Declarators.{DeclaratorTree, Name, Parens, Pointers, Array as Bounds, Function as Applied, Taking, Named, Unnamed, begins}
use Rattle.c_tree.specs.declared.types.StructDef.{StructDef}
use Rattle.c_typing.specs.Plain.{Plain}
use Rattle.c_typing.specs.Declarations.{is_named, is_result}
use Rattle.c_defs.specs.Depths.{deepest}
use Rattle.c_defs.specs.Numbers.{number_from}
use Rattle.c_typing.specs.declared.constant.Constant.{Constant}
use Rattle.c_typing.specs.declared.constant.Constant.TheVariants.{Variable, Undefined, Number}
use Rattle.c_judge.specs.Scope.{or_else_number}
use Rattle.c_judge.specs.Answers.{Known, Broken, ◌then◌}
use Rattle.c_judge.specs.Places.{place_of}
use Rattle.c_judge.specs.Judgement.{judged, spec_type, pointers, array, bound}
use Rattle.c_scope.specs.Environment.{Environment, scope_of, struct_of}
use Rattle.c_scope.specs.Declarators.{Shape, Object, Function, Parameter, is_name, is_function, unbounded, constant, bounded, function, unsized, shape, parameters, taken, with_one}
use Rattle.c_mentions.specs.Tags.{in_spec}
use Rattle.c_accepted.proofs.Growth.{both_parts}
use Rattle.c_accepted.proofs.Known.{never, one_known, then_known, if_known}
use Rattle.c_accepted.proofs.Written.{IsNamed, pointers_named, array_named}

-- ---- tags

abbrev pub AreTags : List (List ℕ) → List (List ℕ) → Type 0
AreTags tags ts = AllByRecursion (λ t. is_named tags t ≡ true) ts

pub both_tags : (tags xs ys : List (List ℕ)) → AreTags tags (xs ++ ys) → AreTags tags xs × AreTags tags ys
both_tags tags [] ys h = (tt, h)
both_tags tags (x ∷ xs) ys h = let q = both_tags tags xs ys h.1 in ((h.0, q.0), q.1)

numbered : (k n : ℕ) (tags : List (List ℕ)) (tag : List ℕ) → is_named tags tag ≡ true → or_else_number k (number_from n tags tag) < n + length tags
numbered k n [] tag h = absurd (true≢false (sym h))
numbered k n (t ∷ ts) tag h = by (bytes_eq t tag) h (λ e. numbered k (suc n) ts tag e)
  where
    by : (b : Bool) → b || is_named ts tag ≡ true → (is_named ts tag ≡ true → or_else_number k (number_from (suc n) ts tag) < suc n + length ts) → or_else_number k (if b then Some n else number_from (suc n) ts tag) < n + suc (length ts)
    by true e w = omega arith
    by false e w = let q = w e in omega (arith, q)

pub tag_within : (tags : List (List ℕ)) (tag : List ℕ) → is_named tags tag ≡ true → struct_of tags tag < length tags
tag_within tags tag h = let q = numbered (length tags) 0 tags tag h in omega (arith, q)

pub spec_named : (v : Environment) (q : Spec) → length v.defs ≡ length v.tags → AreTags v.tags (in_spec q) → IsNamed v.defs (spec_type (scope_of v) q)
unfolding deepest
spec_named v spec.Char l h = (tt, refl)
spec_named v spec.Int l h = (tt, refl)
spec_named v spec.Unsigned l h = (tt, refl)
spec_named v spec.UnsignedInt l h = (tt, refl)
spec_named v spec.Void l h = (tt, refl)
spec_named v (spec.Struct tag) l h = let k = tag_within v.tags tag h.0 in let e : struct_of v.tags tag < length v.defs = omega (arith, k, l) in (e, tt)

-- ---- declarators

abbrev pub IsShaped : List StructDef → Shape → Type 0
IsShaped defs (Object t) = IsNamed defs t
IsShaped defs (Function t ps) = IsNamed defs t × (is_result t ≡ true)

at_most : (n k : ℕ) → nat_le n k ≡ true → n ≤ k
at_most n k h = grind arith

bound_most : (at : ℕ) (c : Constant) (n : ℕ) → bound at c ≡ Known n → n ≤ 1048576
bound_most at Variable n h = never (Broken 2 at) n (λ x. x) h
bound_most at Undefined n h = never (Broken 2 at) n (λ x. x) h
bound_most at (Number m) n h =
    let q = if_known (nat_le 1 m && nat_le m 1048576) m n 2 at h in
    subst (λ k. k ≤ 1048576) q.1 (at_most m 1048576 (both_parts (nat_le 1 m) (nat_le m 1048576) q.0).1)

module _ (v : Environment) where
  bounded_named : (e : Tree) (t u : Plain) → IsNamed v.defs t → bounded v e t ≡ Known u → IsNamed v.defs u
  bounded_named e t u m h =
      let (c, q, l) = then_known (constant (judged (scope_of v) e)) (λ c. bound (place_of e).at c then array v.defs (place_of e).at t) u h in
      let (n, p, k) = then_known (bound (place_of e).at c) (array v.defs (place_of e).at t) u l in
      array_named v.defs (place_of e).at t u n m.0 (bound_most (place_of e).at c n p) k

  unsized_named : (b : Bool) (at : ℕ) (t : Plain) (x : Shape) → IsNamed v.defs t → unsized v b at t ≡ Known x → IsShaped v.defs x
  unsized_named true at t x m h =
      let (u, e, k) = then_known (unbounded v at t) (λ u. Known (Object u)) x h in
      subst (IsShaped v.defs) (one_known (Object u) x k) (array_named v.defs at t u 0 m.0 (omega arith) e)
  unsized_named false at t x m h = never (Broken 2 at) x (λ k. k) h

  function_named : (b : Bool) (at : ℕ) (t : Plain) (ps : List Parameter) (x : Shape) → IsNamed v.defs t → function b at t ps ≡ Known x → IsShaped v.defs x
  function_named b at t ps x m h =
      let q = if_known (b && is_result t) (Function t ps) x 9 at h in
      subst (IsShaped v.defs) q.1 (m, (both_parts b (is_result t) q.0).1)

  pub shape_named : (d : DeclaratorTree) (t : Plain) (x : Shape) → IsNamed v.defs t → shape v d t ≡ Known x → IsShaped v.defs x
  shape_named (Name at text) t x m h = subst (IsShaped v.defs) (one_known (Object t) x h) m
  shape_named (Parens at d) t x m h = shape_named d t x m h
  shape_named (Pointers at n d) t x m h =
      let (u, e, k) = then_known (pointers v.defs at.at n t) (λ u. shape v d u) x h in
      shape_named d u x (pointers_named v.defs at.at n t u m e) k
  shape_named (Bounds at d (Some e)) t x m h =
      let (u, p, k) = then_known (bounded v e t) (λ u. shape v d u) x h in
      shape_named d u x (bounded_named e t u m p) k
  shape_named (Bounds at d None) t x m h = unsized_named (is_name d) at.at t x m h
  shape_named (Applied at d) t x m h = function_named (is_name d) at.at t [] x m h
  shape_named (Taking d p) t x m h =
      let (ps, e, k) = then_known (parameters v d then λ ps. taken v p then with_one ps (begins p).at) (function (is_function d) (begins d).at t) x h in
      function_named (is_function d) (begins d).at t ps x m k
  shape_named (Named at r s d) t x m h = never (Broken 9 0) x (λ k. k) h
  shape_named (Unnamed at s d) t x m h = never (Broken 9 0) x (λ k. k) h
