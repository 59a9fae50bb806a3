-- A bound that an initializer sets is within the limits: a complete type has at least one byte.
use Rattle.std.proofs.Common.{◌≡◌, ◌≤◌, refl, sym, ap, ◌∙◌, subst, arith, ℕ, zero, suc, ◌+◌, ◌*◌, Bool, true, false, ◌&&◌, true≢false, List, [], ◌∷◌, Option, Some, None, if◌then◌else◌}
use Rattle.std.specs.Prelude.{slice_get, nat_le}
use Rattle.std.specs.Int.{next_multiple_of}
use Rattle.std.specs.List.{AllByRecursion}
use Rattle.c_trees.specs.Initializers.{InitialTree}
use Rattle.c_trees.specs.declared.declaration.Storage.{Storage}
use Rattle.c_tree.specs.declared.types.StructDef.{StructDef}
use Rattle.c_tree.specs.declared.types.Member.{Member}
use Rattle.c_tree.specs.Layout as layout
use Rattle.c_tree.specs.Layout.{members_of, members_in, size_in, alignment_of, alignment_of_members, AreLaid}
use Rattle.c_typing.specs.Plain.{Plain, Char, Int, Unsigned, Void, Pointer, Array, Struct, is_empty, is_complete}
use Rattle.c_typing.specs.Expressions as typing
use Rattle.c_typing.specs.Expressions.{Denoted}
use Rattle.c_defs.specs.Depths.{deepest, is_within, are_within}
use Rattle.c_typing.specs.Values.{size_of}
use Rattle.c_judge.specs.Answers.{Known, Broken, ◌then◌}
use Rattle.c_judge.specs.Judgement.{limited}
use Rattle.c_judge.proofs.Sizes.{size_of_plain}
use Rattle.c_scope.specs.Environment.{Environment}
use Rattle.c_scope.specs.Declarators.{Shape, Object, Function, denoted}
use Rattle.c_initial.specs.Initials.{bound_set}
use Rattle.c_linkage.specs.Types.{object_type, in_limits, may_stand, is_extern, standing}
use Rattle.c_accepted.specs.Grown.{ctype_of, IsMade, IsHeld}
use Rattle.c_accepted.proofs.Completed.{IsSound, AreSound}
use Rattle.c_accepted.proofs.Growth.{both_parts, not_empty}
use Rattle.c_accepted.proofs.Known.{never, one_known, then_known, if_known}
use Rattle.c_accepted.proofs.Written.{IsNamed}
use Rattle.c_accepted.proofs.Shapes.{IsShaped}
use Rattle.c_accepted.proofs.Types.{IsDenotedIn}

-- ---- sizes

more_than : (x y : ℕ) → x ≤ next_multiple_of x y
more_than x y = omega arith

ends_behind : (defs : List StructDef) (from : ℕ) (ms : List Member) (end : ℕ) → AreLaid defs from ms end → from ≤ end
ends_behind defs from [] end h = omega (arith, h)
ends_behind defs from (m ∷ ms) end h =
    let a = ends_behind defs (m.at + layout.size_of defs m.ctype) ms end h.1 in
    let b = more_than from (alignment_of defs m.ctype) in
    let c : next_multiple_of from (alignment_of defs m.ctype) ≤ m.at = let e = h.0 in omega (arith, e) in
    omega (arith, a, b, c)

at_least : (n k : ℕ) → nat_le n k ≡ true → n ≤ k
at_least n k h = grind arith

times : (n k : ℕ) → 1 ≤ n → 1 ≤ k → 1 ≤ n * k
times n k h g = grind arith

more_times : (n k : ℕ) → 1 ≤ k → n ≤ n * k
more_times n (suc k) h = omega arith
more_times n zero h = absurd (omega (arith, h))

module _ (defs : List StructDef) (a : AreSound defs) where
  members_size : (n : ℕ) (d : StructDef) (ms : List Member) → ms ≡ d.members → IsSound defs d → is_empty ms ≡ false → are_within (is_within defs n) ms ≡ true
      → ((t : Plain) → is_within defs n t ≡ true → is_complete defs t ≡ true → 1 ≤ size_of defs t) → 1 ≤ d.size
  members_size n d [] e s f w one = absurd (true≢false f)
  members_size n d (m ∷ ms) e s f w one =
      let held : AllByRecursion (IsHeld defs) (m ∷ ms) = subst (AllByRecursion (IsHeld defs)) (sym e) s.held in
      let laid : AreLaid defs 0 (m ∷ ms) s.laid.0 = subst (λ l. AreLaid defs 0 l s.laid.0) (sym e) s.laid.1 in
      let here : 1 ≤ size_of defs (ctype_of m) = one (ctype_of m) (both_parts (is_within defs n (ctype_of m)) (are_within (is_within defs n) ms) w).0 held.0.1 in
      let same : layout.size_of defs m.ctype ≡ size_of defs (ctype_of m) = size_of_plain defs m.ctype in
      let far = ends_behind defs (m.at + layout.size_of defs m.ctype) ms s.laid.0 laid.1 in
      let up = more_than s.laid.0 (alignment_of_members (alignment_of defs) d.members) in
      let size = s.laid.2 in
      omega (arith, here, same, far, up, size)

  row_size : (n s : ℕ) (o : Option StructDef) → slice_get defs s ≡ o → is_empty (members_in o) ≡ false → are_within (is_within defs n) (members_in o) ≡ true
      → ((t : Plain) → is_within defs n t ≡ true → is_complete defs t ≡ true → 1 ≤ size_of defs t) → 1 ≤ size_in o
  row_size n s None e f w one = absurd (true≢false f)
  row_size n s (Some d) e f w one = members_size n d d.members refl (a s d e) f w one

  -- a complete type has at least one byte
  pub one_byte : (n : ℕ) (t : Plain) → is_within defs n t ≡ true → is_complete defs t ≡ true → 1 ≤ size_of defs t
  one_byte zero t w c = absurd (true≢false (sym w))
  one_byte (suc n) Char w c = omega arith
  one_byte (suc n) Int w c = omega arith
  one_byte (suc n) Unsigned w c = omega arith
  one_byte (suc n) Void w c = absurd (true≢false (sym c))
  one_byte (suc n) (Pointer t) w c = omega arith
  one_byte (suc n) (Array t k) w c =
      let q = both_parts (nat_le 1 k) (is_complete defs t) c in
      times k (size_of defs t) (at_least 1 k q.0) (one_byte n t w q.1)
  one_byte (suc n) (Struct s) w c = row_size n s (slice_get defs s) refl (not_empty (is_empty (members_of defs s)) c) w (λ t x y. one_byte n t x y)

-- ---- what is declared

module _ (v : Environment) (a : AreSound v.defs) where
  within_limits : (at : ℕ) (t u : Plain) → limited v.defs at t ≡ Known u → (is_within v.defs deepest t ≡ true) × (nat_le (size_of v.defs t) 1048576 ≡ true)
  within_limits at t u h =
      both_parts (is_within v.defs deepest t) (nat_le (size_of v.defs t) 1048576) (if_known (is_within v.defs deepest t && nat_le (size_of v.defs t) 1048576) t u 1 at h).0

  complete_bound : (at : ℕ) (t u : Plain) (n : ℕ) → IsMade v.defs t → is_complete v.defs (Array t n) ≡ true → limited v.defs at (Array t n) ≡ Known u → IsNamed v.defs (Array t n)
  unfolding deepest
  complete_bound at t u n m c h =
      let q = both_parts (nat_le 1 n) (is_complete v.defs t) c in
      let w = within_limits at (Array t n) u h in
      let byte = one_byte v.defs a 63 t w.0 q.1 in
      let size : n * size_of v.defs t ≤ 1048576 = at_least (n * size_of v.defs t) 1048576 w.1 in
      let many = more_times n (size_of v.defs t) byte in
      ((m, q.1, omega (arith, size, many), size), w.0)

  -- a bound of 0 is none
  bound_named : (at : ℕ) (t u : Plain) (n : ℕ) → IsNamed v.defs (Array t 0) → in_limits v (Array t n) at ≡ Known u → IsNamed v.defs (Array t n)
  bound_named at t u zero m h = m
  bound_named at t u (suc n) m h = by (is_complete v.defs (Array t (suc n))) refl h
    where
      whole : is_complete v.defs (Array t (suc n)) ≡ true
      whole = ap (λ b. b && is_complete v.defs t) (let e : nat_le 1 (suc n) ≡ true = grind arith in e) ∙ m.0.1

      by : (b : Bool) → is_complete v.defs (Array t (suc n)) ≡ b → (if b then limited v.defs at (Array t (suc n)) else Known (Array t (suc n))) ≡ Known u → IsNamed v.defs (Array t (suc n))
      by true c k = complete_bound at t u (suc n) m.0.0 c k
      by false c k = absurd (true≢false (sym whole ∙ c))

  object_named : (at : ℕ) (t u : Plain) (i : Option InitialTree) → IsNamed v.defs t → in_limits v (object_type t i) at ≡ Known u → IsNamed v.defs (object_type t i)
  object_named at t u None m h = m
  object_named at (Array t zero) u (Some i) m h = bound_named at t u (bound_set (Array t zero) i) m h
  object_named at (Array t (suc n)) u (Some i) m h = m
  object_named at Char u (Some i) m h = m
  object_named at Int u (Some i) m h = m
  object_named at Unsigned u (Some i) m h = m
  object_named at Void u (Some i) m h = m
  object_named at (Pointer t) u (Some i) m h = m
  object_named at (Struct s) u (Some i) m h = m

  -- what a name at file scope denotes is within the limits
  pub standing_named : (s : Storage) (i : Option InitialTree) (at : ℕ) (y : Shape) (x : Denoted) → IsShaped v.defs y → standing v s i at y ≡ Known x → IsDenotedIn v.defs x
  standing_named s i at (Object t) x m h =
      let u = object_type t i in
      let (w, e, k) = then_known (in_limits v u at) (λ z. may_stand v (is_extern s) u at then λ y. Known (typing.Object u false)) x h in
      let (z, f, l) = then_known (may_stand v (is_extern s) u at) (λ y. Known (typing.Object u false)) x k in
      subst (IsDenotedIn v.defs) (one_known (typing.Object u false) x l) (object_named at t w i m e)
  standing_named s None at (Function t ps) x m h = subst (IsDenotedIn v.defs) (one_known (denoted false (Function t ps)) x h) m
  standing_named s (Some i) at (Function t ps) x m h = never (Broken 9 at) x (λ k. k) h
