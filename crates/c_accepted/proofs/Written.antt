-- A type that is written at a place of a file is within the limits of types in the whole program.
use Rattle.std.proofs.Common.{◌≡◌, ◌≤◌, ◌<◌, refl, sym, ap, ◌∙◌, subst, arith, ℕ, zero, suc, ◌*◌, Bool, true, false, ◌&&◌, ◌||◌, true≢false, List, [], ◌∷◌, length, map}
use Rattle.std.specs.Prelude.{nat_le, if◌then◌else◌}
use Rattle.std.specs.List.{AllByRecursion}
use Rattle.c_trees.specs.declared.expression.Spec.{Spec}
use Rattle.c_trees.specs.declared.expression.Spec.TheVariants as spec
use Rattle.c_trees.specs.Expressions.{Tree, Stars, Around, Bounded, Unbounded}
use Rattle.c_tree.specs.declared.types.CType.{CType}
use Rattle.c_tree.specs.declared.types.CType.TheVariants as ctype
use Rattle.c_tree.specs.declared.types.StructDef.{StructDef}
use Rattle.c_tree.specs.declared.types.Member.{Member}
use Rattle.c_tree.specs.Layout as layout
use Rattle.c_tree.specs.Layout.{members_of, IsWithin}
use Rattle.c_typing.specs.Plain.{Plain, Char, Int, Unsigned, Void, Pointer, Array, Struct, plain, is_struct, is_void, is_empty, is_complete}
use Rattle.c_typing.specs.Written.{IsFormed, IsWritten}
use Rattle.c_typing.specs.Expressions as typing
use Rattle.c_defs.specs.Depths.{deepest, is_within, are_within}
use Rattle.c_typing.specs.declared.constant.Constant.{Constant}
use Rattle.c_typing.specs.declared.constant.Constant.TheVariants.{Variable, Undefined, Number}
use Rattle.c_judge.specs.Scope.{Scope, defs_of}
use Rattle.c_typing.specs.Values.{size_of}
use Rattle.c_judge.specs.Answers.{Answer, Known, Broken, ◌then◌, two}
use Rattle.c_judge.specs.Places.{place_of}
use Rattle.c_judge.specs.Judgement.{Judged, limited, pointer, pointers, array, bound, bounded, spec_type, stars_of, starred, judged, within, declared}
use Rattle.c_judge.proofs.Sizes.{size_of_plain}
use Rattle.c_accepted.specs.Grown.{ctype_of, IsMade, IsHeld, Grows}
use Rattle.c_accepted.specs.Reads.{IsSpecRead}
use Rattle.c_accepted.proofs.Growth.{both_parts, not_empty, complete_grows, size_grows}
use Rattle.c_accepted.proofs.Known.{never, one_known, then_known, two_known, if_known}

-- ---- depths

or_grows : (a b c : Bool) → (a ≡ false → b ≡ true → c ≡ true) → a || b ≡ true → a || c ≡ true
or_grows true b c f h = refl
or_grows false b c f h = f refl h

and_true : (a b : Bool) → a ≡ true → b ≡ true → a && b ≡ true
and_true true b e f = f
and_true false b e f = e

all_of : (Plain → Bool) → List Plain → Bool
all_of f [] = true
all_of f (t ∷ ts) = f t && all_of f ts

as_all : (f : Plain → Bool) (ms : List Member) → are_within f ms ≡ all_of f (map ctype_of ms)
unfolding all_of
as_all f [] = refl
as_all f (m ∷ ms) = ap (λ b. f (ctype_of m) && b) (as_all f ms)

module _ (before behind : List StructDef) (g : Grows before behind) where
  hold : (f k : Plain → Bool) → ((t : Plain) → IsMade before t → is_complete before t ≡ true → f t ≡ true → k t ≡ true)
      → (ms : List Member) → AllByRecursion (IsHeld before) ms → are_within f ms ≡ true → are_within k ms ≡ true
  hold f k w [] a h = refl
  hold f k w (m ∷ ms) a h =
      let q = both_parts (f (ctype_of m)) (are_within f ms) h in
      and_true (k (ctype_of m)) (are_within k ms) (w (ctype_of m) a.0.0 a.0.1 q.0) (hold f k w ms a.1 q.1)

  -- a type that is made of complete structs is as deep as it was
  pub within_grows : (n : ℕ) (t : Plain) → IsMade before t → (is_struct t ≡ true → is_complete before t ≡ true) → is_within before n t ≡ true → is_within behind n t ≡ true
  within_grows zero t m c h = absurd (true≢false (sym h))
  within_grows (suc n) Char m c h = refl
  within_grows (suc n) Int m c h = refl
  within_grows (suc n) Unsigned m c h = refl
  within_grows (suc n) Void m c h = refl
  within_grows (suc n) (Pointer t) m c h =
      or_grows (is_struct t) (is_within before n t) (is_within behind n t) (λ e k. within_grows n t m.0 (λ f. absurd (true≢false (sym f ∙ e))) k) h
  within_grows (suc n) (Array t k) m c h = within_grows n t m.0 (λ f. m.1) h
  within_grows (suc n) (Struct s) m c h =
      as_all (is_within behind n) (members_of behind s) ∙ ap (all_of (is_within behind n)) (g.members s (not_empty (is_empty (members_of before s)) (c refl))) ∙
      sym (as_all (is_within behind n) (members_of before s)) ∙ hold (is_within before n) (is_within behind n) (λ t a b k. within_grows n t a (λ f. b) k) (members_of before s) (g.held s) h

each : (f : Plain → Bool) (P : CType → Type 0) → ((t : CType) → f (plain t) ≡ true → P t) → (ms : List Member) → are_within f ms ≡ true → AllByRecursion (λ m. P m.ctype) ms
each f P w [] h = tt
each f P w (m ∷ ms) h = let q = both_parts (f (plain m.ctype)) (are_within f ms) h in (w m.ctype q.0, each f P w ms q.1)

pub within_is : (defs : List StructDef) (n : ℕ) (u : CType) → is_within defs n (plain u) ≡ true → IsWithin defs n u
within_is defs zero u h = true≢false (sym h)
within_is defs (suc n) ctype.Char h = tt
within_is defs (suc n) ctype.Int h = tt
within_is defs (suc n) ctype.Unsigned h = tt
within_is defs (suc n) ctype.Void h = tt
within_is defs (suc n) (ctype.Pointer' b (ctype.Struct s)) h = tt
within_is defs (suc n) (ctype.Pointer' b t) h = within_is defs n t h
within_is defs (suc n) (ctype.Array' b t k) h = within_is defs n t h
within_is defs (suc n) (ctype.Struct s) h = each (is_within defs n) (IsWithin defs n) (λ t k. within_is defs n t k) (members_of defs s) h

-- ---- written types

-- within the largest depth, but for a struct, which is asked where it is completed
abbrev pub IsLimited : List StructDef → Plain → Type 0
IsLimited defs (Struct s) = Unit {0}
IsLimited defs t = is_within defs deepest t ≡ true

module _ (before behind : List StructDef) (g : Grows before behind) (structs : (n : ℕ) → n < length behind → IsWritten behind (ctype.Struct n)) where
  formed : (u : CType) → IsMade before (plain u) → IsFormed behind u
  formed ctype.Char m = tt
  formed ctype.Int m = tt
  formed ctype.Unsigned m = tt
  formed ctype.Void m = tt
  formed (ctype.Pointer' b t) m = (formed t m.0, m.1)
  formed (ctype.Array' b t n) m =
      let same : layout.size_of behind (ctype.Array' b t n) ≡ n * size_of before (plain t) = ap (λ k. n * k) (size_of_plain behind t ∙ size_grows before behind g (plain t) m.1) in
      (formed t m.0, complete_grows before behind g (plain t) m.1, m.2, subst (λ k. k ≤ 1048576) (sym same) m.3)
  formed (ctype.Struct s) m = let k : s < length behind = omega (arith, m, g.count) in (structs s k).1

  deep : (u : CType) → is_struct (plain u) ≡ false → IsMade before (plain u) → is_within before deepest (plain u) ≡ true → IsWritten behind u
  unfolding deepest
  deep u e m h = (within_is behind 64 u (within_grows before behind g 64 (plain u) m (λ f. absurd (true≢false (sym f ∙ e))) h), formed u m)

  pub written : (u : CType) → IsMade before (plain u) → IsLimited before (plain u) → IsWritten behind u
  written (ctype.Struct s) m h = let k : s < length behind = omega (arith, m, g.count) in structs s k
  written ctype.Char m h = deep ctype.Char refl m h
  written ctype.Int m h = deep ctype.Int refl m h
  written ctype.Unsigned m h = deep ctype.Unsigned refl m h
  written ctype.Void m h = deep ctype.Void refl m h
  written (ctype.Pointer' b t) m h = deep (ctype.Pointer' b t) refl m h
  written (ctype.Array' b t n) m h = deep (ctype.Array' b t n) refl m h

-- ---- what a type's name denotes

at_most : (n k : ℕ) → nat_le n k ≡ true → n ≤ k
at_most n k h = grind arith

pub unless_known : {A : Type 0} (b : Bool) (m : Answer A) (y : A) (r at : ℕ) → (if b then Broken r at else m) ≡ Known y → (b ≡ false) × (m ≡ Known y)
unless_known false m y r at h = (refl, h)
unless_known true m y r at h = never (Broken r at) y (λ k. k) h

module _ (defs : List StructDef) where
  abbrev pub IsNamed : Plain → Type 0
  IsNamed t = IsMade defs t × IsLimited defs t

  pub limits : (at : ℕ) (t u : Plain) → limited defs at t ≡ Known u → (is_within defs deepest t ≡ true) × (size_of defs t ≤ 1048576) × (t ≡ u)
  limits at t u h =
      let q = if_known (is_within defs deepest t && nat_le (size_of defs t) 1048576) t u 1 at h in
      let p = both_parts (is_within defs deepest t) (nat_le (size_of defs t) 1048576) q.0 in
      (p.0, at_most (size_of defs t) 1048576 p.1, q.1)

  pub pointer_named : (at : ℕ) (t u : Plain) → IsMade defs t → pointer defs at t ≡ Known u → IsNamed u
  pointer_named at t u m h =
      let q = unless_known (is_void t) (limited defs at (Pointer t)) u 9 at h in
      let p = limits at (Pointer t) u q.1 in
      subst IsNamed p.2 ((m, q.0), p.0)

  pub pointers_named : (at n : ℕ) (t u : Plain) → IsNamed t → pointers defs at n t ≡ Known u → IsNamed u
  pointers_named at zero t u m h = subst IsNamed (one_known t u h) m
  pointers_named at (suc n) t u m h =
      let (w, e, k) = then_known (pointer defs at t) (pointers defs at n) u h in
      pointers_named at n w u (pointer_named at t w m.0 e) k

  pub array_named : (at : ℕ) (t u : Plain) (n : ℕ) → IsMade defs t → n ≤ 1048576 → array defs at t n ≡ Known u → IsNamed u
  array_named at t u n m l h =
      let q = complete (is_complete defs t) h in
      let p = limits at (Array t n) u q.1 in
      subst IsNamed p.2 ((m, q.0, l, p.1), p.0)
    where
      complete : (b : Bool) → (if b then limited defs at (Array t n) else Broken 2 at) ≡ Known u → (b ≡ true) × (limited defs at (Array t n) ≡ Known u)
      complete true k = (refl, k)
      complete false k = never (Broken 2 at) u (λ x. x) k

  pub bound_most : (at : ℕ) (c : Constant) (n : ℕ) → bound at c ≡ Known n → n ≤ 1048576
  bound_most at Variable n h = never (Broken 2 at) n (λ x. x) h
  bound_most at Undefined n h = never (Broken 2 at) n (λ x. x) h
  bound_most at (Number m) n h =
      let q = if_known (nat_le 1 m && nat_le m 1048576) m n 2 at h in
      subst (λ k. k ≤ 1048576) q.1 (at_most m 1048576 (both_parts (nat_le 1 m) (nat_le m 1048576) q.0).1)

  pub bounded_named : (at place : ℕ) (t u : Plain) (j : Judged) → IsNamed t → bounded defs at place t j ≡ Known u → IsNamed u
  bounded_named at place t u j m h =
      let (n, e, k) = then_known (bound place j.constant) (array defs at t) u h in
      array_named at t u n m.0 (bound_most place j.constant n e) k

module _ (v : Scope) where
  abbrev pub AllNamed : Answer Plain → Type 0
  AllNamed a = (t : Plain) → a ≡ Known t → IsNamed (defs_of v) t

  pub starred_named : (at : ℕ) (d : Tree) (a : Answer Plain) → AllNamed a → AllNamed (starred v at d a)
  starred_named at d a f u h =
      let (t, e, k) = then_known a (pointers (defs_of v) at (stars_of d)) u h in
      pointers_named (defs_of v) at (stars_of d) t u (f t e) k

  within_named : (at : ℕ) (d : Tree) (a : Answer Plain) → AllNamed a → AllNamed (within v at d a)
  within_named at (Stars n) a f u h = f u h
  within_named at (Around n d) a f u h = within_named at d (starred v at d a) (starred_named at d a f) u h
  within_named at (Bounded d e) a f u h = within_named at d (two (bounded (defs_of v) at (place_of e).at) a (judged v e)) by u h
    where
      by : AllNamed (two (bounded (defs_of v) at (place_of e).at) a (judged v e))
      by w k =
          let (t, j, p, q, r) = two_known (bounded (defs_of v) at (place_of e).at) a (judged v e) w k in
          bounded_named (defs_of v) at (place_of e).at t w j (f t p) r
  within_named at (Unbounded d) a f u h = within_named at d (a then λ t. Broken 2 at) by u h
    where
      by : AllNamed (a then λ t. Broken 2 at)
      by w k = let (t, p, q) = then_known a (λ t. Broken 2 at) w k in never (Broken 2 at) w (λ x. x) q
  within_named at _ a f u h = never (Broken 0 0) u (λ x. x) h

  pub declared_named : (at : ℕ) (d : Tree) (t u : Plain) → IsNamed (defs_of v) t → declared v at d (Known t) ≡ Known u → IsNamed (defs_of v) u
  declared_named at d t u m h =
      let first : AllNamed (Known t) = λ w e. subst (IsNamed (defs_of v)) (one_known t w e) m in
      within_named at d (starred v at d (Known t)) (starred_named at d (Known t) first) u h

  module _ (s : typing.Scope) where
    pub spec_named : (q : Spec) → IsSpecRead v s q → IsNamed (defs_of v) (spec_type v q)
    unfolding deepest
    spec_named spec.Char h = (tt, refl)
    spec_named spec.Int h = (tt, refl)
    spec_named spec.Unsigned h = (tt, refl)
    spec_named spec.UnsignedInt h = (tt, refl)
    spec_named spec.Void h = (tt, refl)
    spec_named (spec.Struct tag) h = (h, tt)
