-- What comes of a struct's `}`.
use Rattle.std.proofs.Common.{arith, ◌≡◌, ◌<◌, ◌==◌, ℕ, zero, suc, Bool, true, false, ◌&&◌, nat_le, if◌then◌else◌, List, [], ◌∷◌, length, slice_get, slice_set, refl, sym, ap, subst, ◌∙◌, Some, None, Result, Ok, Err}
use Rattle.c_tree.specs.declared.types.CType.{CType}
use Rattle.c_tree.specs.declared.types.StructDef.{StructDef}
use Rattle.c_tree.specs.Layout.{size_in}
use Rattle.c_typing.specs.Plain.{Plain, Struct}
use Rattle.c_judge.specs.Answers.{Answer, Known, Unknown, Broken}
use Rattle.c_judge.specs.Judgement.{limited}
use Rattle.c_defs.specs.Depths.{deepest, is_within}
use Rattle.c_typing.specs.Values.{size_of}
use Rattle.c_scope.specs.Findings.{nothing, fine}
use Rattle.c_scope.specs.Environment.{Environment, struct_of}
use Rattle.c_struct.specs.Structs.{Open, IsRow, IsWith, IsRowOf, Completes, completed_found}
use Rattle.c_struct.specs.Specifies.{Goes, Ends}
use Rattle.c_scope.specs.declared.refusal.Refusal.{Refusal}
use Rattle.c_scope.specs.declared.refusal.Refusal.TheVariants.{Rule, NoMemory}
use Rattle.c_scope.specs.Refused.{IsRefused}
use Rattle.c_struct.specs.Laying.{IsRowOrLarge}
use Rattle.c_struct.specs.Completing.{IsLimited, IsEnded}

-- ---- parts that go on, or not

pub goes_along : {A B : Type 0} (j : Answer A) (x : A) (v : Environment) (a : Answer B) (w : Environment) (P : A → Type 0) → j ≡ Known x → P x → Goes j v a w P
goes_along j x v a w P h p = subst (λ k. Goes k v a w P) (sym h) p

pub goes_broken : {A : Type 0} (j : Answer A) (r at : ℕ) (v : Environment) (P : A → Type 0) → j ≡ Broken r at → Goes {A = A} {B = Plain} j v (Broken r at) v P
goes_broken j r at v P h = subst (λ k. Goes {B = Plain} k v (Broken r at) v P) (sym h) (refl, refl)

pub goes_unknown : {A : Type 0} (j : Answer A) (name : List ℕ) (v : Environment) (P : A → Type 0) → j ≡ Unknown name → Goes {A = A} {B = Plain} j v (Unknown name) v P
goes_unknown j name v P h = subst (λ k. Goes {B = Plain} k v (Unknown name) v P) (sym h) (refl, refl)

goes_more : {A B : Type 0} (j : Answer A) (v : Environment) (a : Answer B) (w : Environment) (P Q : A → Type 0) → ((x : A) → P x → Q x) → Goes j v a w P → Goes j v a w Q
goes_more (Known x) v a w P Q f h = f x h
goes_more (Unknown name) v a w P Q f h = h
goes_more (Broken r at) v a w P Q f h = h

module _ (others : List StructDef) (v : Environment) (o : Open) where
  pub ends_more : (a : Answer Plain) (w : Environment) (P : Environment → Type 0) → Ends others v o a w (λ _. ⊥) → Ends others v o a w P
  ends_more a w P h = goes_more (completed_found others v o) v a w _ _
      (λ _ e. (e.0, e.1, goes_more (limited e.0.defs o.at (Struct (struct_of e.0.tags o.tag))) e.0 a w (λ _. ⊥) (λ _. P e.0) (λ _ f. absurd f) e.2)) h

  pub ends_well : (u : Environment) (a : Answer Plain) (w : Environment) (P : Environment → Type 0) → completed_found others v o ≡ nothing → Completes v o u
      → limited u.defs o.at (Struct (struct_of u.tags o.tag)) ≡ Known (Struct (struct_of u.tags o.tag)) → P u → Ends others v o a w P
  ends_well u a w P f c l p = goes_along (completed_found others v o) fine v a w _ f (u, c, goes_along (limited u.defs o.at (Struct (struct_of u.tags o.tag))) (Struct (struct_of u.tags o.tag)) u a w (λ _. P u) l p)

  -- the rule of a struct's completion, or of its limits, is broken
  pub ends_refused : (w : Environment) (why : Refusal) → IsRefused (completed_found others v o) why → IsEnded others v o w (Err why)
  ends_refused w (Rule r at) h = (v, goes_broken (completed_found others v o) r at v _ h)
  ends_refused w NoMemory h = tt

  pub ends_beyond : (u : Environment) (r at : ℕ) → completed_found others v o ≡ nothing → Completes v o u → limited u.defs o.at (Struct (struct_of u.tags o.tag)) ≡ Broken r at
      → Ends others v o (Broken r at) u (λ _. ⊥)
  ends_beyond u r at f c l = goes_along (completed_found others v o) fine v (Broken r at) u _ f (u, c, goes_broken (limited u.defs o.at (Struct (struct_of u.tags o.tag))) r at u (λ _. ⊥) l)

-- ---- a struct's row is set

set_same : (defs : List StructDef) (s : ℕ) (d : StructDef) → s < length defs → slice_get (slice_set defs s d) s ≡ Some d
set_same [] s d h = absurd (omega arith)
set_same (e ∷ defs) zero d h = refl
set_same (e ∷ defs) (suc s) d h = set_same defs s d (omega arith)

one_less : (n s : ℕ) → (suc n == suc s) ≡ false → (n == s) ≡ false
one_less n s h = grind arith

set_other : (defs : List StructDef) (s : ℕ) (d : StructDef) (n : ℕ) → (n == s) ≡ false → slice_get (slice_set defs s d) n ≡ slice_get defs n
set_other [] s d n h = refl
set_other (e ∷ defs) zero d zero h = absurd (let x : true ≡ false = h in cc)
set_other (e ∷ defs) zero d (suc n) h = refl
set_other (e ∷ defs) (suc s) d zero h = refl
set_other (e ∷ defs) (suc s) d (suc n) h = set_other defs s d n (one_less n s h)

set_length : (defs : List StructDef) (s : ℕ) (d : StructDef) → length defs ≡ length (slice_set defs s d)
set_length [] s d = refl
set_length (e ∷ defs) zero d = refl
set_length (e ∷ defs) (suc s) d = ap suc (set_length defs s d)

pub with_row : (v : Environment) (o : Open) (n : ℕ) (d : StructDef) → n ≡ struct_of v.tags o.tag → n < length v.defs → IsRow v.defs o d → Completes v o (record v { defs = slice_set v.defs n d })
with_row v o n d e h r =
    let P : ℕ → Type 0 = λ s. IsWith (IsRowOf v.defs o) s v.defs (slice_set v.defs n d) in
    (refl, subst P e (set_length v.defs n d, subst (IsRowOf v.defs o) (sym (set_same v.defs n d h)) r, λ k q. set_other v.defs n d k q))

beyond : (b : Bool) (n : ℕ) (at : ℕ) (t : Plain) → 1048576 < n → (if b && nat_le n 1048576 then Known t else Broken 1 at) ≡ Broken 1 at
beyond true n at t h = let e : nat_le n 1048576 ≡ false = grind arith in ap (λ x. if x then Known t else Broken 1 at) e
beyond false n at t h = refl

-- a struct that is larger than any may be
pub too_large : (defs : List StructDef) (n at : ℕ) (d : StructDef) → n < length defs → 1048576 < d.size → limited (slice_set defs n d) at (Struct n) ≡ Broken 1 at
too_large defs n at d h k =
    beyond (is_within (slice_set defs n d) deepest (Struct n)) (size_of (slice_set defs n d) (Struct n)) at (Struct n)
    (subst (λ m. 1048576 < m) (sym (ap size_in (set_same defs n d h))) k)

-- what a struct's row and its limits make of its `}`
pub ended : (others : List StructDef) (v : Environment) (o : Open) (w : Environment) (n : ℕ) (d : StructDef) (r : Result CType Refusal) → n ≡ struct_of v.tags o.tag → n < length v.defs
    → IsRow v.defs o d → completed_found others v o ≡ nothing → w ≡ record v { defs = slice_set v.defs n d } → IsLimited w.defs o.at (Struct n) r → IsEnded others v o w r
ended others v o w n d (Ok t) e h i f k l =
    let c : Completes v o w = subst (Completes v o) (sym k) (with_row v o n d e h i) in
    let s : n ≡ struct_of w.tags o.tag = e ∙ ap (λ x. struct_of x.tags o.tag) (sym k) in
    (f, c, subst (λ m. limited w.defs o.at (Struct m) ≡ Known (Struct m)) s l.0, l.1 ∙ ap Struct s)
ended others v o w n d (Err (Rule r at)) e h i f k l =
    let c : Completes v o w = subst (Completes v o) (sym k) (with_row v o n d e h i) in
    let s : n ≡ struct_of w.tags o.tag = e ∙ ap (λ x. struct_of x.tags o.tag) (sym k) in
    (w, ends_beyond others v o w r at f c (subst (λ m. limited w.defs o.at (Struct m) ≡ Broken r at) s l))
ended others v o w n d (Err NoMemory) e h i f k l = tt

-- what the size of a struct that is too large makes of it
pub ended_large : (others : List StructDef) (v : Environment) (o : Open) (w : Environment) (n : ℕ) → n ≡ struct_of v.tags o.tag → n < length v.defs
    → IsRowOrLarge v.defs o None → completed_found others v o ≡ nothing → IsEnded others v o w (Err (Rule 1 o.at))
ended_large others v o w n e h r f =
    let u : Environment = record v { defs = slice_set v.defs n r.0 } in
    (u, ends_beyond others v o u 1 o.at f (with_row v o n r.0 e h r.1) (subst (λ m. limited u.defs o.at (Struct m) ≡ Broken 1 o.at) e (too_large v.defs n o.at r.0 h r.2)))

limited_same : (b : Bool) (at : ℕ) (t u : Plain) → (if b then Known t else Broken 1 at) ≡ Known u → u ≡ t
limited_same true at t u h = cc
limited_same false at t u h = absurd (let x : Broken 1 at ≡ Known u = h in cc)

pub is_limited : (defs : List StructDef) (at : ℕ) (t u : Plain) → limited defs at t ≡ Known u → (limited defs at t ≡ Known t) × (u ≡ t)
is_limited defs at t u h =
    let e = limited_same (is_within defs deepest t && nat_le (size_of defs t) 1048576) at t u h in
    (h ∙ ap Known e, e)
