-- A struct that is sound stays so as further structs are completed.
use Rattle.std.proofs.Common.{◌≡◌, ◌≤◌, ◌<◌, refl, sym, ap, ◌∙◌, subst, arith, ℕ, zero, suc, ◌+◌, ◌*◌, max, Bool, true, false, ◌&&◌, List, [], ◌∷◌, length, map, Option, Some, None}
use Rattle.std.specs.Prelude.{slice_get, nat_le}
use Rattle.std.specs.Int.{next_multiple_of}
use Rattle.std.specs.List.{AllByRecursion}
use Rattle.c_tree.specs.declared.types.CType.{CType}
use Rattle.c_tree.specs.declared.types.CType.TheVariants as ctype
use Rattle.c_tree.specs.declared.types.StructDef.{StructDef}
use Rattle.c_tree.specs.declared.types.Member.{Member}
use Rattle.c_tree.specs.Layout as layout
use Rattle.c_tree.specs.Layout.{members_of, members_in, size_in, struct_size_of, alignment_within, alignment_of, alignment_of_members, AreLaid, IsLaidOut}
use Rattle.c_typing.specs.Plain.{Plain, Char, Int, Unsigned, Void, Pointer, Array, Struct, plain, is_empty, is_complete}
use Rattle.c_defs.specs.Depths.{is_within, are_within}
use Rattle.c_judge.proofs.Sizes.{size_of_plain}
use Rattle.c_accepted.specs.Grown.{ctype_of, IsMade, IsHeld, Grows}
use Rattle.c_accepted.proofs.Completed.{IsSound, AreSound, Extends}
use Rattle.c_accepted.proofs.Growth.{both_parts, not_empty, complete_grows, size_grows}
use Rattle.c_accepted.proofs.Written.{within_grows}

-- ---- alignments of plain types

abbrev pub all_aligned : (Plain → ℕ) → List Plain → ℕ
all_aligned f [] = 1
all_aligned f (t ∷ ts) = max (f t) (all_aligned f ts)

abbrev pub aligned : List StructDef → ℕ → Plain → ℕ
aligned defs zero t = 1
aligned defs (suc n) Char = 1
aligned defs (suc n) Int = 4
aligned defs (suc n) Unsigned = 4
aligned defs (suc n) Void = 1
aligned defs (suc n) (Pointer t) = 4
aligned defs (suc n) (Array t k) = aligned defs n t
aligned defs (suc n) (Struct s) = all_aligned (aligned defs n) (map ctype_of (members_of defs s))

pub members_aligned : (f : CType → ℕ) (k : Plain → ℕ) → ((u : CType) → f u ≡ k (plain u)) → (ms : List Member) → alignment_of_members f ms ≡ all_aligned k (map ctype_of ms)
members_aligned f k w [] = refl
members_aligned f k w (m ∷ ms) = λ i. max (w m.ctype i) (members_aligned f k w ms i)

pub as_aligned : (defs : List StructDef) (n : ℕ) (u : CType) → alignment_within defs n u ≡ aligned defs n (plain u)
as_aligned defs zero u = refl
as_aligned defs (suc n) ctype.Char = refl
as_aligned defs (suc n) ctype.Int = refl
as_aligned defs (suc n) ctype.Unsigned = refl
as_aligned defs (suc n) ctype.Void = refl
as_aligned defs (suc n) (ctype.Pointer' b t) = refl
as_aligned defs (suc n) (ctype.Array' b t k) = as_aligned defs n t
as_aligned defs (suc n) (ctype.Struct s) = members_aligned (alignment_within defs n) (aligned defs n) (λ u. as_aligned defs n u) (members_of defs s)

pub all_same : (P : Member → Type 0) (f k : Plain → ℕ) → ((m : Member) → P m → f (ctype_of m) ≡ k (ctype_of m)) → (ms : List Member) → AllByRecursion P ms
    → all_aligned f (map ctype_of ms) ≡ all_aligned k (map ctype_of ms)
all_same P f k w [] h = refl
all_same P f k w (m ∷ ms) h = λ i. max (w m h.0 i) (all_same P f k w ms h.1 i)

pub and_true : (a b : Bool) → a ≡ true → b ≡ true → a && b ≡ true
and_true true b e f = f
and_true false b e f = e

pub all_within : (P : Member → Type 0) (f k : Plain → Bool) → ((m : Member) → P m → f (ctype_of m) ≡ true → k (ctype_of m) ≡ true) → (ms : List Member) → AllByRecursion P ms → are_within f ms ≡ true → are_within k ms ≡ true
all_within P f k w [] a h = refl
all_within P f k w (m ∷ ms) a h =
    let q = both_parts (f (ctype_of m)) (are_within f ms) h in
    and_true (k (ctype_of m)) (are_within k ms) (w m a.0 q.0) (all_within P f k w ms a.1 q.1)

pub all_of : {A : Type 0} (P Q : A → Type 0) → ((x : A) → P x → Q x) → (xs : List A) → AllByRecursion P xs → AllByRecursion Q xs
all_of P Q w [] h = tt
all_of P Q w (x ∷ xs) h = (w x h.0, all_of P Q w xs h.1)

-- ---- what grows

module _ (before behind : List StructDef) (g : Grows before behind) where
  pub aligned_grows : (n : ℕ) (t : Plain) → is_complete before t ≡ true → aligned behind n t ≡ aligned before n t
  aligned_grows zero t h = refl
  aligned_grows (suc n) Char h = refl
  aligned_grows (suc n) Int h = refl
  aligned_grows (suc n) Unsigned h = refl
  aligned_grows (suc n) Void h = refl
  aligned_grows (suc n) (Pointer t) h = refl
  aligned_grows (suc n) (Array t k) h = aligned_grows n t (both_parts (nat_le 1 k) (is_complete before t) h).1
  aligned_grows (suc n) (Struct s) h =
      ap (all_aligned (aligned behind n)) (g.members s (not_empty (is_empty (members_of before s)) h)) ∙
      all_same (IsHeld before) (aligned behind n) (aligned before n) (λ m a. aligned_grows n (ctype_of m) a.1) (members_of before s) (g.held s)

  pub made_grows : (t : Plain) → IsMade before t → IsMade behind t
  made_grows Char m = tt
  made_grows Int m = tt
  made_grows Unsigned m = tt
  made_grows Void m = tt
  made_grows (Pointer t) m = (made_grows t m.0, m.1)
  made_grows (Array t n) m =
      (made_grows t m.0, complete_grows before behind g t m.1, m.2, subst (λ k. n * k ≤ 1048576) (sym (size_grows before behind g t m.1)) m.3)
  made_grows (Struct s) m = let k : s < length behind = omega (arith, m, g.count) in k

  held_grows : (m : Member) → IsHeld before m → IsHeld behind m
  held_grows m h = (made_grows (ctype_of m) h.0, complete_grows before behind g (ctype_of m) h.1)

  one_size : (m : Member) → IsHeld before m → layout.size_of behind m.ctype ≡ layout.size_of before m.ctype
  one_size m h = size_of_plain behind m.ctype ∙ size_grows before behind g (ctype_of m) h.1 ∙ sym (size_of_plain before m.ctype)

  one_aligned : (m : Member) → IsHeld before m → alignment_of behind m.ctype ≡ alignment_of before m.ctype
  one_aligned m h = as_aligned behind 64 m.ctype ∙ aligned_grows 64 (ctype_of m) h.1 ∙ sym (as_aligned before 64 m.ctype)

  laid_grows : (from : ℕ) (ms : List Member) (end : ℕ) → AllByRecursion (IsHeld before) ms → AreLaid before from ms end → AreLaid behind from ms end
  laid_grows from [] end h a = a
  laid_grows from (m ∷ ms) end h a = (
    a.0 ∙ ap (next_multiple_of from) (sym (one_aligned m h.0)),
    subst (λ k. AreLaid behind (m.at + k) ms end) (sym (one_size m h.0)) (laid_grows (m.at + layout.size_of before m.ctype) ms end h.1 a.1),
  )

  pub laid_out_grows : (d : StructDef) → AllByRecursion (IsHeld before) d.members → IsLaidOut before d → IsLaidOut behind d
  laid_out_grows d h (end, a, e) =
      let same : alignment_of_members (alignment_of behind) d.members ≡ alignment_of_members (alignment_of before) d.members =
      members_aligned (alignment_of behind) (aligned behind 64) (λ u. as_aligned behind 64 u) d.members ∙
      all_same (IsHeld before) (aligned behind 64) (aligned before 64) (λ m a. aligned_grows 64 (ctype_of m) a.1) d.members h ∙
      sym (members_aligned (alignment_of before) (aligned before 64) (λ u. as_aligned before 64 u) d.members) in
      (end, laid_grows 0 d.members end h a, e ∙ ap (next_multiple_of end) (sym same))

  pub held_all : (ms : List Member) → AllByRecursion (IsHeld before) ms → AllByRecursion (IsHeld behind) ms
  held_all ms h = all_of (IsHeld before) (IsHeld behind) held_grows ms h

  pub sound_grows : (d : StructDef) → IsSound before d → IsSound behind d
  sound_grows d s = record {
    small = s.small;
    deep = all_within (IsHeld before) (is_within before 63) (is_within behind 63) (λ m a k. within_grows before behind g 63 (ctype_of m) a.0 (λ e. a.1) k) d.members s.held s.deep;
    differ = s.differ;
    held = held_all d.members s.held;
    laid = laid_out_grows d s.held s.laid;
  }

-- ---- what is complete before stays as it is

pub held_in : (defs : List StructDef) → AreSound defs → (s : ℕ) → AllByRecursion (IsHeld defs) (members_of defs s)
held_in defs a s = by (slice_get defs s) refl
  where
    by : (o : Option StructDef) → slice_get defs s ≡ o → AllByRecursion (IsHeld defs) (members_in o)
    by None e = tt
    by (Some d) e = (a s d e).held

pub extended : (before behind : List StructDef) → AreSound before → Extends before behind → Grows before behind
extended before behind a x = record {
  count = let k = x.count in omega (arith, k);
  members = λ s e. ap (λ o. map ctype_of (members_in o)) (x.rows s e);
  size = λ s e. ap size_in (x.rows s e);
  held = held_in before a;
}

pub no_more : (defs : List StructDef) → Extends defs defs
no_more defs = record { count = refl; rows = λ s e. refl }
