-- The leaves of a type are aligned, and it has no more than four bytes for each.
use Rattle.std.proofs.Common.{◌≡◌, refl, sym, ap, subst, ◌∙◌, ℕ, suc, zero, ◌+◌, ◌*◌, ◌%◌, ◌≤◌, List, [], ◌∷◌, ◌++◌, length, Option, Some, None, arith, slice_get, ◌⊎◌, inl, inr, ⊎_elim, length-append}
use Rattle.std.specs.Prelude.{max}
use Rattle.std.specs.Int.{next_multiple_of}
use Rattle.std.specs.List.{AllByRecursion}
use Rattle.ldb_words.specs.declared.kinds.Kind.{Kind}
use Rattle.ldb_words.specs.declared.kinds.Kind.TheVariants.{Byte, Word, Address}
use Rattle.c_tree.specs.declared.types.CType.{CType}
use Rattle.c_tree.specs.declared.types.CType.TheVariants.{Char, Int, Unsigned, Void, Pointer', Array', Struct}
use Rattle.c_tree.specs.declared.types.StructDef.{StructDef}
use Rattle.c_tree.specs.declared.types.Member.{Member}
use Rattle.c_tree.specs.declared.types.Leaf.{Leaf}
use Rattle.c_tree.specs.Layout.{size_of, size_in, members_in, leaves_at, repeated, leaves_of_members, leaves_within, AreLaid, alignment_of, alignment_within, alignment_of_members, IsWithin}
use Rattle.c_tree.specs.Ordered.{width_of, AllLaidOut, IsAligned}

-- ---- an alignment is 1 or 4

abbrev IsOneOrFour : ℕ → Type 0
IsOneOrFour a = (a ≡ 1) ⊎ (a ≡ 4)

max_one_or_four : (a b : ℕ) → IsOneOrFour a → IsOneOrFour b → IsOneOrFour (max a b)
max_one_or_four a b (inl p) (inl q) = inl (ap (λ x. max x b) p ∙ ap (max 1) q)
max_one_or_four a b (inl p) (inr q) = inr (ap (λ x. max x b) p ∙ ap (max 1) q)
max_one_or_four a b (inr p) (inl q) = inr (ap (λ x. max x b) p ∙ ap (max 4) q)
max_one_or_four a b (inr p) (inr q) = inr (ap (λ x. max x b) p ∙ ap (max 4) q)

members_one_or_four : (f : CType → ℕ) → ((t : CType) → IsOneOrFour (f t)) → (ms : List Member) → IsOneOrFour (alignment_of_members f ms)
members_one_or_four f h [] = inl refl
members_one_or_four f h (m ∷ ms) = max_one_or_four (f m.ctype) (alignment_of_members f ms) (h m.ctype) (members_one_or_four f h ms)

one_or_four : (defs : List StructDef) (deep : ℕ) (t : CType) → IsOneOrFour (alignment_within defs deep t)
one_or_four defs zero t = inl refl
one_or_four defs (suc deep) Char = inl refl
one_or_four defs (suc deep) Int = inr refl
one_or_four defs (suc deep) Unsigned = inr refl
one_or_four defs (suc deep) Void = inl refl
one_or_four defs (suc deep) (Pointer' _ t) = inr refl
one_or_four defs (suc deep) (Array' _ t n) = one_or_four defs deep t
one_or_four defs (suc deep) (Struct s) = members_one_or_four (alignment_within defs deep) (one_or_four defs deep) (members_in (slice_get defs s))

-- one of two is 4 where the greater one is
from_max : (a b : ℕ) → IsOneOrFour a → max a b ≡ 4 → (a ≡ 4) ⊎ (b ≡ 4)
from_max a b (inr p) e = inl p
from_max a b (inl p) e = inr (omega (arith, p, e))

max_left : (a b : ℕ) → IsOneOrFour b → a ≡ 4 → max a b ≡ 4
max_left a b (inl q) p = ap (λ x. max x b) p ∙ ap (max 4) q
max_left a b (inr q) p = ap (λ x. max x b) p ∙ ap (max 4) q

max_right : (a b : ℕ) → IsOneOrFour a → b ≡ 4 → max a b ≡ 4
max_right a b (inl p) q = ap (λ x. max x b) p ∙ ap (max 1) q
max_right a b (inr p) q = ap (λ x. max x b) p ∙ ap (max 4) q

-- looked at deeper, an alignment stays 4
abbrev Grows : (f g : CType → ℕ) → Type 0
Grows f g = (t : CType) → f t ≡ 4 → g t ≡ 4

members_grow : (f g : CType → ℕ) → ((t : CType) → IsOneOrFour (f t)) → ((t : CType) → IsOneOrFour (g t)) → Grows f g → (ms : List Member) → alignment_of_members f ms ≡ 4 → alignment_of_members g ms ≡ 4
members_grow f g hf hg grow [] e = absurd (omega (arith, e))
members_grow f g hf hg grow (m ∷ ms) e =
    ⊎_elim
    (λ p. max_left (g m.ctype) (alignment_of_members g ms) (members_one_or_four g hg ms) (grow m.ctype p))
    (λ p. max_right (g m.ctype) (alignment_of_members g ms) (hg m.ctype) (members_grow f g hf hg grow ms p))
    (from_max (f m.ctype) (alignment_of_members f ms) (hf m.ctype) e)

grows : (defs : List StructDef) (deep deeper : ℕ) → deep ≤ deeper → Grows (alignment_within defs deep) (alignment_within defs deeper)
grows defs zero d le t e = absurd (omega (arith, e))
grows defs (suc deep) zero le t e = absurd (omega (arith, le))
grows defs (suc deep) (suc d) le Char e = e
grows defs (suc deep) (suc d) le Int e = e
grows defs (suc deep) (suc d) le Unsigned e = e
grows defs (suc deep) (suc d) le Void e = e
grows defs (suc deep) (suc d) le (Pointer' _ t) e = e
grows defs (suc deep) (suc d) le (Array' _ t n) e = grows defs deep d (omega (arith, le)) t e
grows defs (suc deep) (suc d) le (Struct s) e =
    members_grow (alignment_within defs deep) (alignment_within defs d) (one_or_four defs deep) (one_or_four defs d) (grows defs deep d (omega (arith, le))) (members_in (slice_get defs s)) e

-- ---- sizes

next_by_four : (x a : ℕ) → a ≡ 4 → next_multiple_of x a % 4 ≡ 0
next_by_four x a e = subst (λ a. next_multiple_of x a % 4 ≡ 0) (sym e) (omega arith)

times_four : (n x : ℕ) → x % 4 ≡ 0 → n * x % 4 ≡ 0
times_four zero x e = omega arith
times_four (suc n) x e = let rest = times_four n x e in omega (arith, rest, e)

-- a size is a multiple of the alignment
module _ (defs : List StructDef) (all : AllLaidOut defs) where
  struct_size : (deep s : ℕ) → deep ≤ 64 → (o : Option StructDef) → slice_get defs s ≡ o → alignment_of_members (alignment_within defs deep) (members_in o) ≡ 4 → size_in o % 4 ≡ 0
  struct_size deep s le None e a = refl
  struct_size deep s le (Some d) e a =
      let laid = all s d e in
      ap (λ n. n % 4) laid.2
      ∙ next_by_four laid.0 (alignment_of_members (alignment_of defs) d.members)
      (members_grow (alignment_within defs deep) (alignment_of defs) (one_or_four defs deep) (one_or_four defs 64) (grows defs deep 64 le) d.members a)

  size_aligned : (deep : ℕ) → deep ≤ 64 → (t : CType) → alignment_within defs deep t ≡ 4 → size_of defs t % 4 ≡ 0
  size_aligned zero le t e = absurd (omega (arith, e))
  size_aligned (suc deep) le Char e = absurd (omega (arith, e))
  size_aligned (suc deep) le Int e = refl
  size_aligned (suc deep) le Unsigned e = refl
  size_aligned (suc deep) le Void e = refl
  size_aligned (suc deep) le (Pointer' _ t) e = refl
  size_aligned (suc deep) le (Array' _ t n) e = times_four n (size_of defs t) (size_aligned deep (omega (arith, le)) t e)
  size_aligned (suc deep) le (Struct s) e = struct_size deep s (omega (arith, le)) (slice_get defs s) refl e

-- ---- leaves

-- a byte stands anywhere, and another leaf at a multiple of 4 in something that is aligned at 4
abbrev StandsBy : (alignment : ℕ) → Kind → ℕ → Type 0
StandsBy a Byte at = Unit {0}
StandsBy a Word at = (a ≡ 4) × (at % 4 ≡ 0)
StandsBy a Address at = (a ≡ 4) × (at % 4 ≡ 0)

abbrev StandBy : (alignment : ℕ) → List Leaf → Type 0
StandBy a ls = AllByRecursion (λ (l : Leaf). StandsBy a l.kind l.at) ls

stand_both : (a : ℕ) (xs ys : List Leaf) → StandBy a xs → StandBy a ys → StandBy a (xs ++ ys)
stand_both a [] ys p q = q
stand_both a (x ∷ xs) ys p q = (p.0, stand_both a xs ys p.1 q)

sum_by_four : (by at : ℕ) → by % 4 ≡ 0 → at % 4 ≡ 0 → (by + at) % 4 ≡ 0
sum_by_four by at p q = omega (arith, p, q)

stands_at : (a b by : ℕ) (k : Kind) (at : ℕ) → (a ≡ 4 → b ≡ 4) → (a ≡ 4 → by % 4 ≡ 0) → StandsBy a k at → StandsBy b k (by + at)
stands_at a b by Byte at f g s = tt
stands_at a b by Word at f g s = (f s.0, sum_by_four by at (g s.0) s.1)
stands_at a b by Address at f g s = (f s.0, sum_by_four by at (g s.0) s.1)

-- leaves that stand further
stand_at : (a b by : ℕ) (ls : List Leaf) → (a ≡ 4 → b ≡ 4) → (a ≡ 4 → by % 4 ≡ 0) → StandBy a ls → StandBy b (leaves_at by ls)
stand_at a b by [] f g s = tt
stand_at a b by (l ∷ ls) f g s = (stands_at a b by l.kind l.at f g s.0, stand_at a b by ls f g s.1)

repeated_stand : (a n size at : ℕ) (ls : List Leaf) → (a ≡ 4 → size % 4 ≡ 0) → (a ≡ 4 → at % 4 ≡ 0) → StandBy a ls → StandBy a (repeated n size at ls)
repeated_stand a zero size at ls f g s = tt
repeated_stand a (suc n) size at ls f g s =
    stand_both a (leaves_at at ls) (repeated n size (at + size) ls) (stand_at a a at ls (λ e. e) g s) (repeated_stand a n size (at + size) ls f (λ e. sum_by_four at size (g e) (f e)) s)

wider_stand : (a b : ℕ) (k : Kind) (at : ℕ) → (a ≡ 4 → b ≡ 4) → StandsBy a k at → StandsBy b k at
wider_stand a b Byte at f s = tt
wider_stand a b Word at f s = (f s.0, s.1)
wider_stand a b Address at f s = (f s.0, s.1)

wider_all : (a b : ℕ) (ls : List Leaf) → (a ≡ 4 → b ≡ 4) → StandBy a ls → StandBy b ls
wider_all a b [] f s = tt
wider_all a b (l ∷ ls) f s = (wider_stand a b l.kind l.at f s.0, wider_all a b ls f s.1)

module _ (defs : List StructDef) (all : AllLaidOut defs) where
  members_stand : (deep : ℕ) → deep ≤ 64 → ((t : CType) → StandBy (alignment_within defs deep t) (leaves_within defs deep t)) → (from : ℕ) (ms : List Member) (end : ℕ) → AreLaid defs from ms end
      → StandBy (alignment_of_members (alignment_within defs deep) ms) (leaves_of_members (leaves_within defs deep) ms)
  members_stand deep le h from [] end laid = tt
  members_stand deep le h from (m ∷ ms) end laid =
      let f = alignment_within defs deep in
      let a = f m.ctype in
      let rest = alignment_of_members f ms in
      stand_both (max a rest) (leaves_at m.at (leaves_within defs deep m.ctype)) (leaves_of_members (leaves_within defs deep) ms)
      (stand_at a (max a rest) m.at (leaves_within defs deep m.ctype) (max_left a rest (members_one_or_four f (one_or_four defs deep) ms))
      (λ e. ap (λ n. n % 4) laid.0 ∙ next_by_four from (alignment_of defs m.ctype) (grows defs deep 64 le m.ctype e)) (h m.ctype))
      (wider_all rest (max a rest) (leaves_of_members (leaves_within defs deep) ms) (max_right a rest (one_or_four defs deep m.ctype)) (members_stand deep le h (m.at + size_of defs m.ctype) ms end laid.1))

  struct_stands : (deep s : ℕ) → deep ≤ 64 → ((t : CType) → StandBy (alignment_within defs deep t) (leaves_within defs deep t)) → (o : Option StructDef) → slice_get defs s ≡ o
      → StandBy (alignment_of_members (alignment_within defs deep) (members_in o)) (leaves_of_members (leaves_within defs deep) (members_in o))
  struct_stands deep s le h None e = tt
  struct_stands deep s le h (Some d) e = let laid = all s d e in members_stand deep le h 0 d.members laid.0 laid.1

  stand : (deep : ℕ) → deep ≤ 64 → (t : CType) → StandBy (alignment_within defs deep t) (leaves_within defs deep t)
  stand zero le t = tt
  stand (suc deep) le Char = (tt, tt)
  stand (suc deep) le Int = ((refl, refl), tt)
  stand (suc deep) le Unsigned = ((refl, refl), tt)
  stand (suc deep) le Void = tt
  stand (suc deep) le (Pointer' _ t) = ((refl, refl), tt)
  stand (suc deep) le (Array' _ t n) =
      let low : deep ≤ 64 = omega (arith, le) in
      repeated_stand (alignment_within defs deep t) n (size_of defs t) 0 (leaves_within defs deep t) (size_aligned defs all deep low t) (λ e. refl) (stand deep low t)
  stand (suc deep) le (Struct s) =
      let low : deep ≤ 64 = omega (arith, le) in struct_stands deep s low (stand deep low) (slice_get defs s) refl

is_aligned : (a : ℕ) (k : Kind) (at : ℕ) → StandsBy a k at → at % width_of k ≡ 0
is_aligned a Byte at s = omega arith
is_aligned a Word at s = s.1
is_aligned a Address at s = s.1

all_aligned : (a : ℕ) (ls : List Leaf) → StandBy a ls → AllByRecursion IsAligned ls
all_aligned a [] s = tt
all_aligned a (l ∷ ls) s = (is_aligned a l.kind l.at s.0, all_aligned a ls s.1)

pub aligned : (defs : List StructDef) → AllLaidOut defs → (t : CType) → AllByRecursion IsAligned (leaves_within defs 64 t)
aligned defs all t = all_aligned (alignment_of defs t) (leaves_within defs 64 t) (stand defs all 64 (omega arith) t)

-- ---- four bytes for each leaf

length_at : (by : ℕ) (ls : List Leaf) → length (leaves_at by ls) ≡ length ls
length_at by [] = refl
length_at by (l ∷ ls) = ap suc (length_at by ls)

length_repeated : (n size at : ℕ) (ls : List Leaf) → length (repeated n size at ls) ≡ n * length ls
length_repeated zero size at ls = omega arith
length_repeated (suc n) size at ls =
    length-append (leaves_at at ls) (repeated n size (at + size) ls) ∙ sum (length_at at ls) (length_repeated n size (at + size) ls)
  where
    sum : length (leaves_at at ls) ≡ length ls → length (repeated n size (at + size) ls) ≡ n * length ls → length (leaves_at at ls) + length (repeated n size (at + size) ls) ≡ suc n * length ls
    sum p q = omega (arith, p, q)

-- the least multiple of an alignment from a number on is no more than the next multiple of 4
next_within : (x a n : ℕ) → IsOneOrFour a → x ≤ 4 * n → next_multiple_of x a ≤ 4 * n
next_within x a n (inl e) le = subst (λ a. next_multiple_of x a ≤ 4 * n) (sym e) (omega (arith, le))
next_within x a n (inr e) le = subst (λ a. next_multiple_of x a ≤ 4 * n) (sym e) (omega (arith, le))

items_within : (n size count : ℕ) → size ≤ 4 * count → n * size ≤ 4 * (n * count)
items_within zero size count le = omega arith
items_within (suc n) size count le = let rest = items_within n size count le in omega (arith, rest, le)

module _ (defs : List StructDef) (all : AllLaidOut defs) where
  members_fill : (deep : ℕ) → ((t : CType) → IsWithin defs deep t → size_of defs t ≤ 4 * length (leaves_within defs deep t)) → (from before : ℕ) (ms : List Member) (end : ℕ) → AreLaid defs from ms end
      → AllByRecursion (λ (m : Member). IsWithin defs deep m.ctype) ms → from ≤ 4 * before → end ≤ 4 * (before + length (leaves_of_members (leaves_within defs deep) ms))
  members_fill deep h from before [] end laid w le = omega (arith, laid, le)
  members_fill deep h from before (m ∷ ms) end laid w le =
      let first = leaves_at m.at (leaves_within defs deep m.ctype) in
      let rest = leaves_of_members (leaves_within defs deep) ms in
      let n = length (leaves_within defs deep m.ctype) in
      let at : m.at ≤ 4 * before = subst (λ x. x ≤ 4 * before) (sym laid.0) (next_within from (alignment_of defs m.ctype) before (one_or_four defs 64 m.ctype) le) in
      let one : size_of defs m.ctype ≤ 4 * n = h m.ctype w.0 in
      let more = members_fill deep h (m.at + size_of defs m.ctype) (before + n) ms end laid.1 w.1 (omega (arith, at, one)) in
      let sum : length (first ++ rest) ≡ n + length rest = length-append first rest ∙ ap (λ k. k + length rest) (length_at m.at (leaves_within defs deep m.ctype)) in
      omega (arith, more, sum)

  struct_fills : (deep s : ℕ) → ((t : CType) → IsWithin defs deep t → size_of defs t ≤ 4 * length (leaves_within defs deep t)) → (o : Option StructDef) → slice_get defs s ≡ o
      → AllByRecursion (λ (m : Member). IsWithin defs deep m.ctype) (members_in o) → size_in o ≤ 4 * length (leaves_of_members (leaves_within defs deep) (members_in o))
  struct_fills deep s h None e w = omega arith
  struct_fills deep s h (Some d) e w =
      let laid = all s d e in
      let n = length (leaves_of_members (leaves_within defs deep) d.members) in
      let fill : laid.0 ≤ 4 * (0 + n) = members_fill deep h 0 0 d.members laid.0 laid.1 w (omega arith) in
      let some : laid.0 ≤ 4 * n = omega (arith, fill) in
      subst (λ x. x ≤ 4 * n) (sym laid.2) (next_within laid.0 (alignment_of_members (alignment_of defs) d.members) n (members_one_or_four (alignment_of defs) (one_or_four defs 64) d.members) some)

  pub fills : (deep : ℕ) (t : CType) → IsWithin defs deep t → size_of defs t ≤ 4 * length (leaves_within defs deep t)
  fills zero t w = absurd w
  fills (suc deep) Char w = omega arith
  fills (suc deep) Int w = omega arith
  fills (suc deep) Unsigned w = omega arith
  fills (suc deep) Void w = omega arith
  fills (suc deep) (Pointer' _ t) w = omega arith
  fills (suc deep) (Array' _ t n) w =
      let same = length_repeated n (size_of defs t) 0 (leaves_within defs deep t) in
      subst (λ k. n * size_of defs t ≤ 4 * k) (sym same) (items_within n (size_of defs t) (length (leaves_within defs deep t)) (fills deep t w))
  fills (suc deep) (Struct s) w = struct_fills deep s (fills deep) (slice_get defs s) refl w

-- ---- depth

-- a type that is looked at deeper than it is has the same leaves
module _ (defs : List StructDef) where
  members_same : (deep d : ℕ) → ((t : CType) → IsWithin defs deep t → leaves_within defs d t ≡ leaves_within defs deep t) → (ms : List Member) → AllByRecursion (λ (m : Member). IsWithin defs deep m.ctype) ms
      → leaves_of_members (leaves_within defs d) ms ≡ leaves_of_members (leaves_within defs deep) ms
  members_same deep d h [] w = refl
  members_same deep d h (m ∷ ms) w =
      ap (λ ls. leaves_at m.at ls ++ leaves_of_members (leaves_within defs d) ms) (h m.ctype w.0) ∙ ap (λ rest. leaves_at m.at (leaves_within defs deep m.ctype) ++ rest) (members_same deep d h ms w.1)

  pub same_leaves : (deep d : ℕ) → deep ≤ d → (t : CType) → IsWithin defs deep t → leaves_within defs d t ≡ leaves_within defs deep t
  same_leaves zero d le t w = absurd w
  same_leaves (suc deep) zero le t w = absurd (omega (arith, le))
  same_leaves (suc deep) (suc d) le Char w = refl
  same_leaves (suc deep) (suc d) le Int w = refl
  same_leaves (suc deep) (suc d) le Unsigned w = refl
  same_leaves (suc deep) (suc d) le Void w = refl
  same_leaves (suc deep) (suc d) le (Pointer' _ t) w = refl
  same_leaves (suc deep) (suc d) le (Array' _ t n) w = ap (repeated n (size_of defs t) 0) (same_leaves deep d (omega (arith, le)) t w)
  same_leaves (suc deep) (suc d) le (Struct s) w = members_same deep d (same_leaves deep d (omega (arith, le))) (members_in (slice_get defs s)) w
