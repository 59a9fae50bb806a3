-- The kinds of an object's leaves, and objects that begin with zeros.
use Rattle.std.proofs.Common.{◌≡◌, ◌<◌, refl, sym, ap, ◌∙◌, subst, arith, ℕ, zero, suc, ◌+◌, ◌*◌, true, List, [], ◌∷◌, ◌++◌, length, map, replicate}
use Rattle.std.specs.Prelude.{◌≤◌, nat_le, Option, Some, None, slice_get}
use Rattle.std.specs.List.{AllByRecursion}
use Rattle.ldb_words.specs.declared.kinds.Kind.{Kind}
use Rattle.ldb_words.specs.declared.kinds.Kind.TheVariants.{Byte, Word, Address}
use Rattle.c_tree.specs.declared.types.CType.{CType}
use Rattle.c_tree.specs.declared.types.CType.TheVariants as ctype
use Rattle.c_tree.specs.declared.types.StructDef.{StructDef}
use Rattle.c_tree.specs.declared.types.Member.{Member}
use Rattle.c_tree.specs.declared.types.Leaf.{Leaf}
use Rattle.c_tree.specs.declared.rows.Program.{Program}
use Rattle.c_tree.specs.declared.rows.ObjectRow.{ObjectRow}
use Rattle.c_tree.specs.declared.rows.Start.{Start}
use Rattle.c_tree.specs.declared.rows.Start.TheVariants.{Number, Object, Str}
use Rattle.c_tree.specs.Layout as layout
use Rattle.c_tree.specs.Layout.{members_of, leaves_at, repeated, leaves_within, leaves_of}
use Rattle.c_typing.specs.Plain.{Plain, Char, Int, Unsigned, Void, Pointer, Array, Struct, plain, is_empty, is_complete}
use Rattle.c_typing.specs.Starts.{Starts, AreStarts}
use Rattle.c_operators.specs.Bits.{low_byte}
use Rattle.c_defs.specs.Depths.{deepest}
use Rattle.c_defs.specs.Leaves.{leaf_count, leaves_of_members}
use Rattle.c_accepted.specs.Grown.{ctype_of, IsHeld, Grows}
use Rattle.c_accepted.proofs.Starting.{IsWordStart}
use Rattle.c_accepted.proofs.Growth.{both_parts, not_empty}

-- ---- kinds

abbrev pub times_of : ℕ → List Kind → List Kind
times_of zero ks = []
times_of (suc n) ks = ks ++ times_of n ks

abbrev pub kinds_of_all : (Plain → List Kind) → List Plain → List Kind
kinds_of_all f [] = []
kinds_of_all f (t ∷ ts) = f t ++ kinds_of_all f ts

-- the kinds of the leaves of a type that is at most so deep
abbrev pub kinds_of : List StructDef → (deep : ℕ) → Plain → List Kind
kinds_of defs zero t = []
kinds_of defs (suc deep) Char = Byte ∷ []
kinds_of defs (suc deep) Int = Word ∷ []
kinds_of defs (suc deep) Unsigned = Word ∷ []
kinds_of defs (suc deep) Void = []
kinds_of defs (suc deep) (Pointer t) = Address ∷ []
kinds_of defs (suc deep) (Array t n) = times_of n (kinds_of defs deep t)
kinds_of defs (suc deep) (Struct s) = kinds_of_all (kinds_of defs deep) (map ctype_of (members_of defs s))

abbrev kind_of : Leaf → Kind
kind_of l = l.kind

both_lists : {A B : Type 0} (f : A → B) (xs ys : List A) → map f (xs ++ ys) ≡ map f xs ++ map f ys
both_lists f [] ys = refl
both_lists f (x ∷ xs) ys = ap (λ l. f x ∷ l) (both_lists f xs ys)

moved_kinds : (by : ℕ) (ls : List Leaf) → map kind_of (leaves_at by ls) ≡ map kind_of ls
moved_kinds by [] = refl
moved_kinds by (l ∷ ls) = ap (λ ks. l.kind ∷ ks) (moved_kinds by ls)

repeated_kinds : (n size at : ℕ) (ls : List Leaf) → map kind_of (repeated n size at ls) ≡ times_of n (map kind_of ls)
repeated_kinds zero size at ls = refl
repeated_kinds (suc n) size at ls =
    both_lists kind_of (leaves_at at ls) (repeated n size (at + size) ls) ∙ (λ i. moved_kinds at ls i ++ repeated_kinds n size (at + size) ls i)

members_kinds : (f : CType → List Leaf) (k : Plain → List Kind) → ((u : CType) → map kind_of (f u) ≡ k (plain u)) → (ms : List Member) → map kind_of (layout.leaves_of_members f ms) ≡ kinds_of_all k (map ctype_of ms)
members_kinds f k w [] = refl
members_kinds f k w (m ∷ ms) =
    both_lists kind_of (leaves_at m.at (f m.ctype)) (layout.leaves_of_members f ms) ∙ (λ i. (moved_kinds m.at (f m.ctype) ∙ w m.ctype) i ++ members_kinds f k w ms i)

pub leaf_kinds : (defs : List StructDef) (n : ℕ) (u : CType) → map kind_of (leaves_within defs n u) ≡ kinds_of defs n (plain u)
leaf_kinds defs zero u = refl
leaf_kinds defs (suc n) ctype.Char = refl
leaf_kinds defs (suc n) ctype.Int = refl
leaf_kinds defs (suc n) ctype.Unsigned = refl
leaf_kinds defs (suc n) ctype.Void = refl
leaf_kinds defs (suc n) (ctype.Pointer' b t) = refl
leaf_kinds defs (suc n) (ctype.Array' b t k) = repeated_kinds k (layout.size_of defs t) 0 (leaves_within defs n t) ∙ ap (times_of k) (leaf_kinds defs n t)
leaf_kinds defs (suc n) (ctype.Struct s) = members_kinds (leaves_within defs n) (kinds_of defs n) (λ u. leaf_kinds defs n u) (members_of defs s)

-- ---- how many

both_counts : (xs ys : List Kind) → length (xs ++ ys) ≡ length xs + length ys
both_counts [] ys = omega arith
both_counts (x ∷ xs) ys = let e = both_counts xs ys in omega (arith, e)

times_count : (n : ℕ) (ks : List Kind) → length (times_of n ks) ≡ n * length ks
times_count zero ks = omega arith
times_count (suc n) ks = let e = times_count n ks in let f = both_counts ks (times_of n ks) in f ∙ ap (λ k. length ks + k) e ∙ more n (length ks)
  where
    more : (n k : ℕ) → k + n * k ≡ suc n * k
    more n k = omega arith

members_count : (f : Plain → ℕ) (k : Plain → List Kind) → ((t : Plain) → length (k t) ≡ f t) → (ms : List Member) → length (kinds_of_all k (map ctype_of ms)) ≡ leaves_of_members f ms
members_count f k w [] = refl
members_count f k w (m ∷ ms) = both_counts (k (ctype_of m)) (kinds_of_all k (map ctype_of ms)) ∙ (λ i. w (ctype_of m) i + members_count f k w ms i)

pub kinds_count : (defs : List StructDef) (n : ℕ) (t : Plain) → length (kinds_of defs n t) ≡ leaf_count defs n t
kinds_count defs zero t = refl
kinds_count defs (suc n) Char = refl
kinds_count defs (suc n) Int = refl
kinds_count defs (suc n) Unsigned = refl
kinds_count defs (suc n) Void = refl
kinds_count defs (suc n) (Pointer t) = refl
kinds_count defs (suc n) (Array t k) = times_count k (kinds_of defs n t) ∙ ap (λ c. k * c) (kinds_count defs n t)
kinds_count defs (suc n) (Struct s) = members_count (leaf_count defs n) (kinds_of defs n) (λ t. kinds_count defs n t) (members_of defs s)

-- ---- what is complete keeps its leaves

all_same_kinds : (before : List StructDef) (f k : Plain → List Kind) → ((m : Member) → IsHeld before m → f (ctype_of m) ≡ k (ctype_of m)) → (ms : List Member) → AllByRecursion (IsHeld before) ms
    → kinds_of_all f (map ctype_of ms) ≡ kinds_of_all k (map ctype_of ms)
all_same_kinds before f k w [] h = refl
all_same_kinds before f k w (m ∷ ms) h = λ i. w m h.0 i ++ all_same_kinds before f k w ms h.1 i

module _ (before behind : List StructDef) (g : Grows before behind) where
  pub kinds_grow : (n : ℕ) (t : Plain) → is_complete before t ≡ true → kinds_of behind n t ≡ kinds_of before n t
  kinds_grow zero t h = refl
  kinds_grow (suc n) Char h = refl
  kinds_grow (suc n) Int h = refl
  kinds_grow (suc n) Unsigned h = refl
  kinds_grow (suc n) Void h = refl
  kinds_grow (suc n) (Pointer t) h = refl
  kinds_grow (suc n) (Array t k) h = ap (times_of k) (kinds_grow n t (both_parts (nat_le 1 k) (is_complete before t) h).1)
  kinds_grow (suc n) (Struct s) h =
      ap (kinds_of_all (kinds_of behind n)) (g.members s (not_empty (is_empty (members_of before s)) h)) ∙
      all_same_kinds before (kinds_of behind n) (kinds_of before n) (λ m a. kinds_grow n (ctype_of m) a.1) (members_of before s) (g.held s)

-- ---- what leaves of these kinds hold at first

module _ (p : Program) where
  -- what begins a leaf, but for how large its number is and where its place is
  abbrev pub Suits : Kind → Start → Type 0
  Suits Byte (Number n) = low_byte n ≡ n
  Suits Word (Number n) = Unit {0}
  Suits Address (Number n) = n ≡ 0
  Suits Address (Object o i) = Unit {0}
  Suits Address (Str k) = k < length p.strings
  Suits _ _ = ⊥

  abbrev pub Hold : List Kind → List Start → Type 0
  Hold [] [] = Unit {0}
  Hold (k ∷ ks) (x ∷ xs) = Suits k x × Hold ks xs
  Hold _ _ = ⊥

  abbrev pub IsInObject : ℕ → Option ObjectRow → Type 0
  IsInObject offset None = ⊥
  IsInObject offset (Some row) = offset ≤ layout.size_of p.defs row.ctype

  -- a place is in an object of the program, or its end
  abbrev pub IsPlaceStart : Start → Type 0
  IsPlaceStart (Object o i) = IsInObject i (slice_get p.objects o)
  IsPlaceStart _ = Unit {0}

  one_start : (k : Kind) (x : Start) → Suits k x → IsWordStart x → IsPlaceStart x → Starts p k x
  one_start Byte (Number n) h w i = h
  one_start Word (Number n) h w i = w
  one_start Address (Number n) h w i = h
  one_start Address (Object o j) h w i = i
  one_start Address (Str k) h w i = h
  one_start Byte (Object o j) h w i = absurd h
  one_start Byte (Str k) h w i = absurd h
  one_start Word (Object o j) h w i = absurd h
  one_start Word (Str k) h w i = absurd h

  starts_as : (ls : List Leaf) (xs : List Start) → Hold (map kind_of ls) xs → AllByRecursion IsWordStart xs → AllByRecursion IsPlaceStart xs → AreStarts p ls xs
  starts_as [] [] h w i = tt
  starts_as (l ∷ ls) (x ∷ xs) h w i = (one_start l.kind x h.0 w.0 i.0, starts_as ls xs h.1 w.1 i.1)
  starts_as [] (x ∷ xs) h w i = absurd h
  starts_as (l ∷ ls) [] h w i = absurd h

  pub starts_of : (u : CType) (xs : List Start) → Hold (kinds_of p.defs deepest (plain u)) xs → AllByRecursion IsWordStart xs → AllByRecursion IsPlaceStart xs → AreStarts p (leaves_of p.defs u) xs
  unfolding deepest
  starts_of u xs h = starts_as (leaves_within p.defs 64 u) xs (subst (λ ks. Hold ks xs) (sym (leaf_kinds p.defs 64 u)) h)

  pub one_zero : (k : Kind) → Suits k (Number 0)
  one_zero Byte = refl
  one_zero Word = tt
  one_zero Address = refl

  all_zero : (ks : List Kind) → Hold ks (replicate (length ks) (Number 0))
  all_zero [] = tt
  all_zero (k ∷ ks) = (one_zero k, all_zero ks)

  pub zeros_hold : (t : Plain) → Hold (kinds_of p.defs deepest t) (replicate (leaf_count p.defs deepest t) (Number 0))
  zeros_hold t = subst (λ n. Hold (kinds_of p.defs deepest t) (replicate n (Number 0))) (kinds_count p.defs deepest t) (all_zero (kinds_of p.defs deepest t))

  pub both_hold : (ks ls : List Kind) (xs ys : List Start) → Hold ks xs → Hold ls ys → Hold (ks ++ ls) (xs ++ ys)
  both_hold [] ls [] ys h g = g
  both_hold (k ∷ ks) ls (x ∷ xs) ys h g = (h.0, both_hold ks ls xs ys h.1 g)
  both_hold [] ls (x ∷ xs) ys h g = absurd h
  both_hold (k ∷ ks) ls [] ys h g = absurd h
