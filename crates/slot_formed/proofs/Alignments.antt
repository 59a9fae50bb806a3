-- A struct of one member is as large as it, since a size is a multiple of the alignment.
use Rattle.std.proofs.Common.{◌≡◌, refl, sym, ap, subst, ◌∙◌, arith, ℕ, suc, zero, ◌*◌, ◌%◌, ◌≤◌, List, [], ◌∷◌, Option, Some, None, slice_get, ◌⊎◌, inl, inr}
use Rattle.std.specs.Prelude.{max}
use Rattle.std.specs.Int.{next_multiple_of}
use Rattle.std.specs.List.{AllByRecursion}
use Rattle.c_tree.specs.declared.types.CType.{CType}
use Rattle.c_tree.specs.declared.types.CType.TheVariants.{Char, Int, Unsigned, Void, Pointer', Array', Struct}
use Rattle.c_tree.specs.declared.types.StructDef.{StructDef}
use Rattle.c_tree.specs.declared.types.Member.{Member}
use Rattle.c_tree.specs.Layout.{size_of, size_in, members_in, IsWithin, alignment_of, alignment_within, alignment_of_members}
use Rattle.c_typing.specs.Written.{IsDeclared}
use Rattle.c_typing.specs.Declarations.{IsStruct}
use Rattle.c_typing.specs.Programs.{AllFrom}
use Rattle.slot_formed.proofs.Sizes.{struct_there}

abbrev IsOneOrFour : ℕ → Type 0
IsOneOrFour a = (a ≡ 1) ⊎ (a ≡ 4)

greater : (a b : ℕ) → IsOneOrFour a → IsOneOrFour b → IsOneOrFour (max a b)
greater a b (inl p) (inl q) = inl (ap (λ x. max x b) p ∙ ap (max 1) q)
greater a b (inl p) (inr q) = inr (ap (λ x. max x b) p ∙ ap (max 1) q)
greater a b (inr p) (inl q) = inr (ap (λ x. max x b) p ∙ ap (max 4) q)
greater a b (inr p) (inr q) = inr (ap (λ x. max x b) p ∙ ap (max 4) q)

of_members : (f : CType → ℕ) → ((t : CType) → IsOneOrFour (f t)) → (ms : List Member) → IsOneOrFour (alignment_of_members f ms)
of_members f h [] = inl refl
of_members f h (m ∷ ms) = greater (f m.ctype) (alignment_of_members f ms) (h m.ctype) (of_members f h ms)

-- a multiple of an alignment
abbrev IsMultiple : (alignment : ℕ) → ℕ → Type 0
IsMultiple a n = (a ≡ 1) ⊎ (n % 4 ≡ 0)

next_four : (x a : ℕ) → a ≡ 4 → next_multiple_of x a % 4 ≡ 0
next_four x a e = subst (λ a. next_multiple_of x a % 4 ≡ 0) (sym e) (omega arith)

some_times : (n x : ℕ) → x % 4 ≡ 0 → n * x % 4 ≡ 0
some_times zero x e = omega arith
some_times (suc n) x e = let rest = some_times n x e in omega (arith, rest, e)

next_alone : (x a : ℕ) → IsOneOrFour a → IsMultiple a x → next_multiple_of x (max a 1) ≡ x
next_alone x a (inl p) h = ap (λ b. next_multiple_of x (max b 1)) p ∙ by_one
  where
    by_one : next_multiple_of x 1 ≡ x
    by_one = omega arith
next_alone x a (inr p) (inl q) = absurd (omega (arith, p, q))
next_alone x a (inr p) (inr q) = ap (λ b. next_multiple_of x (max b 1)) p ∙ by_four q
  where
    by_four : x % 4 ≡ 0 → next_multiple_of x 4 ≡ x
    by_four q = omega (arith, q)

module _ (defs : List StructDef) where
  one_or_four : (deep : ℕ) (t : CType) → IsOneOrFour (alignment_within defs deep t)
  one_or_four zero t = inl refl
  one_or_four (suc deep) Char = inl refl
  one_or_four (suc deep) Int = inr refl
  one_or_four (suc deep) Unsigned = inr refl
  one_or_four (suc deep) Void = inl refl
  one_or_four (suc deep) (Pointer' _ t) = inr refl
  one_or_four (suc deep) (Array' _ t n) = one_or_four deep t
  one_or_four (suc deep) (Struct s) = of_members (alignment_within defs deep) (one_or_four deep) (members_in (slice_get defs s))

  -- a type that is not so deep has the same alignment where it is looked at deeper
  same_members : (W : CType → Type 0) (a b : CType → ℕ) → ((t : CType) → W t → a t ≡ b t) → (ms : List Member) → AllByRecursion (λ (m : Member). W m.ctype) ms → alignment_of_members a ms ≡ alignment_of_members b ms
  same_members W a b same [] w = refl
  same_members W a b same (m ∷ ms) w = ap (λ x. max x (alignment_of_members a ms)) (same m.ctype w.0) ∙ ap (max (b m.ctype)) (same_members W a b same ms w.1)

  same_alignment : (deep deeper : ℕ) → deep ≤ deeper → (t : CType) → IsWithin defs deep t → alignment_within defs deep t ≡ alignment_within defs deeper t
  same_alignment zero d le t w = absurd w
  same_alignment (suc deep) zero le t w = absurd (omega (arith, le))
  same_alignment (suc deep) (suc d) le Char w = refl
  same_alignment (suc deep) (suc d) le Int w = refl
  same_alignment (suc deep) (suc d) le Unsigned w = refl
  same_alignment (suc deep) (suc d) le Void w = refl
  same_alignment (suc deep) (suc d) le (Pointer' _ t) w = refl
  same_alignment (suc deep) (suc d) le (Array' _ t n) w = same_alignment deep d (omega (arith, le)) t w
  same_alignment (suc deep) (suc d) le (Struct s) w =
      same_members (IsWithin defs deep) (alignment_within defs deep) (alignment_within defs d) (same_alignment deep d (omega (arith, le))) (members_in (slice_get defs s)) w

  module _ (structs : AllFrom (IsStruct defs) 0 defs) where
    struct_multiple : (deep s : ℕ) → deep ≤ 64 → (o : Option StructDef) → slice_get defs s ≡ o → AllByRecursion (λ (m : Member). IsWithin defs deep m.ctype) (members_in o) → IsMultiple (alignment_of_members (alignment_within defs deep) (members_in o)) (size_in o)
    struct_multiple deep s le None e w = inr refl
    struct_multiple deep s le (Some d) e w =
        let laid = (struct_there defs structs s d e).3 in
        let same = same_members (IsWithin defs deep) (alignment_within defs deep) (alignment_of defs) (same_alignment deep 64 le) d.members w in
        by laid.0 laid.2 same (of_members (alignment_of defs) (one_or_four 64) d.members)
      where
        by : (end : ℕ) → d.size ≡ next_multiple_of end (alignment_of_members (alignment_of defs) d.members) → alignment_of_members (alignment_within defs deep) d.members ≡ alignment_of_members (alignment_of defs) d.members
            → IsOneOrFour (alignment_of_members (alignment_of defs) d.members) → IsMultiple (alignment_of_members (alignment_within defs deep) d.members) d.size
        by end size same (inl p) = inl (same ∙ p)
        by end size same (inr p) = inr (ap (λ n. n % 4) size ∙ next_four end (alignment_of_members (alignment_of defs) d.members) p)

    size_multiple : (deep : ℕ) → deep ≤ 64 → (t : CType) → IsWithin defs deep t → IsMultiple (alignment_within defs deep t) (size_of defs t)
    size_multiple zero le t w = absurd w
    size_multiple (suc deep) le Char w = inl refl
    size_multiple (suc deep) le Int w = inr refl
    size_multiple (suc deep) le Unsigned w = inr refl
    size_multiple (suc deep) le Void w = inl refl
    size_multiple (suc deep) le (Pointer' _ t) w = inr refl
    size_multiple (suc deep) le (Array' _ t n) w = by (size_multiple deep (omega (arith, le)) t w)
      where
        by : IsMultiple (alignment_within defs deep t) (size_of defs t) → IsMultiple (alignment_within defs deep t) (n * size_of defs t)
        by (inl p) = inl p
        by (inr p) = inr (some_times n (size_of defs t) p)
    size_multiple (suc deep) le (Struct s) w = struct_multiple deep s (omega (arith, le)) (slice_get defs s) refl w

    pub lone_size : (m : Member) → IsDeclared defs m.ctype → next_multiple_of (size_of defs m.ctype) (alignment_of_members (alignment_of defs) (m ∷ [])) ≡ size_of defs m.ctype
    lone_size m h = next_alone (size_of defs m.ctype) (alignment_of defs m.ctype) (one_or_four 64 m.ctype) (size_multiple 64 (omega arith) m.ctype h.0.0)

  pub lone_at : (m : Member) → m.at ≡ next_multiple_of 0 (alignment_of defs m.ctype) → m.at ≡ 0
  lone_at m e = by (one_or_four 64 m.ctype)
    where
      by : IsOneOrFour (alignment_of defs m.ctype) → m.at ≡ 0
      by (inl p) = e ∙ ap (next_multiple_of 0) p
      by (inr p) = e ∙ ap (next_multiple_of 0) p
