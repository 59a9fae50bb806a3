-- The layout of structs: alignments, members one after another, and what lies behind the largest size.
use Rattle.std.proofs.Common.{arith, ◌≡◌, ◌≤◌, ◌<◌, ◌+◌, ℕ, zero, suc, List, [], ◌∷◌, ◌++◌, length, map, drop, refl, sym, ap, subst, ◌∙◌, None}
use Rattle.std.proofs.lemmas.List.{map-append, append_assoc}
use Rattle.std.specs.Int.{next_multiple_of}
use Rattle.c_tree.specs.declared.types.CType.{CType}
use Rattle.c_tree.specs.declared.types.CType.TheVariants as ctype
use Rattle.c_tree.specs.declared.types.StructDef.{StructDef}
use Rattle.c_tree.specs.declared.types.Member.{Member}
use Rattle.c_tree.specs.Layout as layout
use Rattle.c_tree.specs.Layout.{alignment_within, alignment_of_members, alignment_of, members_of, AreLaid}
use Rattle.c_typing.specs.Plain.{Plain, Char, Int, Unsigned, Void, Pointer, Array, Struct, plain}
use Rattle.c_typing.specs.Values.{size_of}
use Rattle.c_struct.specs.declared.members.WrittenMember.{WrittenMember}
use Rattle.c_struct.specs.Structs.{Open, written, IsRow}
use Rattle.c_struct.specs.Opened.{written_member}
use Rattle.c_struct.specs.Laying.{IsMember, AreMembers, AreLaidOrLarge, IsRowOrLarge}
use Rattle.c_scope.proofs.Sizes.{size_of_plain}

-- ---- alignments

-- alignment and size are those of the plain type
abbrev aligned : List StructDef → ℕ → Plain → ℕ
aligned defs zero t = 1
aligned defs (suc deep) Char = 1
aligned defs (suc deep) Int = 4
aligned defs (suc deep) Unsigned = 4
aligned defs (suc deep) Void = 1
aligned defs (suc deep) (Pointer t) = 4
aligned defs (suc deep) (Array t n) = aligned defs deep t
aligned defs (suc deep) (Struct s) = alignment_of_members (alignment_within defs deep) (members_of defs s)

aligned_plain : (defs : List StructDef) (deep : ℕ) (t : CType) → alignment_within defs deep t ≡ aligned defs deep (plain t)
aligned_plain defs zero t = refl
aligned_plain defs (suc deep) ctype.Char = refl
aligned_plain defs (suc deep) ctype.Int = refl
aligned_plain defs (suc deep) ctype.Unsigned = refl
aligned_plain defs (suc deep) ctype.Void = refl
aligned_plain defs (suc deep) (ctype.Pointer' _ t) = refl
aligned_plain defs (suc deep) (ctype.Array' _ t n) = aligned_plain defs deep t
aligned_plain defs (suc deep) (ctype.Struct s) = refl

same_alignment : (defs : List StructDef) (deep : ℕ) (s t : CType) → plain s ≡ plain t → alignment_within defs deep s ≡ alignment_within defs deep t
same_alignment defs deep s t h = aligned_plain defs deep s ∙ (ap (aligned defs deep) h ∙ sym (aligned_plain defs deep t))

same_size : (defs : List StructDef) (s t : CType) → plain s ≡ plain t → layout.size_of defs s ≡ layout.size_of defs t
same_size defs s t h = size_of_plain defs s ∙ (ap (size_of defs) h ∙ sym (size_of_plain defs t))

-- ---- members one after another

pub laid_behind : (defs : List StructDef) (from end far : ℕ) (ds es : List Member) → AreLaid defs from ds end → AreLaid defs end es far → AreLaid defs from (ds ++ es) far
laid_behind defs from end far [] es h k = subst (λ n. AreLaid defs n es far) (sym h) k
laid_behind defs from end far (d ∷ ds) es h k = (h.0, laid_behind defs (d.at + layout.size_of defs d.ctype) end far ds es h.1 k)

same_written : (m : WrittenMember) (at : ℕ) (r : Member) → IsMember m at r → written r ≡ written_member m
same_written m at r h = λ i. record { name = h.0 i; ctype = h.2 i }

-- one member more
pub member_laid : (defs : List StructDef) (ds : List Member) (m : WrittenMember) (r : Member) (end : ℕ) (at far : ℕ) → AreLaid defs 0 ds end
    → at ≡ next_multiple_of end (alignment_of defs m.ctype) → far ≡ at + layout.size_of defs m.ctype → IsMember m at r → AreLaid defs 0 (ds ++ r ∷ []) far
member_laid defs ds m r end at far h p q k =
    laid_behind defs 0 end far ds (r ∷ []) h (
      k.1 ∙ (p ∙ ap (λ n. next_multiple_of end n) (sym (same_alignment defs 64 r.ctype m.ctype k.2))),
      ap (λ n. n + layout.size_of defs r.ctype) k.1 ∙ (ap (λ n. at + n) (same_size defs r.ctype m.ctype k.2) ∙ sym q),
    )

pub member_written : (ds : List Member) (m : WrittenMember) (r : Member) (at : ℕ) (ms all : List WrittenMember) → IsMember m at r
    → (map written ds ++ map written_member (m ∷ ms)) ≡ map written_member all → (map written (ds ++ r ∷ []) ++ map written_member ms) ≡ map written_member all
member_written ds m r at ms all k h =
    ap (λ ws. ws ++ map written_member ms) (map-append written ds (r ∷ [])) ∙
    (append_assoc (map written ds) (written r ∷ []) (map written_member ms) ∙
    (ap (λ w. map written ds ++ (w ∷ map written_member ms)) (same_written m at r k) ∙ h))

-- ---- behind the largest size

-- where the members that are left would stand, and where they would end
abbrev left_of : List StructDef → ℕ → List WrittenMember → List Member
left_of defs from [] = []
left_of defs from (m ∷ ms) =
    record { name = m.name.now; at = next_multiple_of from (alignment_of defs m.ctype); ctype = m.ctype } ∷
    left_of defs (next_multiple_of from (alignment_of defs m.ctype) + layout.size_of defs m.ctype) ms

abbrev end_of : List StructDef → ℕ → List WrittenMember → ℕ
end_of defs from [] = from
end_of defs from (m ∷ ms) = end_of defs (next_multiple_of from (alignment_of defs m.ctype) + layout.size_of defs m.ctype) ms

left_laid : (defs : List StructDef) (from : ℕ) (ms : List WrittenMember) → AreLaid defs from (left_of defs from ms) (end_of defs from ms)
left_laid defs from [] = refl
left_laid defs from (m ∷ ms) = (refl, left_laid defs (next_multiple_of from (alignment_of defs m.ctype) + layout.size_of defs m.ctype) ms)

left_written : (defs : List StructDef) (from : ℕ) (ms : List WrittenMember) → map written (left_of defs from ms) ≡ map written_member ms
left_written defs from [] = refl
left_written defs from (m ∷ ms) = ap (λ ws. written_member m ∷ ws) (left_written defs (next_multiple_of from (alignment_of defs m.ctype) + layout.size_of defs m.ctype) ms)

not_less : (n k : ℕ) → n ≤ next_multiple_of n k
not_less n k = omega arith

end_grows : (defs : List StructDef) (from : ℕ) (ms : List WrittenMember) → from ≤ end_of defs from ms
end_grows defs from [] = omega arith
end_grows defs from (m ∷ ms) =
    let at = next_multiple_of from (alignment_of defs m.ctype) in
    let a : from ≤ at = not_less from (alignment_of defs m.ctype) in
    let b : at + layout.size_of defs m.ctype ≤ end_of defs (at + layout.size_of defs m.ctype) ms = end_grows defs (at + layout.size_of defs m.ctype) ms in
    omega (arith, a, b)

pub too_large : (defs : List StructDef) (ds : List Member) (end : ℕ) (m : WrittenMember) (ms all : List WrittenMember) → AreLaid defs 0 ds end
    → (map written ds ++ map written_member (m ∷ ms)) ≡ map written_member all → 1048576 < next_multiple_of end (alignment_of defs m.ctype) + layout.size_of defs m.ctype
    → AreLaidOrLarge defs all None
too_large defs ds end m ms all h w k =
    let far = end_of defs end (m ∷ ms) in (
      ds ++ left_of defs end (m ∷ ms),
      far,
      (
        map-append written ds (left_of defs end (m ∷ ms)) ∙ (ap (λ ws. map written ds ++ ws) (left_written defs end (m ∷ ms)) ∙ w),
        laid_behind defs 0 end far ds (left_of defs end (m ∷ ms)) h (left_laid defs end (m ∷ ms)),
      ),
      omega (arith, k, end_grows defs (next_multiple_of end (alignment_of defs m.ctype) + layout.size_of defs m.ctype) ms),
    )

-- ---- the row

pub large_row : (defs : List StructDef) (o : Open) (ms : List WrittenMember) → o.members ≡ map written_member ms → AreLaidOrLarge defs ms None → IsRowOrLarge defs o None
large_row defs o ms e h =
    let size = next_multiple_of h.1 (alignment_of_members (alignment_of defs) h.0) in (
      record { tag = o.tag; size = size; members = h.0 },
      (h.2.0 ∙ sym e, refl, (h.1, h.2.1, refl)),
      omega (arith, h.3, not_less h.1 (alignment_of_members (alignment_of defs) h.0)),
    )

pub row_laid : (defs : List StructDef) (o : Open) (ms : List WrittenMember) (d : StructDef) (end : ℕ) → o.members ≡ map written_member ms → AreMembers defs ms d.members end → d.tag ≡ o.tag
    → d.size ≡ next_multiple_of end (alignment_of_members (alignment_of defs) d.members) → IsRow defs o d
row_laid defs o ms d end e h t s = (h.0 ∙ sym e, t, (end, h.1, s))

-- ---- items of lists

pub none_left : {A : Type 0} (xs : List A) (i : ℕ) → length xs ≤ i → drop i xs ≡ []
none_left [] zero h = refl
none_left [] (suc i) h = refl
none_left (x ∷ xs) zero h = absurd (omega arith)
none_left (x ∷ xs) (suc i) h = none_left xs i (omega arith)

pub empty_of : {A : Type 0} (xs : List A) → length xs ≡ 0 → xs ≡ []
empty_of [] h = refl
empty_of (x ∷ xs) h = absurd (omega arith)
