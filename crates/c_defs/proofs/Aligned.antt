-- Alignments, one member after another.
use Rattle.std.proofs.Common.{arith, ◌≡◌, ◌≤◌, ◌<◌, ◌+◌, ℕ, zero, suc, Bool, true, false, List, [], ◌∷◌, length, drop, slice_index_or, sym, ap, ◌∙◌}
use Rattle.c_tree.specs.declared.types.CType.{CType}
use Rattle.c_tree.specs.declared.types.CType.TheVariants as ctype
use Rattle.c_tree.specs.declared.types.StructDef.{StructDef}
use Rattle.c_tree.specs.declared.types.Member.{Member}
use Rattle.c_tree.specs.Layout.{alignment_within, alignment_of_members, members_of}
use Rattle.c_defs.specs.Kept.{bytes_aligned}
use Rattle.c_defs.proofs.Items.{item_of}

-- members are aligned at 4 at most where their types are
most_of : (f : CType → ℕ) (ms : List Member) → ((t : CType) → f t ≤ 4) → alignment_of_members f ms ≤ 4
most_of f [] h = omega arith
most_of f (m ∷ ms) h = omega (arith, h m.ctype, most_of f ms h)

most : (defs : List StructDef) (deep : ℕ) (t : CType) → alignment_within defs deep t ≤ 4
most defs zero t = omega arith
most defs (suc deep) ctype.Char = omega arith
most defs (suc deep) ctype.Int = omega arith
most defs (suc deep) ctype.Unsigned = omega arith
most defs (suc deep) ctype.Void = omega arith
most defs (suc deep) (ctype.Pointer' _ t) = omega arith
most defs (suc deep) (ctype.Array' _ t n) = most defs deep t
most defs (suc deep) (ctype.Struct s) = most_of (alignment_within defs deep) (members_of defs s) (λ t. most defs deep t)

least : (f : CType → ℕ) (ms : List Member) → 1 ≤ alignment_of_members f ms
least f [] = omega arith
least f (m ∷ ms) = omega (arith, least f ms)

wide_first : (defs : List StructDef) (deep : ℕ) (m : Member) (ms : List Member) → alignment_within defs deep m.ctype ≡ 4 → alignment_of_members (alignment_within defs deep) (m ∷ ms) ≡ 4
wide_first defs deep m ms h = omega (arith, h, most_of (alignment_within defs deep) ms (λ t. most defs deep t))

narrow_first : (defs : List StructDef) (deep : ℕ) (m : Member) (ms : List Member) → alignment_within defs deep m.ctype ≡ 1
    → alignment_of_members (alignment_within defs deep) (m ∷ ms) ≡ alignment_of_members (alignment_within defs deep) ms
narrow_first defs deep m ms h = omega (arith, h, least (alignment_within defs deep) ms)

module _ (defs : List StructDef) (deep : ℕ) (ms : List Member) (i : ℕ) (m : Member) (wide : Bool) where
  pub wide_item : i < length ms → m ≡ slice_index_or ms i m → alignment_within defs deep m.ctype ≡ bytes_aligned wide → wide ≡ true → alignment_of_members (alignment_within defs deep) (drop i ms) ≡ 4
  wide_item h e a w = ap (alignment_of_members (alignment_within defs deep)) (item_of ms i m h e) ∙ wide_first defs deep m (drop (i + 1) ms) (a ∙ ap bytes_aligned w)

  pub narrow_item : i < length ms → m ≡ slice_index_or ms i m → alignment_within defs deep m.ctype ≡ bytes_aligned wide → wide ≡ false
      → alignment_of_members (alignment_within defs deep) (drop (i + 1) ms) ≡ alignment_of_members (alignment_within defs deep) (drop i ms)
  narrow_item h e a w = sym (ap (alignment_of_members (alignment_within defs deep)) (item_of ms i m h e) ∙ narrow_first defs deep m (drop (i + 1) ms) (a ∙ ap bytes_aligned w))
