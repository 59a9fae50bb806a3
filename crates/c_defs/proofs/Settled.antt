-- What is known of types that hold only structs with rows stays as another struct is completed.
use Rattle.std.proofs.Common.{◌≡◌, ◌*◌, ℕ, zero, suc, Bool, true, false, ◌||◌, List, refl, ap, ◌∙◌, Option}
use Rattle.std.specs.Option.{is_some}
use Rattle.c_tree.specs.declared.types.CType.{CType}
use Rattle.c_tree.specs.declared.types.CType.TheVariants as ctype
use Rattle.c_tree.specs.declared.types.StructDef.{StructDef}
use Rattle.c_tree.specs.Layout.{alignment_within, alignment_of_members, members_of}
use Rattle.c_typing.specs.Plain.{Plain, Char, Int, Unsigned, Void, Pointer, Array, Struct, plain, is_struct}
use Rattle.c_defs.specs.declared.rows.StructRow.{StructRow}
use Rattle.c_defs.specs.Depths.{is_within, are_within}
use Rattle.c_defs.specs.Leaves.{leaf_count, leaves_of_members}
use Rattle.c_defs.specs.Kept.{row_at, is_settled}
use Rattle.c_defs.proofs.Same.{same_leaves, same_alignment, same_within}

or_same : (a b c d : Bool) → (b ≡ true → c ≡ d) → (a || b) ≡ true → (a || c) ≡ (a || d)
or_same true b c d f h = refl
or_same false b c d f h = f h

or_true : (a b c : Bool) → (b ≡ true → c ≡ true) → (a || b) ≡ true → (a || c) ≡ true
or_true true b c f h = refl
or_true false b c f h = f h

-- `defs` and `more` are the structs before and behind: those with rows have the same members, which hold only structs with rows
module _ (defs more : List StructDef) (rows : List (Option StructRow))
    (stay : (s : ℕ) → is_some (row_at rows s) ≡ true → members_of more s ≡ members_of defs s)
    (settled : (s : ℕ) → is_some (row_at rows s) ≡ true → are_within (is_settled rows) (members_of defs s) ≡ true) where
  pub within_stays : (n : ℕ) (t : Plain) → is_settled rows t ≡ true → is_within more n t ≡ is_within defs n t
  within_stays zero t h = refl
  within_stays (suc n) Char h = refl
  within_stays (suc n) Int h = refl
  within_stays (suc n) Unsigned h = refl
  within_stays (suc n) Void h = refl
  within_stays (suc n) (Pointer t) h = or_same (is_struct t) (is_settled rows t) (is_within more n t) (is_within defs n t) (λ k. within_stays n t k) h
  within_stays (suc n) (Array t m) h = within_stays n t h
  within_stays (suc n) (Struct s) h = ap (are_within (is_within more n)) (stay s h) ∙ same_within (is_settled rows) (is_within more n) (is_within defs n) (λ t k. within_stays n t k) (members_of defs s) (settled s h)

  pub count_stays : (n : ℕ) (t : Plain) → is_settled rows t ≡ true → leaf_count more n t ≡ leaf_count defs n t
  count_stays zero t h = refl
  count_stays (suc n) Char h = refl
  count_stays (suc n) Int h = refl
  count_stays (suc n) Unsigned h = refl
  count_stays (suc n) Void h = refl
  count_stays (suc n) (Pointer t) h = refl
  count_stays (suc n) (Array t m) h = ap (λ x. m * x) (count_stays n t h)
  count_stays (suc n) (Struct s) h = ap (leaves_of_members (leaf_count more n)) (stay s h) ∙ same_leaves (is_settled rows) (leaf_count more n) (leaf_count defs n) (λ t k. count_stays n t k) (members_of defs s) (settled s h)

  pub alignment_stays : (n : ℕ) (t : CType) → is_settled rows (plain t) ≡ true → alignment_within more n t ≡ alignment_within defs n t
  alignment_stays zero t h = refl
  alignment_stays (suc n) ctype.Char h = refl
  alignment_stays (suc n) ctype.Int h = refl
  alignment_stays (suc n) ctype.Unsigned h = refl
  alignment_stays (suc n) ctype.Void h = refl
  alignment_stays (suc n) (ctype.Pointer' _ t) h = refl
  alignment_stays (suc n) (ctype.Array' _ t m) h = alignment_stays n t h
  alignment_stays (suc n) (ctype.Struct s) h =
      ap (alignment_of_members (alignment_within more n)) (stay s h) ∙ same_alignment (is_settled rows) (alignment_within more n) (alignment_within defs n) (λ t k. alignment_stays n t k) (members_of defs s) (settled s h)

-- a type that holds only structs with rows does so among more rows
pub settled_more : (rows more : List (Option StructRow)) → ((s : ℕ) → is_some (row_at rows s) ≡ true → is_some (row_at more s) ≡ true) → (t : Plain) → is_settled rows t ≡ true → is_settled more t ≡ true
settled_more rows more k Char h = refl
settled_more rows more k Int h = refl
settled_more rows more k Unsigned h = refl
settled_more rows more k Void h = refl
settled_more rows more k (Pointer t) h = or_true (is_struct t) (is_settled rows t) (is_settled more t) (λ j. settled_more rows more k t j) h
settled_more rows more k (Array t n) h = settled_more rows more k t h
settled_more rows more k (Struct s) h = k s h
