-- What does not depend on how deep one looks, from a type's depth on.
use Rattle.std.proofs.Common.{arith, ◌≡◌, ◌≤◌, ◌+◌, ◌*◌, ℕ, zero, suc, max, Bool, true, false, ◌&&◌, List, [], ◌∷◌, take, drop, refl, ap, ◌∙◌}
use Rattle.c_tree.specs.declared.types.CType.{CType}
use Rattle.c_tree.specs.declared.types.CType.TheVariants as ctype
use Rattle.c_tree.specs.declared.types.StructDef.{StructDef}
use Rattle.c_tree.specs.declared.types.Member.{Member}
use Rattle.c_tree.specs.Layout.{alignment_within, alignment_of_members, members_of}
use Rattle.c_typing.specs.Plain.{Plain, Char, Int, Unsigned, Void, Pointer, Array, Struct, plain}
use Rattle.c_defs.specs.Depths.{is_within, are_within}
use Rattle.c_defs.specs.Leaves.{leaf_count, leaves_of_members}

pub and_left : (a b : Bool) → (a && b) ≡ true → a ≡ true
and_left true b h = refl
and_left false b h = h

pub and_right : (a b : Bool) → (a && b) ≡ true → b ≡ true
and_right true b h = h
and_right false b h = absurd (let x : false ≡ true = h in cc)

-- what is the same of each member's type is the same of all members
pub same_leaves : (b : Plain → Bool) (f g : Plain → ℕ) → ((t : Plain) → b t ≡ true → f t ≡ g t) → (ms : List Member) → are_within b ms ≡ true → leaves_of_members f ms ≡ leaves_of_members g ms
same_leaves b f g e [] h = refl
same_leaves b f g e (m ∷ ms) h = λ i. e (plain m.ctype) (and_left (b (plain m.ctype)) (are_within b ms) h) i + same_leaves b f g e ms (and_right (b (plain m.ctype)) (are_within b ms) h) i

pub same_alignment : (b : Plain → Bool) (f g : CType → ℕ) → ((t : CType) → b (plain t) ≡ true → f t ≡ g t) → (ms : List Member) → are_within b ms ≡ true
    → alignment_of_members f ms ≡ alignment_of_members g ms
same_alignment b f g e [] h = refl
same_alignment b f g e (m ∷ ms) h = λ i. max (e m.ctype (and_left (b (plain m.ctype)) (are_within b ms) h) i) (same_alignment b f g e ms (and_right (b (plain m.ctype)) (are_within b ms) h) i)

pub same_within : (b f g : Plain → Bool) → ((t : Plain) → b t ≡ true → f t ≡ g t) → (ms : List Member) → are_within b ms ≡ true → are_within f ms ≡ are_within g ms
same_within b f g e [] h = refl
same_within b f g e (m ∷ ms) h = λ i. e (plain m.ctype) (and_left (b (plain m.ctype)) (are_within b ms) h) i && same_within b f g e ms (and_right (b (plain m.ctype)) (are_within b ms) h) i

pub all_within : (b c : Plain → Bool) → ((t : Plain) → b t ≡ true → c t ≡ true) → (ms : List Member) → are_within b ms ≡ true → are_within c ms ≡ true
all_within b c e [] h = refl
all_within b c e (m ∷ ms) h =
    ap (λ x. x && are_within c ms) (e (plain m.ctype) (and_left (b (plain m.ctype)) (are_within b ms) h)) ∙ all_within b c e ms (and_right (b (plain m.ctype)) (are_within b ms) h)

module _ (defs : List StructDef) where
  pub counted_same : (n k : ℕ) (t : Plain) → is_within defs n t ≡ true → n ≤ k → leaf_count defs n t ≡ leaf_count defs k t
  counted_same zero k t h l = absurd (let x : false ≡ true = h in cc)
  counted_same (suc n) zero t h l = absurd (omega (arith, l))
  counted_same (suc n) (suc k) Char h l = refl
  counted_same (suc n) (suc k) Int h l = refl
  counted_same (suc n) (suc k) Unsigned h l = refl
  counted_same (suc n) (suc k) Void h l = refl
  counted_same (suc n) (suc k) (Pointer t) h l = refl
  counted_same (suc n) (suc k) (Array t m) h l = ap (λ x. m * x) (counted_same n k t h (omega (arith, l)))
  counted_same (suc n) (suc k) (Struct s) h l = same_leaves (is_within defs n) (leaf_count defs n) (leaf_count defs k) (λ t w. counted_same n k t w (omega (arith, l))) (members_of defs s) h

  pub aligned_same : (n k : ℕ) (t : CType) → is_within defs n (plain t) ≡ true → n ≤ k → alignment_within defs n t ≡ alignment_within defs k t
  aligned_same zero k t h l = absurd (let x : false ≡ true = h in cc)
  aligned_same (suc n) zero t h l = absurd (omega (arith, l))
  aligned_same (suc n) (suc k) ctype.Char h l = refl
  aligned_same (suc n) (suc k) ctype.Int h l = refl
  aligned_same (suc n) (suc k) ctype.Unsigned h l = refl
  aligned_same (suc n) (suc k) ctype.Void h l = refl
  aligned_same (suc n) (suc k) (ctype.Pointer' _ t) h l = refl
  aligned_same (suc n) (suc k) (ctype.Array' _ t m) h l = aligned_same n k t h (omega (arith, l))
  aligned_same (suc n) (suc k) (ctype.Struct s) h l = same_alignment (is_within defs n) (alignment_within defs n) (alignment_within defs k) (λ t w. aligned_same n k t w (omega (arith, l))) (members_of defs s) h

  -- of the members of a struct that are all within a depth
  pub leaves_same : (ms : List Member) (n k : ℕ) → are_within (is_within defs n) ms ≡ true → n ≤ k → leaves_of_members (leaf_count defs n) ms ≡ leaves_of_members (leaf_count defs k) ms
  leaves_same ms n k h l = same_leaves (is_within defs n) (leaf_count defs n) (leaf_count defs k) (λ t w. counted_same n k t w l) ms h

  pub alignment_same : (ms : List Member) (n k : ℕ) → are_within (is_within defs n) ms ≡ true → n ≤ k
      → alignment_of_members (alignment_within defs n) ms ≡ alignment_of_members (alignment_within defs k) ms
  alignment_same ms n k h l = same_alignment (is_within defs n) (alignment_within defs n) (alignment_within defs k) (λ t w. aligned_same n k t w l) ms h

-- leaves of the first members and of those behind
pub split_leaves : (f : Plain → ℕ) (ms : List Member) (k : ℕ) → leaves_of_members f (take k ms) + leaves_of_members f (drop k ms) ≡ leaves_of_members f ms
split_leaves f [] zero = refl
split_leaves f [] (suc k) = refl
split_leaves f (m ∷ ms) zero = omega arith
split_leaves f (m ∷ ms) (suc k) = omega (arith, split_leaves f ms k)
