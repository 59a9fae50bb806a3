-- When lists of types are the same, and which of two types has a bound.
use Rattle.std.proofs.Common.{◌≡◌, ◌≢◌, ℕ, zero, suc, Bool, true, false, ◌&&◌, List, [], ◌∷◌, length, map, ◌∙◌, refl, ap}
use Rattle.c_tree.specs.declared.types.CType.{CType}
use Rattle.c_typing.specs.Plain.{Plain, Array, plain, same}
use Rattle.c_linkage.specs.Names.{same_all, bounded_one}

and_false : (b : Bool) → (b && false) ≡ false
and_false true = refl
and_false false = refl

-- lists of other lengths
pub other_count : (ss ts : List CType) → length ss ≢ length ts → same_all (map plain ss) (map plain ts) ≡ false
other_count [] [] h = absurd (h refl)
other_count [] (t ∷ ts) h = refl
other_count (s ∷ ss) [] h = refl
other_count (s ∷ ss) (t ∷ ts) h = ap (λ b. same (plain s) (plain t) && b) (other_count ss ts (λ e. h (ap suc e))) ∙ and_false (same (plain s) (plain t))

pub with_a_bound : (n : ℕ) (s t : Plain) → n ≢ 0 → bounded_one (Array s n) t ≡ Array s n
with_a_bound zero s t h = absurd (h refl)
with_a_bound (suc n) s t h = refl
