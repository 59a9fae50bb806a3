-- A string's characters, part by part.
use Rattle.std.proofs.Common.{◌≡◌, ℕ, zero, suc, ◌+◌, ◌-◌, ◌≤◌, List, [], ◌∷◌, ◌++◌, drop, refl, sym, ap, subst, append_assoc, ◌∙◌, arith, Option}
use Rattle.std.proofs.lemmas.List.{drop-drop}
use Rattle.std.specs.Option.{option_to_list}
use Rattle.ps_scan.specs.Characters.{part, characters_behind, characters}

-- the bytes that are passed stand for nothing more
passed : (n : ℕ) (bs : List ℕ) → characters_behind n bs ≡ characters (drop n bs)
passed zero bs = refl
passed (suc n) [] = refl
passed (suc n) (b ∷ bs) = passed n bs

part_first : (bs : List ℕ) → 1 ≤ (part bs).0 → characters bs ≡ option_to_list (part bs).1 ++ characters (drop (part bs).0 bs)
part_first [] h = refl
part_first (b ∷ bs) h =
    let n = (part (b ∷ bs)).0 in
    let next : suc (n - 1) ≡ n = omega (arith, h) in
    ap (λ rest. option_to_list (part (b ∷ bs)).1 ++ rest) (passed (n - 1) bs ∙ ap (λ k. characters (drop k (b ∷ bs))) next)

part_at : (bs : List ℕ) (i : ℕ) → 1 ≤ (part (drop i bs)).0
    → characters (drop i bs) ≡ option_to_list (part (drop i bs)).1 ++ characters (drop (i + (part (drop i bs)).0) bs)
part_at bs i h = part_first (drop i bs) h ∙ ap (λ rest. option_to_list (part (drop i bs)).1 ++ characters rest) (drop-drop (part (drop i bs)).0 i bs)

-- one more part is made
pub one_more : (bs all more : List ℕ) (i : ℕ) (p : ℕ × Option ℕ) → p ≡ part (drop i bs) → 1 ≤ p.0 → more ≡ all ++ option_to_list p.1
    → all ++ characters (drop i bs) ≡ characters bs → more ++ characters (drop (i + p.0) bs) ≡ characters bs
one_more bs all more i p is some made inv =
    ap (λ xs. xs ++ characters (drop (i + p.0) bs)) made
    ∙ append_assoc all (option_to_list p.1) (characters (drop (i + p.0) bs))
    ∙ ap (λ rest. all ++ rest) (ap (λ q. option_to_list q.1 ++ characters (drop (i + q.0) bs)) is ∙ sym (part_at bs i (subst (λ q. 1 ≤ q.0) is some)))
    ∙ inv
