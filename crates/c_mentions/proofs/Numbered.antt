-- Literals numbered from the last to the first: the first at an offset counts.
use Rattle.std.proofs.Common.{◌≡◌, ℕ, suc, ◌+◌, ◌<◌, true, false, List, ◌∷◌, length, drop, map, ◌∙◌, sym, refl, ap, Option, Some, nat_eq, slice_index_or, if◌then◌else◌, arith}
use Rattle.std.proofs.Math.Seq.{drop-cons}
use Rattle.std.specs.Map.{update}
use Rattle.c_judge.specs.Scope.{or_else_number}
use Rattle.c_mentions.specs.declared.literals.Literal.{Literal as Found}
use Rattle.c_mentions.specs.Literals.{Literal, literal, number_at}

one_more : (a at n : ℕ) (o : Option ℕ) (ls : List Literal) (text : List ℕ) → or_else_number 0 o ≡ number_at (suc n) ls at
    → or_else_number 0 (if nat_eq a at then Some n else o) ≡ number_at n (record { at = a; text = text } ∷ ls) at
one_more a at n o ls text h = elim (nat_eq a at) as (λ b. or_else_number 0 (if b then Some n else o) ≡ (if b then n else number_at (suc n) ls at)) [ true ↦ refl | false ↦ h ]

-- one literal more in front
pub literal_more : (first j : ℕ) (xs : List Found) (d : Found) (old new : ℕ → Option ℕ) → j < length xs
    → ((at : ℕ) → new at ≡ update nat_eq old (slice_index_or xs j d).at (Some (first + j)) at)
    → ((at : ℕ) → or_else_number 0 (old at) ≡ number_at (first + suc j) (map literal (drop (suc j) xs)) at)
    → (at : ℕ) → or_else_number 0 (new at) ≡ number_at (first + j) (map literal (drop j xs)) at
literal_more first j xs d old new h u o at =
    ap (λ p. or_else_number 0 p) (u at) ∙
    (one_more (slice_index_or xs j d).at at (first + j) (old at) (map literal (drop (suc j) xs)) (literal (slice_index_or xs j d)).text
    (o at ∙ ap (λ n. number_at n (map literal (drop (suc j) xs)) at) (let e : first + suc j ≡ suc (first + j) = omega arith in e)) ∙
    ap (λ l. number_at (first + j) (map literal l) at) (sym (drop-cons xs j d h)))
