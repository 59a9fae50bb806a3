-- The first of some items that there is, one item onward.
use Rattle.std.proofs.Common.{◌≡◌, ◌∙◌, refl, ap, ℕ, suc, ◌+◌, ◌<◌, arith, List, ◌∷◌, drop, length, get_or, Option, None, Ok}
use Rattle.std.proofs.Math.Seq.{drop-cons}
use Rattle.table_model.specs.Reading.{Walked, first_from}

module _ {A B : Type 0} (test : ℕ → A → Walked (Option B)) where
  first_onward : (n : ℕ) (x : A) (xs : List A) → test n x ≡ Ok None → first_from test n (x ∷ xs) ≡ first_from test (suc n) xs
  first_onward n x xs h = rw h refl

  pub first_behind : (n : ℕ) (xs : List A) (d : A) → n < length xs → test n (get_or xs n d) ≡ Ok None → first_from test n (drop n xs) ≡ first_from test (n + 1) (drop (n + 1) xs)
  first_behind n xs d less h =
      let e : suc n ≡ n + 1 = omega arith in
      ap (λ (ys : List A). first_from test n ys) (drop-cons xs n d less)
      ∙ first_onward n (get_or xs n d) (drop (suc n) xs) h
      ∙ ap (λ (k : ℕ). first_from test k (drop k xs)) e
