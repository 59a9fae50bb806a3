-- The first of some items for which a test holds, as far as a walk has come.
use Rattle.std.proofs.Common.{◌≡◌, ◌<◌, ◌≤◌, ◌+◌, ℕ, zero, suc, Bool, true, false, cond, List, [], ◌∷◌, length, drop, slice_index_or, ◌∙◌, sym, refl, ap, Some, None, arith}
use Rattle.std.proofs.Math.Seq.{drop-cons}
use Rattle.std.specs.List.{find}

item_of : {A : Type 0} (xs : List A) (i : ℕ) (x : A) → i < length xs → x ≡ slice_index_or xs i x → drop i xs ≡ (x ∷ drop (i + 1) xs)
item_of xs i x h e = drop-cons xs i x h ∙ (ap (λ y. y ∷ drop (suc i) xs) (sym e) ∙ ap (λ j. x ∷ drop j xs) (let f : suc i ≡ i + 1 = omega arith in f))

pub found : {A : Type 0} (p : A → Bool) (xs : List A) (i : ℕ) (x : A) → i < length xs → x ≡ slice_index_or xs i x → p x ≡ true → find p (drop i xs) ≡ Some x
found p xs i x h e t = ap (find p) (item_of xs i x h e) ∙ ap (λ b. cond b (Some x) (find p (drop (i + 1) xs))) t

pub not_found : {A : Type 0} (p : A → Bool) (xs : List A) (i : ℕ) (x : A) → i < length xs → x ≡ slice_index_or xs i x → p x ≡ false → find p (drop (i + 1) xs) ≡ find p (drop i xs)
not_found p xs i x h e t = sym (ap (find p) (item_of xs i x h e) ∙ ap (λ b. cond b (Some x) (find p (drop (i + 1) xs))) t)

pub none_left : {A : Type 0} (p : A → Bool) (xs : List A) (i : ℕ) → length xs ≤ i → find p (drop i xs) ≡ None
none_left p [] zero h = refl
none_left p [] (suc i) h = refl
none_left p (x ∷ xs) zero h = absurd (omega arith)
none_left p (x ∷ xs) (suc i) h = none_left p xs i (omega arith)
