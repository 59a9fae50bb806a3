-- Points and functions, one after another.
use Rattle.std.proofs.Common.{◌≡◌, ◌<◌, ◌≤◌, ℕ, ◌+◌, List, [], ◌∷◌, ◌++◌, length, drop, get_or, slice_get, refl, sym, ap, ◌∙◌, append-nil}
use Rattle.std.proofs.lemmas.List.{at_drop_more, at_drop_all}
use Rattle.obj_file.specs.declared.object.FunctionRow.{FunctionRow as Placed}
use Rattle.c_tree.specs.declared.rows.Program.{Program}
use Rattle.ps_text.specs.Code.{Stop, render}
use Rattle.ps_emit.specs.Grown.{Grows}
use Rattle.ps_emit.specs.Places.{Homes}
use Rattle.ps_emit.specs.Symbols.{made_with}
use Rattle.ps_emit.specs.Functions.{symbol_at, made_by, point_in, points_code, function_in, made_in, functions_code}
use Rattle.ps_emit.proofs.Followed.{passed}

module _ (p : Program) (fs : List Placed) where
  pub points_more : (homes : Homes) (made made' : ℕ) (xs at : List ℕ) (i : ℕ) {a b : List ℕ} → i < length xs → i < length at
      → Grows (point_in p fs homes made (get_or at i 0) (slice_get p.points (get_or xs i 0))) a b
      → made' ≡ made_with made (symbol_at (slice_get p.points (get_or xs i 0)))
      → b ++ render (points_code p fs homes made' (drop (i + 1) xs) (drop (i + 1) at)) ≡ a ++ render (points_code p fs homes made (drop i xs) (drop i at))
  points_more homes made made' xs at i {a} {b} lx la g e =
      ap (λ m. b ++ render (points_code p fs homes m (drop (i + 1) xs) (drop (i + 1) at))) e ∙
      (passed g (points_code p fs homes (made_with made (symbol_at (slice_get p.points (get_or xs i 0)))) (drop (i + 1) xs) (drop (i + 1) at)) ∙
      (sym (at_drop_more (λ ys. a ++ render (points_code p fs homes made (get_or xs i 0 ∷ drop (i + 1) xs) ys)) at i 0 la) ∙
      sym (at_drop_more (λ ys. a ++ render (points_code p fs homes made ys (drop i at))) xs i 0 lx)))

  pub made_more : (made made' : ℕ) (xs at : List ℕ) (i : ℕ) → i < length xs → i < length at
      → made' ≡ made_with made (symbol_at (slice_get p.points (get_or xs i 0)))
      → made_by p fs made' (drop (i + 1) xs) (drop (i + 1) at) ≡ made_by p fs made (drop i xs) (drop i at)
  made_more made made' xs at i lx la e =
      ap (λ m. made_by p fs m (drop (i + 1) xs) (drop (i + 1) at)) e ∙
      (sym (at_drop_more (λ ys. made_by p fs made (get_or xs i 0 ∷ drop (i + 1) xs) ys) at i 0 la) ∙
      sym (at_drop_more (λ ys. made_by p fs made ys (drop i at)) xs i 0 lx))

  -- no point is left, or no address
  no_address : (homes : Homes) (made : ℕ) (xs : List ℕ) → points_code p fs homes made xs [] ≡ Stop
  no_address homes made [] = refl
  no_address homes made (x ∷ xs) = refl

  none_made : (made : ℕ) (xs : List ℕ) → made_by p fs made xs [] ≡ made
  none_made made [] = refl
  none_made made (x ∷ xs) = refl

  pub points_end : (homes : Homes) (made : ℕ) (xs at : List ℕ) (i : ℕ) (a : List ℕ) → length xs ≤ i
      → a ++ render (points_code p fs homes made (drop i xs) (drop i at)) ≡ a
  points_end homes made xs at i a l = at_drop_all (λ ys. a ++ render (points_code p fs homes made ys (drop i at))) xs i l ∙ append-nil a

  pub addresses_end : (homes : Homes) (made : ℕ) (xs at : List ℕ) (i : ℕ) (a : List ℕ) → length at ≤ i
      → a ++ render (points_code p fs homes made (drop i xs) (drop i at)) ≡ a
  addresses_end homes made xs at i a l =
      at_drop_all (λ ys. a ++ render (points_code p fs homes made (drop i xs) ys)) at i l ∙ (ap (λ k. a ++ render k) (no_address homes made (drop i xs)) ∙ append-nil a)

  pub made_points_end : (made : ℕ) (xs at : List ℕ) (i : ℕ) → length xs ≤ i → made_by p fs made (drop i xs) (drop i at) ≡ made
  made_points_end made xs at i l = at_drop_all (λ ys. made_by p fs made ys (drop i at)) xs i l

  pub made_addresses_end : (made : ℕ) (xs at : List ℕ) (i : ℕ) → length at ≤ i → made_by p fs made (drop i xs) (drop i at) ≡ made
  made_addresses_end made xs at i l = at_drop_all (λ ys. made_by p fs made (drop i xs) ys) at i l ∙ none_made made (drop i xs)

  -- one function more
  pub functions_more : (made made' : ℕ) (xs : List ℕ) (i : ℕ) {a b : List ℕ} → i < length xs
      → Grows (function_in p fs made (slice_get p.functions (get_or xs i 0)) (slice_get fs (get_or xs i 0))) a b
      → made' ≡ made_in p fs made (slice_get p.functions (get_or xs i 0)) (slice_get fs (get_or xs i 0))
      → b ++ render (functions_code p fs made' (drop (i + 1) xs)) ≡ a ++ render (functions_code p fs made (drop i xs))
  functions_more made made' xs i {a} {b} l g e =
      ap (λ m. b ++ render (functions_code p fs m (drop (i + 1) xs))) e ∙
      (passed g (functions_code p fs (made_in p fs made (slice_get p.functions (get_or xs i 0)) (slice_get fs (get_or xs i 0))) (drop (i + 1) xs)) ∙
      sym (at_drop_more (λ ys. a ++ render (functions_code p fs made ys)) xs i 0 l))

  pub functions_end : (made : ℕ) (xs : List ℕ) (i : ℕ) (a : List ℕ) → length xs ≤ i → a ++ render (functions_code p fs made (drop i xs)) ≡ a
  functions_end made xs i a l = at_drop_all (λ ys. a ++ render (functions_code p fs made ys)) xs i l ∙ append-nil a
