-- The points of the functions of a unit, of all bodies.
use Rattle.std.proofs.Common.{◌≡◌, ℕ, suc, ◌<◌, ◌≤◌, Bool, true, false, ◌==◌, if◌then◌else◌, List, [], ◌∷◌, ◌++◌, refl, sym, ap, ◌∙◌, arith, ne_eqb, eq-eqb, append-nil, append_assoc}
use Rattle.std.specs.List.{AllByRecursion}
use Rattle.c_body.specs.Stops.{Stop}
use Rattle.c_file.specs.Files.{Bodied}
use Rattle.compiled_tables.proofs.Files.{stops_in, all_stops}

abbrev pub unit_stops : (unit : ℕ) → List Bodied → List Stop
unit_stops u [] = []
unit_stops u (b ∷ bs) = if b.unit == u then stops_in b ++ unit_stops u bs else unit_stops u bs

module _ (u : ℕ) where
  pub with_stops : (b : Bodied) (bs : List Bodied) → (b.unit == u) ≡ true → unit_stops u (b ∷ bs) ≡ stops_in b ++ unit_stops u bs
  with_stops b bs e = ap (λ c. if c then stops_in b ++ unit_stops u bs else unit_stops u bs) e

  pub without_stops : (b : Bodied) (bs : List Bodied) → (b.unit == u) ≡ false → unit_stops u (b ∷ bs) ≡ unit_stops u bs
  without_stops b bs e = ap (λ c. if c then stops_in b ++ unit_stops u bs else unit_stops u bs) e

  unit_append : (xs ys : List Bodied) → unit_stops u (xs ++ ys) ≡ unit_stops u xs ++ unit_stops u ys
  unit_append [] ys = refl
  unit_append (b ∷ xs) ys = by (b.unit == u) refl (unit_append xs ys)
    where
      by : (c : Bool) → (b.unit == u) ≡ c → unit_stops u (xs ++ ys) ≡ unit_stops u xs ++ unit_stops u ys → unit_stops u (b ∷ (xs ++ ys)) ≡ unit_stops u (b ∷ xs) ++ unit_stops u ys
      by true e h = with_stops b (xs ++ ys) e ∙ (ap (λ (l : List Stop). stops_in b ++ l) h ∙ (sym (append_assoc (stops_in b) (unit_stops u xs) (unit_stops u ys)) ∙ ap (λ (l : List Stop). l ++ unit_stops u ys) (sym (with_stops b xs e))))
      by false e h = without_stops b (xs ++ ys) e ∙ (h ∙ ap (λ (l : List Stop). l ++ unit_stops u ys) (sym (without_stops b xs e)))

  none_before : (bs : List Bodied) → AllByRecursion (λ (b : Bodied). b.unit < u) bs → unit_stops u bs ≡ []
  none_before [] h = refl
  none_before (b ∷ bs) h = without_stops b bs (ne_eqb b.unit u (λ e. let l : b.unit < u = h.0 in omega arith)) ∙ none_before bs h.1

  none_behind : (bs : List Bodied) → AllByRecursion (λ (b : Bodied). suc u ≤ b.unit) bs → unit_stops u bs ≡ []
  none_behind [] h = refl
  none_behind (b ∷ bs) h = without_stops b bs (ne_eqb b.unit u (λ e. let l : suc u ≤ b.unit = h.0 in omega arith)) ∙ none_behind bs h.1

  all_here : (bs : List Bodied) → AllByRecursion (λ (b : Bodied). b.unit ≡ u) bs → unit_stops u bs ≡ all_stops bs
  all_here [] h = refl
  all_here (b ∷ bs) h = with_stops b bs (eq-eqb b.unit u h.0) ∙ ap (λ (l : List Stop). stops_in b ++ l) (all_here bs h.1)

  -- of bodies before, in and behind a unit
  pub only_here : (before here behind : List Bodied) → AllByRecursion (λ (b : Bodied). b.unit < u) before → AllByRecursion (λ (b : Bodied). b.unit ≡ u) here → AllByRecursion (λ (b : Bodied). suc u ≤ b.unit) behind
      → unit_stops u ((before ++ here) ++ behind) ≡ all_stops here
  only_here before here behind h k l =
      unit_append (before ++ here) behind
      ∙ (ap (λ (s : List Stop). unit_stops u (before ++ here) ++ s) (none_behind behind l)
      ∙ (append-nil (unit_stops u (before ++ here)) ∙ (unit_append before here ∙ (ap (λ (s : List Stop). s ++ unit_stops u here) (none_before before h) ∙ all_here here k))))
