-- String literals are joined from either end.
use Rattle.std.proofs.Common.{◌≡◌, Bool, true, false, ◌&&◌, List, [], ◌∷◌, ◌++◌, Option, Some, None, refl, sym, ◌∙◌, ap, ap₂, append_assoc}
use Rattle.std.specs.Prelude.{if◌then◌else◌}
use Rattle.c_symbol.specs.declared.terminal.Terminal.{Terminal}
use Rattle.c_symbol.specs.Terminals.{is_text, merged, join, joined, waiting, JoinsAll}

true_false : true ≡ false → ⊥
true_false e = cc

choose_true : (b : Bool) (x y : List Terminal) → b ≡ true → (if b then x else y) ≡ x
choose_true true x y e = refl
choose_true false x y e = absurd (true_false (sym e))

choose_false : (b : Bool) (x y : List Terminal) → b ≡ false → (if b then x else y) ≡ y
choose_false true x y e = absurd (true_false e)
choose_false false x y e = refl

join_by : (t u v : Terminal) (vs : List Terminal) (b : Bool) → is_text v.symbol ≡ b → is_text t.symbol ≡ true → is_text u.symbol ≡ true
    → join t (if b then merged u v ∷ vs else u ∷ v ∷ vs) ≡ join (merged t u) (v ∷ vs)
join_by t u v vs true e h k =
    choose_true (is_text t.symbol && is_text u.symbol) _ _ (ap₂ (λ x y. x && y) h k)
    ∙ ap (λ l. record { symbol = t.symbol; place = t.place; text = l } ∷ vs) (sym (append_assoc t.text u.text v.text))
    ∙ sym (choose_true (is_text t.symbol && is_text v.symbol) _ _ (ap₂ (λ x y. x && y) h e))
join_by t u v vs false e h k =
    choose_true (is_text t.symbol && is_text u.symbol) _ _ (ap₂ (λ x y. x && y) h k)
    ∙ sym (choose_false (is_text t.symbol && is_text v.symbol) _ _ (ap₂ (λ x y. x && y) h e))

join_twice : (t u : Terminal) (l : List Terminal) → is_text t.symbol ≡ true → is_text u.symbol ≡ true → join t (join u l) ≡ join (merged t u) l
join_twice t u [] h k = choose_true (is_text t.symbol && is_text u.symbol) _ _ (ap₂ (λ x y. x && y) h k)
join_twice t u (v ∷ vs) h k =
    ap (λ b. join t (if b && is_text v.symbol then merged u v ∷ vs else u ∷ v ∷ vs)) k
    ∙ join_by t u v vs (is_text v.symbol) refl h k

apart_by : (t u v : Terminal) (vs : List Terminal) (b : Bool) → (is_text t.symbol && is_text u.symbol) ≡ false
    → join t (if b then merged u v ∷ vs else u ∷ v ∷ vs) ≡ t ∷ (if b then merged u v ∷ vs else u ∷ v ∷ vs)
apart_by t u v vs true h = choose_false _ _ _ h
apart_by t u v vs false h = choose_false _ _ _ h

apart : (t u : Terminal) (l : List Terminal) → (is_text t.symbol && is_text u.symbol) ≡ false → join t (join u l) ≡ t ∷ join u l
apart t u [] h = choose_false _ _ _ h
apart t u (v ∷ vs) h = apart_by t u v vs (is_text u.symbol && is_text v.symbol) h

others_stay : (t u : Terminal) (rest : List Terminal) → (is_text t.symbol && is_text u.symbol) ≡ false
    → joined (waiting (Some t) ++ u ∷ rest) ≡ waiting (Some t) ++ joined (waiting (Some u) ++ rest)
others_stay t u rest h = apart t u (joined rest) h

both_texts : (a b : Bool) → (a && b) ≡ true → (a ≡ true) × (b ≡ true)
both_texts true b h = (refl, h)
both_texts false b h = absurd (true_false (sym h))

abbrev pair_by : Bool → Terminal → Terminal → Option Terminal × Option Terminal
pair_by b u t = if b then (None, Some (merged u t)) else (Some u, Some t)

pushed_by : (u t : Terminal) (rest : List Terminal) (b : Bool) → (is_text u.symbol && is_text t.symbol) ≡ b
    → joined (waiting (Some u) ++ t ∷ rest) ≡ waiting (pair_by b u t).0 ++ joined (waiting (pair_by b u t).1 ++ rest)
pushed_by u t rest true h = let k = both_texts (is_text u.symbol) (is_text t.symbol) h in join_twice u t (joined rest) k.0 k.1
pushed_by u t rest false h = others_stay u t rest h

pub joins_all : JoinsAll
joins_all None t rest = refl
joins_all (Some u) t rest = pushed_by u t rest (is_text u.symbol && is_text t.symbol) refl
