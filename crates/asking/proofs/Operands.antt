-- The operands that are left, from the bottom.
use Rattle.std.proofs.Common.{◌≡◌, ◌∙◌, sym, ap, ℕ, ◌≤◌, List, [], ◌∷◌, ◌++◌, reverse, drop, length, append_assoc, codes}
use Rattle.std.proofs.lemmas.List.{append-nil, reverse-append, drop_all}
use Rattle.ps_store.specs.declared.object.PsObj.{PsObj}
use Rattle.ps_store.specs.StoreState.{StoreState}
use Rattle.ps_step.specs.Text.{text_of}
use Rattle.asking.specs.Raw.{operand_texts}

texts_added : (s : StoreState) (xs : List PsObj) (x : PsObj) → operand_texts s (xs ++ x ∷ []) ≡ operand_texts s xs ++ (codes " " ++ text_of s x)
texts_added s [] x = ap (λ (t : List ℕ). codes " " ++ t) (append-nil (text_of s x))
texts_added s (y ∷ ys) x =
    ap (λ (t : List ℕ). codes " " ++ (text_of s y ++ t)) (texts_added s ys x)
    ∙ ap (λ (t : List ℕ). codes " " ++ t) (sym (append_assoc (text_of s y) (operand_texts s ys) (codes " " ++ text_of s x)))

reverse_more : (x : PsObj) (xs : List PsObj) → reverse (x ∷ xs) ≡ reverse xs ++ x ∷ []
reverse_more x xs = reverse-append (x ∷ []) xs

-- the texts of the lowest ones, and one more
pub one_operand : (s : StoreState) (xs : List PsObj) (d e : ℕ) (x : PsObj) (out text more : List ℕ) → drop d xs ≡ x ∷ drop e xs → out ≡ codes "ps" ++ operand_texts s (reverse (drop e xs)) → text ≡ text_of s x
    → more ≡ (out ++ codes " ") ++ text → more ≡ codes "ps" ++ operand_texts s (reverse (drop d xs))
one_operand s xs d e x out text more top is told adds =
    adds ∙ append_assoc out (codes " ") text ∙ ap (λ (t : List ℕ). out ++ (codes " " ++ t)) told
    ∙ ap (λ (t : List ℕ). t ++ (codes " " ++ text_of s x)) is
    ∙ append_assoc (codes "ps") (operand_texts s (reverse (drop e xs))) (codes " " ++ text_of s x)
    ∙ ap (λ (t : List ℕ). codes "ps" ++ t) (sym (texts_added s (reverse (drop e xs)) x))
    ∙ ap (λ (ys : List PsObj). codes "ps" ++ operand_texts s ys) (sym (reverse_more x (drop e xs)))
    ∙ ap (λ (ys : List PsObj). codes "ps" ++ operand_texts s (reverse ys)) (sym top)

pub no_operand : (s : StoreState) (xs : List PsObj) (d : ℕ) (out : List ℕ) → length xs ≤ d → out ≡ codes "ps" → out ≡ codes "ps" ++ operand_texts s (reverse (drop d xs))
no_operand s xs d out h e = e ∙ sym (append-nil (codes "ps")) ∙ ap (λ (ys : List PsObj). codes "ps" ++ operand_texts s (reverse ys)) (sym (drop_all d xs h))

pub all_operands : (s : StoreState) (xs : List PsObj) (d : ℕ) (out : List ℕ) → d ≡ 0 → out ≡ codes "ps" ++ operand_texts s (reverse (drop d xs)) → out ≡ codes "ps" ++ operand_texts s (reverse xs)
all_operands s xs d out z e = e ∙ ap (λ (n : ℕ). codes "ps" ++ operand_texts s (reverse (drop n xs))) z
