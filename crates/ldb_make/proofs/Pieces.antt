-- Pieces of a text, one behind the other.
use Rattle.std.proofs.Common.{◌≡◌, ◌∙◌, sym, ap, ℕ, suc, ◌+◌, ◌-◌, ◌<◌, List, ◌++◌, append_assoc, arith}
use Rattle.std.specs.List.{flat_map, range_with_len}
use Rattle.ldb_make.specs.Words.{pick}
use Rattle.ldb_make.specs.Program.{form_line, body_line}

-- one piece more
pub pieces_more : (f : ℕ → List ℕ) (n k : ℕ) (before after whole : List ℕ) → k < n → after ≡ before ++ f k
    → before ++ flat_map f (range_with_len k (n - k)) ≡ whole → after ++ flat_map f (range_with_len (k + 1) (n - (k + 1))) ≡ whole
pieces_more f n k before after whole h made is =
    let one : n - k ≡ suc (n - (k + 1)) = omega arith in
    ap (λ (l : List ℕ). l ++ flat_map f (range_with_len (k + 1) (n - (k + 1)))) made
    ∙ (append_assoc before (f k) (flat_map f (range_with_len (k + 1) (n - (k + 1))))
    ∙ (ap (λ (m : ℕ). before ++ flat_map f (range_with_len k m)) (sym one) ∙ is))

-- two, three and four pieces behind a text
pub two_pieces : (old p q t : List ℕ) → t ≡ old ++ p → t ++ q ≡ old ++ (p ++ q)
two_pieces old p q t e = ap (λ (l : List ℕ). l ++ q) e ∙ append_assoc old p q

pub three_pieces : (old p q r t u : List ℕ) → t ≡ old ++ p → u ≡ t ++ q → u ++ r ≡ old ++ (p ++ (q ++ r))
three_pieces old p q r t u e f = two_pieces t q r u f ∙ two_pieces old p (q ++ r) t e

pub four_pieces : (old p q r s t u v : List ℕ) → t ≡ old ++ p → u ≡ t ++ q → v ≡ u ++ r → v ++ s ≡ old ++ (p ++ (q ++ (r ++ s)))
four_pieces old p q r s t u v e f g = three_pieces t q r s u v f g ∙ two_pieces old p (q ++ (r ++ s)) t e

-- a line of the third form
pub third_form : (words : List ℕ) (number form constant : ℕ) → form ≡ 2 → form ≡ pick words number 4 → constant ≡ pick words (number + 1) 1000
    → form_line 2 constant ≡ body_line words number
unfolding body_line
third_form words number form constant e f g = ap (λ (x : ℕ). form_line x constant) (sym e ∙ f) ∙ ap (form_line (pick words number 4)) g
