-- Words that are drawn one by one.
use Rattle.std.proofs.Common.{◌≡◌, ◌∙◌, sym, ap, ℕ, zero, suc, ◌+◌, ◌-◌, ◌<◌, ◌≤◌, List, [], ◌∷◌, ◌++◌, append_assoc, append-nil, arith}
use Rattle.rand_core.specs.Stream.{Stream, next_u64}
use Rattle.ldb_make.specs.Words.{words_from}

-- one word more
pub drawn_more : (n k : ℕ) (s s' : Stream) (w : ℕ) (before after whole : List ℕ) → k < n → (w, s') ≡ next_u64 s → after ≡ before ++ w ∷ []
    → before ++ words_from (n - k) s ≡ whole → after ++ words_from (n - (k + 1)) s' ≡ whole
unfolding words_from
drawn_more n k s s' w before after whole h made is all =
    let one : n - k ≡ suc (n - (k + 1)) = omega arith in
    let first : w ≡ (next_u64 s).0 = ap (λ (p : ℕ × Stream). p.0) made in
    let rest : s' ≡ (next_u64 s).1 = ap (λ (p : ℕ × Stream). p.1) made in
    ap (λ (l : List ℕ). l ++ words_from (n - (k + 1)) s') is
    ∙ (append_assoc before (w ∷ []) (words_from (n - (k + 1)) s')
    ∙ (ap (λ (x : ℕ). before ++ (x ∷ words_from (n - (k + 1)) s')) first
    ∙ (ap (λ (x : Stream). before ++ ((next_u64 s).0 ∷ words_from (n - (k + 1)) x)) rest
    ∙ (ap (λ (m : ℕ). before ++ words_from m s) (sym one) ∙ all))))

-- no word is left
pub drawn_all : (n k : ℕ) (s : Stream) (before whole : List ℕ) → n ≤ k → before ++ words_from (n - k) s ≡ whole → before ≡ whole
unfolding words_from
drawn_all n k s before whole h all =
    let none : n - k ≡ zero = omega arith in
    sym (append-nil before) ∙ (ap (λ (m : ℕ). before ++ words_from m s) (sym none) ∙ all)
