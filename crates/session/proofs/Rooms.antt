-- What is added to a line, and its length.
use Rattle.std.proofs.Common.{◌≡◌, ◌≢◌, ℕ, zero, suc, ◌+◌, ◌-◌, ◌/◌, ◌%◌, ◌≤◌, List, [], ◌∷◌, ◌++◌, length, ◌∙◌, ap, subst, refl, append_assoc, length-append, arith}
use Rattle.ps_leaves.specs.Forms.{hex_digit, hex_text}
use Rattle.session.specs.declared.line.Line.{Line}
use Rattle.session.specs.Rooms.{text_of, Adds, IsEmptyFor}

pub adds_both : {a b c : Line} {p q : List ℕ} → Adds a b p → Adds b c q → Adds a c (p ++ q)
adds_both {a} {b} {c} {p} {q} f g = record {
  room = omega (arith, f.room, g.room);
  text = λ h. (let n = length-append p q in
      let e : text_of b ≡ text_of a ++ p = f.text (omega (arith, n, h)) in
      let m : length (text_of b) ≡ length (text_of a) + length p = ap length e ∙ length-append (text_of a) p in
      g.text (omega (arith, n, h, m, f.room)) ∙ (ap (λ x. x ++ q) e ∙ append_assoc (text_of a) p q));
}

pub adds_same : {a b : Line} {p q : List ℕ} → Adds a b p → p ≡ q → Adds a b q
adds_same {a} {b} f e = subst (λ t. Adds a b t) e f

pub adds_whole : {a b : Line} {p : List ℕ} (n : ℕ) → Adds a b p → IsEmptyFor n a → length p ≤ n → text_of b ≡ p
adds_whole {a} {b} {p} n f h w =
    let m : length (text_of a) ≡ 0 = ap length h.0 in
    f.text (omega (arith, m, h.1, w)) ∙ ap (λ x. x ++ p) h.0

pub hex_text-step : (n w : ℕ) → n ≢ 0 → hex_text n w ≡ hex_text (n - 1) (w / 16) ++ hex_digit (w % 16) ∷ []
hex_text-step zero w h = absurd (h refl)
hex_text-step (suc k) w h = let e : suc k - 1 ≡ k = omega arith in rw e refl

pub length-hex_text : (n w : ℕ) → length (hex_text n w) ≡ n
length-hex_text zero w = refl
length-hex_text (suc k) w = length-append (hex_text k (w / 16)) (hex_digit (w % 16) ∷ []) ∙ (let h = length-hex_text k (w / 16) in omega (arith, h))
