-- Texts that grow by the pieces of an expression.
use Rattle.std.proofs.Common.{◌≡◌, ◌≢◌, refl, sym, ap, subst, ◌∙◌, ℕ, Bool, true, false, if◌then◌else◌, List, [], ◌∷◌, ◌++◌, codes, pos, append_assoc}
use Rattle.std.proofs.lemmas.Bool.{ne_eqb}
use Rattle.std.specs.Fmt.{digits}
use Rattle.ps_text.specs.Code.{Code, Word, render}
use Rattle.ps_emit.specs.Terms.{◌⋯◌, word, integer}
use Rattle.ps_emit.specs.Grown.{Grows}
use Rattle.ps_emit.proofs.Followed.{render_followed}
use Rattle.expr_serve.specs.Literals.{in_digits}
use Rattle.expr_serve.specs.Operators.{by_zero}
use Rattle.expr_serve.specs.Codes.{bytes_by, halved, beyond, large_items, unsigned_items}

-- a piece whose text was appended
pub grown : (k : Code) {a b ts : List ℕ} → b ≡ a ++ ts → ts ≡ render k → Grows k a b
grown k {a} e h = record { text = e ∙ ap (λ (x : List ℕ). a ++ x) h }

pub appended : {k : Code} {a b ts : List ℕ} → b ≡ a ++ ts → ts ≡ render k → Grows k a b
appended {k} e h = grown k e h

three : (a x k w : List ℕ) → ((a ++ x) ++ k) ++ w ≡ a ++ (x ++ (k ++ w))
three a x k w = simp append_assoc

five : (a x z y o w : List ℕ) → ((((a ++ x) ++ z) ++ y) ++ o) ++ w ≡ a ++ (x ++ (z ++ (y ++ (o ++ w))))
five a x z y o w = simp append_assoc

-- one of two pieces, by whether a number is 0
pub chosen : {a b c d e f : List ℕ} {zero other : Code} → b ≡ a ++ codes "0 eq { " → Grows zero b c → d ≡ c ++ codes "} { " → Grows other d e → f ≡ e ++ codes "} ifelse " → Grows (by_zero zero other) a f
unfolding digits
chosen {a} {b} {c} {d} {e} {f} {zero} {other} p q r s t =
    record { text = rw (t, s.text, r, q.text, p) (five a (codes "0 eq { ") (render zero) (codes "} { ") (render other) (codes "} ifelse ")) }

abbrev is_nonzero : Code
is_nonzero = by_zero (integer (pos 0)) (integer (pos 1))

-- the second operand of `||` and of `&&` is in one of the two procedures
pub second_of_or : {a b c d : List ℕ} {k : Code} → b ≡ a ++ codes "0 eq { " → Grows k b c → d ≡ c ++ codes "0 eq { 0 } { 1 } ifelse } { 1 } ifelse " → Grows (by_zero (k ⋯ is_nonzero) (integer (pos 1))) a d
unfolding digits
second_of_or {a} {b} {c} {d} {k} p q r = record {
  text =
      rw (r, q.text, p)
      (three a (codes "0 eq { ") (render k) (codes "0 eq { 0 } { 1 } ifelse } { 1 } ifelse ")
      ∙ ap (λ (x : List ℕ). a ++ (codes "0 eq { " ++ x)) (sym (append_assoc (render k) (codes "0 eq { 0 } { 1 } ifelse ") (codes "} { 1 } ifelse ")))
      ∙ ap (λ (x : List ℕ). a ++ (codes "0 eq { " ++ (x ++ codes "} { 1 } ifelse "))) (sym (render_followed k is_nonzero)));
}

pub second_of_and : {a b c d : List ℕ} {k : Code} → b ≡ a ++ codes "0 eq { 0 } { " → Grows k b c → d ≡ c ++ codes "0 eq { 0 } { 1 } ifelse } ifelse " → Grows (by_zero (integer (pos 0)) (k ⋯ is_nonzero)) a d
unfolding digits
second_of_and {a} {b} {c} {d} {k} p q r = record {
  text =
      rw (r, q.text, p)
      (three a (codes "0 eq { 0 } { ") (render k) (codes "0 eq { 0 } { 1 } ifelse } ifelse ")
      ∙ ap (λ (x : List ℕ). a ++ (codes "0 eq { 0 } { " ++ x)) (sym (append_assoc (render k) (codes "0 eq { 0 } { 1 } ifelse ") (codes "} ifelse ")))
      ∙ ap (λ (x : List ℕ). a ++ (codes "0 eq { 0 } { " ++ (x ++ codes "} ifelse "))) (sym (render_followed k is_nonzero)));
}

-- what a large number of items is taken by
pub beyond_grown : {a b : List ℕ} (is_back : Bool) (size : ℕ) → size ≢ 1 → b ≡ a ++ codes "pop 2147483647 2147483647 " → Grows (large_items is_back size) a b
unfolding digits
beyond_grown {a} {b} is_back size h p =
    subst (λ x. Grows (if x then halved (bytes_by is_back 1) (bytes_by is_back 2) else beyond) a b) (sym (ne_eqb size 1 h)) (grown beyond p refl)

pub further_grown : {a b : List ℕ} (is_back : Bool) (size : ℕ) → size ≡ 1 → is_back ≡ false → b ≡ a ++ codes "exch 1 index 1 and 1 ptradd exch 1 ushr 2 " → Grows (large_items is_back size) a b
unfolding digits
further_grown {a} {b} is_back size h e p =
    subst (λ n. Grows (large_items is_back n) a b) (sym h) (subst (λ x. Grows (large_items x 1) a b) (sym e) (grown (halved (bytes_by false 1) (bytes_by false 2)) p refl))

pub back_grown : {a b : List ℕ} (is_back : Bool) (size : ℕ) → size ≡ 1 → is_back ≡ true → b ≡ a ++ codes "exch 1 index 1 and -1 ptradd exch 1 ushr -2 " → Grows (large_items is_back size) a b
unfolding digits
back_grown {a} {b} is_back size h e p =
    subst (λ n. Grows (large_items is_back n) a b) (sym h) (subst (λ x. Grows (large_items x 1) a b) (sym e) (grown (halved (bytes_by true 1) (bytes_by true 2)) p refl))

-- an `unsigned` number of items
pub in_items : {a b c d e f : List ℕ} (is_back : Bool) (size : ℕ) → b ≡ a ++ codes "dup 0 lt { " → Grows (large_items is_back size) b c → d ≡ c ++ codes "} { " → Grows (integer (bytes_by is_back size)) d e
    → f ≡ e ++ codes "} ifelse ptradd " → Grows (unsigned_items is_back size) a f
unfolding digits
in_items {a} {b} {c} {d} {e} {f} is_back size p q r s t = record {
  text =
      rw (t, s.text, r, q.text, p)
      (five a (codes "dup 0 lt { ") (render (large_items is_back size)) (codes "} { ") (render (integer (bytes_by is_back size))) (codes "} ifelse ptradd "));
}

-- a name that is made of a string of hexadecimal digits
pub named_by_digits : {a b c d : List ℕ} (name : List ℕ) → b ≡ a ++ codes "<" → c ≡ b ++ in_digits name → d ≡ c ++ codes "> cvn " → Grows (Word (60 ∷ (in_digits name ++ 62 ∷ [])) (word "cvn")) a d
named_by_digits {a} {b} {c} {d} name p q r = record {
  text =
      rw (r, q, p)
      (append_assoc (a ++ codes "<") (in_digits name) (codes "> cvn ") ∙ append_assoc a (codes "<") (in_digits name ++ codes "> cvn ")
      ∙ ap (λ (x : List ℕ). a ++ (codes "<" ++ x)) (sym (append_assoc (in_digits name) (codes ">") (codes " cvn "))));
}
