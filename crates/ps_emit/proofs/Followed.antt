-- The text of terms that are put together.
use Rattle.std.proofs.Common.{◌≡◌, ◌<◌, ◌≤◌, ℕ, suc, ◌+◌, List, [], ◌∷◌, ◌++◌, length, drop, get_or, refl, sym, ap, ◌∙◌, append_assoc, append-nil}
use Rattle.std.proofs.lemmas.List.{at_drop_more, at_drop_all}
use Rattle.std.specs.Fmt.{signed_decimal}
use Rattle.ps_scan.specs.Escaping.{escaped, escaped_byte}
use Rattle.ps_text.specs.Code.{Code, Stop, Num, Word, Lit, Text, Proc, render}
use Rattle.ps_emit.specs.Terms.{◌⋯◌, word}
use Rattle.ps_emit.specs.Grown.{Grows}

pub render_followed : (a b : Code) → render (a ⋯ b) ≡ render a ++ render b
render_followed Stop b = refl
render_followed (Num n rest) b = ap (λ ts. signed_decimal n ++ 32 ∷ ts) (render_followed rest b) ∙ sym (append_assoc (signed_decimal n) (32 ∷ render rest) (render b))
render_followed (Word name rest) b = ap (λ ts. name ++ 32 ∷ ts) (render_followed rest b) ∙ sym (append_assoc name (32 ∷ render rest) (render b))
render_followed (Lit name rest) b = ap (λ ts. 47 ∷ (name ++ 32 ∷ ts)) (render_followed rest b) ∙ ap (λ ts. 47 ∷ ts) (sym (append_assoc name (32 ∷ render rest) (render b)))
render_followed (Text bytes rest) b =
    ap (λ ts. 40 ∷ (escaped bytes ++ 41 ∷ 32 ∷ ts)) (render_followed rest b) ∙ ap (λ ts. 40 ∷ ts) (sym (append_assoc (escaped bytes) (41 ∷ 32 ∷ render rest) (render b)))
render_followed (Proc body rest) b =
    ap (λ ts. 123 ∷ 32 ∷ (render body ++ 125 ∷ 32 ∷ ts)) (render_followed rest b) ∙ ap (λ ts. 123 ∷ 32 ∷ ts) (sym (append_assoc (render body) (125 ∷ 32 ∷ render rest) (render b)))

-- what is behind a term in a text
pub passed : {a b : List ℕ} {j : Code} → Grows j a b → (k : Code) → b ++ render k ≡ a ++ render (j ⋯ k)
passed {a} {b} {j} g k =
    ap (λ (ts : List ℕ). ts ++ render k) g.text ∙ (append_assoc a (render j) (render k) ∙ ap (λ (ts : List ℕ). a ++ ts) (sym (render_followed j k)))

-- a text that grew by a term, and then by another
infixr 20 ◌and◌
pub ◌and◌ : {a b c : List ℕ} {j k : Code} → Grows j a b → Grows k b c → Grows (j ⋯ k) a c
◌and◌ {a} {b} {c} {j} {k} g h = record { text = h.text ∙ passed g k }

-- the terms of the items of a list: one more is behind, and none is left
pub one_more : {X : Type 0} (f g : List X → Code) (one : Code) (xs : List X) (i : ℕ) (x : X) {a b : List ℕ} → i < length xs → x ≡ get_or xs i x
    → f (x ∷ drop (i + 1) xs) ≡ (one ⋯ g (drop (i + 1) xs)) → Grows one a b
    → b ++ render (g (drop (i + 1) xs)) ≡ a ++ render (f (drop i xs))
one_more f g one xs i x {a} l e law grows =
    passed grows (g (drop (i + 1) xs)) ∙
    (ap (λ k. a ++ render k) (sym law) ∙
    (ap (λ y. a ++ render (f (y ∷ drop (i + 1) xs))) e ∙
    sym (at_drop_more (λ ys. a ++ render (f ys)) xs i x l)))

pub none_left : {X : Type 0} (f : List X → Code) (xs : List X) (i : ℕ) (a : List ℕ) → f [] ≡ Stop → length xs ≤ i → a ++ render (f (drop i xs)) ≡ a
none_left f xs i a law l = at_drop_all (λ ys. a ++ render (f ys)) xs i l ∙ (ap (λ k. a ++ render k) law ∙ append-nil a)

pub one_more_at : {X : Type 0} (f g : List X → Code) (one : Code) (xs : List X) (i : ℕ) (d : X) {a b : List ℕ} → i < length xs
    → f (get_or xs i d ∷ drop (i + 1) xs) ≡ (one ⋯ g (drop (i + 1) xs)) → Grows one a b
    → b ++ render (g (drop (i + 1) xs)) ≡ a ++ render (f (drop i xs))
one_more_at f g one xs i d {a} l law grows =
    passed grows (g (drop (i + 1) xs)) ∙ (ap (λ k. a ++ render k) (sym law) ∙ sym (at_drop_more (λ ys. a ++ render (f ys)) xs i d l))

-- the same where items are numbered
pub counted_more : {X : Type 0} (f : ℕ → List X → Code) (k k' : ℕ) (one : Code) (xs : List X) (i : ℕ) (x : X) {a b : List ℕ} → k' ≡ suc k
    → i < length xs → x ≡ get_or xs i x → f k (x ∷ drop (i + 1) xs) ≡ (one ⋯ f (suc k) (drop (i + 1) xs)) → Grows one a b
    → b ++ render (f k' (drop (i + 1) xs)) ≡ a ++ render (f k (drop i xs))
counted_more f k k' one xs i x {a} {b} next l e law grows =
    ap (λ n. b ++ render (f n (drop (i + 1) xs))) next ∙ one_more (f k) (f (suc k)) one xs i x l e law grows

-- ---- procedures and strings

pub nothing : {a : List ℕ} → Grows Stop a a
nothing {a} = record { text = sym (append-nil a) }

pub braced : {a b c d : List ℕ} {body : Code} → Grows (word "{") a b → Grows body b c → Grows (word "}") c d → Grows (Proc body Stop) a d
braced {a} {b} {c} {d} {body} open_brace inner close_brace =
    let whole : Grows (word "{" ⋯ (body ⋯ word "}")) a d = open_brace and (inner and close_brace) in
    record { text = whole.text ∙ ap (λ (ts : List ℕ). a ++ 123 ∷ 32 ∷ ts) (render_followed body (word "}")) }

pub escaped_append : (xs ys : List ℕ) → escaped (xs ++ ys) ≡ escaped xs ++ escaped ys
escaped_append [] ys = refl
escaped_append (x ∷ xs) ys = ap (λ (ts : List ℕ). escaped_byte x ++ ts) (escaped_append xs ys) ∙ sym (append_assoc (escaped_byte x) (escaped xs) (escaped ys))

-- a string that is written in two parts
pub labelled : (a b c d e front name : List ℕ) → b ≡ a ++ 40 ∷ [] → c ≡ b ++ escaped front → d ≡ c ++ escaped name → e ≡ d ++ 41 ∷ 32 ∷ []
    → Grows (Text (front ++ name) Stop) a e
labelled a b c d e front name p q r s = record { text = rw (s, r, q, p) (simp (append_assoc, escaped_append)) }

-- more of a string's text
pub fronted : (a b c front : List ℕ) → b ≡ a ++ escaped front → c ≡ b ++ 46 ∷ [] → c ≡ a ++ escaped (front ++ 46 ∷ [])
fronted a b c front p q = rw (q, p) (simp (append_assoc, escaped_append))
