-- Bytes cut into the fields of an image, and joined again.
use Rattle.std.proofs.Common.{◌≡◌, ◌∙◌, refl, sym, ap, ℕ, zero, suc, ◌+◌, ◌<◌, ◌≤◌, nat_le, Bool, true, false, List, [], ◌∷◌, ◌++◌, length, take, drop, get_or, Option, Some, None, arith, lit<}
use Rattle.std.specs.Prelude.{if◌then◌else◌}
use Rattle.std.specs.Int.{w8, w16, w32, from_be_bytes, to_be_bytes}
use Rattle.std.proofs.lemmas.Bool.Decides.{nat_tests}
use Rattle.std.proofs.lemmas.List.{take-append-drop, drop-drop, length-drop, length-take-le, get_or-drop}
use Rattle.std.proofs.lemmas.Nat.{be_bytes_2, be_bytes_4}
use Rattle.obj_file.specs.Image.{magic, word_bytes, image_bytes, byte_at, half_at, word_at, wrong_in_body, first_wrong, IsHeader}

-- each number is a byte
abbrev pub AreBytes : List ℕ → Type 0
AreBytes xs = (i : ℕ) → get_or xs i 0 < 256

beyond : (k : ℕ) (xs : List ℕ) (i : ℕ) → k ≤ i → get_or (take k xs) i 0 < 256
beyond zero xs i h = lit< tt
beyond (suc k) [] i h = lit< tt
beyond (suc k) (x ∷ xs) zero h = absurd (omega arith)
beyond (suc k) (x ∷ xs) (suc i) h = beyond k xs i (omega arith)

taken : (k : ℕ) (xs : List ℕ) → AreBytes xs → AreBytes (take k xs)
taken zero xs h i = lit< tt
taken (suc k) [] h i = lit< tt
taken (suc k) (x ∷ xs) h zero = h zero
taken (suc k) (x ∷ xs) h (suc i) = taken k xs (λ j. h (suc j)) i

dropped : (k : ℕ) (xs : List ℕ) → AreBytes xs → AreBytes (drop k xs)
dropped k xs h i = rw (get_or-drop k xs i 0) (h (k + i))

-- ---- a number that stands at an offset

some_inj : (a b : ℕ) → Some a ≡ Some b → a ≡ b
some_inj a b e = cc

none_some : (b : ℕ) → ◌≡◌ {A = Option ℕ} None (Some b) → ⊥
none_some b e = cc

there : (b : Bool) (x n : ℕ) → (if b then Some x else None) ≡ Some n → (b ≡ true) × (x ≡ n)
there true x n e = (refl, some_inj x n e)
there false x n e = absurd (none_some n e)

fits : (at n : ℕ) (bytes : List ℕ) → nat_le (at + n) (length bytes) ≡ true → length (take n (drop at bytes)) ≡ n
fits at n bytes e =
    let h : at + n ≤ length bytes = grind (arith, nat_tests) in
    length-take-le n (drop at bytes) (rw (length-drop at bytes) (omega arith))

pub word_there : (at n : ℕ) (bytes : List ℕ) → AreBytes bytes → word_at at bytes ≡ Some n → word_bytes n ≡ take 4 (drop at bytes)
unfolding word_at
word_there at n bytes h e =
    let t = there (nat_le (at + 4) (length bytes)) (from_be_bytes w32 (take 4 (drop at bytes))) n e in
    be_bytes_4 (take 4 (drop at bytes)) n (fits at 4 bytes t.0) (taken 4 (drop at bytes) (dropped at bytes h)) (sym t.1)

pub half_there : (at n : ℕ) (bytes : List ℕ) → AreBytes bytes → half_at at bytes ≡ Some n → to_be_bytes w16 n ≡ take 2 (drop at bytes)
unfolding half_at
half_there at n bytes h e =
    let t = there (nat_le (at + 2) (length bytes)) (from_be_bytes w16 (take 2 (drop at bytes))) n e in
    be_bytes_2 (take 2 (drop at bytes)) n (fits at 2 bytes t.0) (taken 2 (drop at bytes) (dropped at bytes h)) (sym t.1)

one : (xs : List ℕ) → length xs ≡ 1 → get_or xs 0 0 ∷ [] ≡ xs
one [] e = absurd (omega arith)
one (x ∷ []) e = refl
one (x ∷ (y ∷ ys)) e = absurd (omega arith)

worth : (xs : List ℕ) → from_be_bytes w8 xs ≡ get_or xs 0 0
worth xs = omega arith

pub byte_there : (at n : ℕ) (bytes : List ℕ) → byte_at at bytes ≡ Some n → n ∷ [] ≡ take 1 (drop at bytes)
unfolding byte_at
byte_there at n bytes e =
    let t = there (nat_le (at + 1) (length bytes)) (from_be_bytes w8 (take 1 (drop at bytes))) n e in
    let same : n ≡ get_or (take 1 (drop at bytes)) 0 0 = sym t.1 ∙ worth (take 1 (drop at bytes)) in
    rw same (one (take 1 (drop at bytes)) (fits at 1 bytes t.0))

-- ---- the whole

-- bytes from an offset on are a field and what follows it
cut : (at n : ℕ) (bytes field : List ℕ) → field ≡ take n (drop at bytes) → drop at bytes ≡ field ++ drop (at + n) bytes
cut at n bytes field e = rw e (sym (take-append-drop n (drop at bytes)) ∙ ap (λ xs. take n (drop at bytes) ++ xs) (drop-drop n at bytes))

module _ (bytes : List ℕ) (h : AreBytes bytes) (target entry text_length data_length : ℕ) (header : IsHeader bytes target entry text_length data_length) where
  start : drop 0 bytes ≡ word_bytes magic ++ drop 4 bytes
  start = cut 0 4 bytes (word_bytes magic) (word_there 0 magic bytes h header.magic_there)

  version : drop 4 bytes ≡ (1 ∷ []) ++ drop 5 bytes
  version = cut 4 1 bytes (1 ∷ []) (byte_there 4 1 bytes header.version_there)

  target_byte : drop 5 bytes ≡ (target ∷ []) ++ drop 6 bytes
  target_byte = cut 5 1 bytes (target ∷ []) (byte_there 5 target bytes header.target_there)

  zeros : drop 6 bytes ≡ to_be_bytes w16 0 ++ drop 8 bytes
  zeros = cut 6 2 bytes (to_be_bytes w16 0) (half_there 6 0 bytes h header.zeros_there)

  entry_word : drop 8 bytes ≡ word_bytes entry ++ drop 12 bytes
  entry_word = cut 8 4 bytes (word_bytes entry) (word_there 8 entry bytes h header.entry_there)

  text_word : drop 12 bytes ≡ word_bytes text_length ++ drop 16 bytes
  text_word = cut 12 4 bytes (word_bytes text_length) (word_there 12 text_length bytes h header.text_there)

  data_word : drop 16 bytes ≡ word_bytes data_length ++ drop 20 bytes
  data_word = cut 16 4 bytes (word_bytes data_length) (word_there 16 data_length bytes h header.data_there)

  body : drop 20 bytes ≡ take text_length (drop 20 bytes) ++ drop (20 + text_length) bytes
  body = cut 20 text_length bytes (take text_length (drop 20 bytes)) refl

  numbers : drop 8 bytes ≡ word_bytes entry ++ (word_bytes text_length ++ (word_bytes data_length ++ (take text_length (drop 20 bytes) ++ drop (20 + text_length) bytes)))
  numbers =
      entry_word
      ∙ ap (λ xs. word_bytes entry ++ xs)
      (text_word ∙ ap (λ xs. word_bytes text_length ++ xs) (data_word ∙ ap (λ xs. word_bytes data_length ++ xs) body))

  marks : drop 0 bytes ≡ word_bytes magic ++ ((1 ∷ target ∷ 0 ∷ 0 ∷ []) ++ drop 8 bytes)
  marks =
      start ∙ ap (λ xs. word_bytes magic ++ xs)
      (version ∙ ap (λ xs. 1 ∷ xs) (target_byte ∙ ap (λ xs. target ∷ xs) zeros))

  -- bytes with a right header that end with the data are those of an image
  pub joined : (text statics : List ℕ) → length bytes ≡ 20 + text_length + data_length → text ≡ take text_length (drop 20 bytes)
      → statics ≡ drop (20 + text_length) bytes
      → bytes ≡ image_bytes (record { target = target; entry = entry; text = text; statics = statics })
  unfolding image_bytes
  joined text statics whole t s =
      let a : length (take text_length (drop 20 bytes)) ≡ text_length
      = length-take-le text_length (drop 20 bytes) (rw (length-drop 20 bytes) (omega arith)) in
      let b : length (drop (20 + text_length) bytes) ≡ data_length = length-drop (20 + text_length) bytes ∙ omega arith in
      rw (t, s, a, b) (marks ∙ ap (λ xs. word_bytes magic ++ ((1 ∷ target ∷ 0 ∷ 0 ∷ []) ++ xs)) numbers)

-- a right header and a right body make an image
pub right : (bytes : List ℕ) (target entry text_length data_length : ℕ) → IsHeader bytes target entry text_length data_length
    → wrong_in_body entry text_length data_length bytes ≡ None → first_wrong bytes ≡ None
unfolding first_wrong
right bytes target entry text_length data_length h b = rw (h.right, h.entry_there, h.text_there, h.data_there) b
