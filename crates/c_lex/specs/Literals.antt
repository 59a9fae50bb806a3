-- Character constants and string literals (C90 6.1.3.4, 6.1.4).
use Rattle.std.specs.Prelude.{◌≡◌, ℕ, zero, suc, ◌+◌, ◌*◌, ◌-◌, ◌≤◌, Bool, true, false, ◌&&◌, ◌||◌, ◌==◌, nat_le, nat_lt, ℤ, pos, negsuc, if◌then◌else◌, List, [], ◌∷◌, ◌++◌, length, drop, Option, Some, None}
use Rattle.c_lex.specs.Bytes.{is_octal, is_hex, digit_of, lookup}

-- a trigraph: ?? and one of = ( ) / ' < > ! - (C90 5.2.1.1)
abbrev pub ends_trigraph : ℕ → Bool
ends_trigraph b = b == 61 || b == 40 || b == 41 || b == 47 || b == 39 || b == 60 || b == 62 || b == 33 || b == 45

abbrev pub is_trigraph : List ℕ → Bool
is_trigraph [] = false
is_trigraph (a ∷ []) = false
is_trigraph (a ∷ b ∷ []) = false
is_trigraph (a ∷ b ∷ c ∷ rest) = a == 63 && b == 63 && ends_trigraph c

-- \n \t \r \b \f \v \a \\ \' \" \?
abbrev pub escapes : List (ℕ × ℕ)
escapes = (110, 10) ∷ (116, 9) ∷ (114, 13) ∷ (98, 8) ∷ (102, 12) ∷ (118, 11) ∷ (97, 7) ∷ (92, 92) ∷ (39, 39) ∷ (34, 34) ∷ (63, 63) ∷ []

-- whether a byte of a class stands at the front
abbrev pub starts : (ℕ → Bool) → List ℕ → Bool
starts p [] = false
starts p (b ∷ bs) = p b

-- IsItem q i v next: the bytes i, which `next` follows, stand for the byte v in a literal between the quotes q
pub data IsItem (q : ℕ) : List ℕ → ℕ → List ℕ → Type 0 where
  plain : (c : ℕ) (next : List ℕ) → (c == 92) ≡ false → (c == q) ≡ false → (c == 10) ≡ false → is_trigraph (c ∷ next) ≡ false
      → IsItem q (c ∷ []) c next
  escape : (c v : ℕ) (next : List ℕ) → lookup escapes c ≡ Some v → is_trigraph (c ∷ next) ≡ false → IsItem q (92 ∷ c ∷ []) v next
  octal_one : (a : ℕ) (next : List ℕ) → is_octal a ≡ true → starts is_octal next ≡ false → IsItem q (92 ∷ a ∷ []) (a - 48) next
  octal_two : (a b : ℕ) (next : List ℕ) → is_octal a ≡ true → is_octal b ≡ true → starts is_octal next ≡ false
      → IsItem q (92 ∷ a ∷ b ∷ []) ((a - 48) * 8 + (b - 48)) next
  octal_three : (a b c : ℕ) (next : List ℕ) → is_octal a ≡ true → is_octal b ≡ true → is_octal c ≡ true
      → ((a - 48) * 8 + (b - 48)) * 8 + (c - 48) ≤ 255
      → IsItem q (92 ∷ a ∷ b ∷ c ∷ []) (((a - 48) * 8 + (b - 48)) * 8 + (c - 48)) next
  hex_one : (a : ℕ) (next : List ℕ) → is_hex a ≡ true → starts is_hex next ≡ false → IsItem q (92 ∷ 120 ∷ a ∷ []) (digit_of a) next
  hex_two : (a b : ℕ) (next : List ℕ) → is_hex a ≡ true → is_hex b ≡ true → IsItem q (92 ∷ 120 ∷ a ∷ b ∷ []) (digit_of a * 16 + digit_of b) next

-- Literal q text values rest: behind an opening quote, the text up to the closing one stands for the values; then the rest follows
pub data Literal (q : ℕ) : List ℕ → List ℕ → List ℕ → Type 0 where
  ends : (rest : List ℕ) → Literal q (q ∷ rest) [] rest
  item : {i next values rest : List ℕ} {v : ℕ} → IsItem q i v next → Literal q next values rest → Literal q (i ++ next) (v ∷ values) rest

-- the length and the value of the item at the front
abbrev pub hex_last : ℕ → List ℕ → ℕ × ℕ
hex_last v [] = (3, v)
hex_last v (b ∷ s) = if is_hex b then (4, v * 16 + digit_of b) else (3, v)

abbrev pub hex_item : List ℕ → Option (ℕ × ℕ)
hex_item [] = None
hex_item (a ∷ s) = if is_hex a then Some (hex_last (digit_of a) s) else None

abbrev pub octal_last : ℕ → List ℕ → Option (ℕ × ℕ)
octal_last v [] = Some (3, v)
octal_last v (c ∷ s) = if is_octal c then (if nat_le (v * 8 + (c - 48)) 255 then Some (4, v * 8 + (c - 48)) else None) else Some (3, v)

abbrev pub octal_item : ℕ → List ℕ → Option (ℕ × ℕ)
octal_item v [] = Some (2, v)
octal_item v (b ∷ s) = if is_octal b then octal_last (v * 8 + (b - 48)) s else Some (2, v)

abbrev pub escaped : Option ℕ → List ℕ → Option (ℕ × ℕ)
escaped None s = None
escaped (Some v) s = if is_trigraph s then None else Some (2, v)

abbrev pub escape_item : List ℕ → Option (ℕ × ℕ)
escape_item [] = None
escape_item (c ∷ s) =
    if is_octal c then octal_item (c - 48) s
    else if c == 120 then hex_item s
    else escaped (lookup escapes c) (c ∷ s)

abbrev pub item_of : ℕ → List ℕ → Option (ℕ × ℕ)
item_of q [] = None
item_of q (c ∷ s) =
    if c == 92 then escape_item s
    else if c == q || c == 10 || is_trigraph (c ∷ s) then None
    else Some (1, c)

-- IsClosed q text found: n bytes behind an opening quote the literal is closed, or it never is
abbrev pub IsClosed : ℕ → List ℕ → Option ℕ → Type 0
IsClosed q text None = (values rest : List ℕ) → Literal q text values rest → ⊥
IsClosed q text (Some n) =
    (n ≤ length text) × ((values : List ℕ) × Literal q text values (drop n text))
    × ((values rest : List ℕ) → Literal q text values rest → rest ≡ drop n text)

-- the same where there is one character
abbrev pub IsOne : List ℕ → Option ℕ → Type 0
IsOne text None = (v : ℕ) (rest : List ℕ) → Literal 39 text (v ∷ []) rest → ⊥
IsOne text (Some n) =
    (n ≤ length text) × ((v : ℕ) × Literal 39 text (v ∷ []) (drop n text))
    × ((v : ℕ) (rest : List ℕ) → Literal 39 text (v ∷ []) rest → rest ≡ drop n text)

-- a byte as a signed char
abbrev pub signed_char : ℕ → ℤ
signed_char v = if nat_lt v 128 then pos v else negsuc (255 - v)

-- the bytes up to the closing quote of a string literal; the first k bytes are passed over
abbrev pub values_of : ℕ → List ℕ → List ℕ
values_of k [] = []
values_of (suc k) (c ∷ s) = values_of k s
values_of zero (c ∷ s) = if c == 34 then [] else elim (item_of 34 (c ∷ s)) [ None ↦ [] | Some p ↦ p.1 ∷ values_of (p.0 - 1) s ]

-- the value of the character at the front
abbrev pub character_of : List ℕ → ℤ
character_of text = elim (item_of 39 text) [ None ↦ pos 0 | Some p ↦ signed_char p.1 ]
