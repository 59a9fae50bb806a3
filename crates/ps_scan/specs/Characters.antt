-- The characters that a string stands for (PostScript Language Reference, 3.2.2).
use Rattle.std.specs.Prelude.{ℕ, zero, suc, ◌+◌, ◌-◌, ◌*◌, ◌%◌, Bool, false, not, ◌==◌, nat_lt, slice_get, if◌then◌else◌, Option, Some, None, List, [], ◌∷◌, ◌++◌, take, drop, length, map, filter, fold}
use Rattle.std.specs.Option.{option_to_list}
use Rattle.ps_scan.specs.Bytes.{digit_of, is_octal}

-- whether a byte stands at the front
abbrev pub begins_with : ℕ → List ℕ → Bool
begins_with byte [] = false
begins_with byte (b ∷ bs) = b == byte

-- whether an octal digit stands at a place
abbrev pub octal_at : List ℕ → ℕ → Bool
octal_at bs i = elim (slice_get bs i) [ Some b ↦ is_octal b | None ↦ false ]

-- how many octal digits stand at the front, at most three
abbrev pub octal_len : List ℕ → ℕ
octal_len bs =
    if not (octal_at bs 0) then 0
    else if not (octal_at bs 1) then 1
    else if not (octal_at bs 2) then 2
    else 3

-- the number that octal digits are, whose high bits are dropped
abbrev pub octal_value : List ℕ → ℕ
octal_value digits = fold (λ n b. (n * 8 + (b - 48)) % 256) 0 digits

-- the character that a byte behind a backslash stands for
abbrev pub named_character : ℕ → ℕ
named_character b =
    if b == 110 then 10
    else if b == 114 then 13
    else if b == 116 then 9
    else if b == 98 then 8
    else if b == 102 then 12
    else b

-- A part of a string: how many bytes it takes, and the character that it stands for. The end of a line is a line
-- feed, also where it is a carriage return alone or before a line feed.
abbrev pub line_end : List ℕ → ℕ
line_end bs = if begins_with 10 bs then 2 else 1

-- the part that begins with a backslash, behind which this follows; behind it the end of a line stands for nothing
abbrev pub escape : List ℕ → ℕ × Option ℕ
escape [] = (1, None)
escape (b ∷ bs) =
    if is_octal b then (1 + octal_len (b ∷ bs), Some (octal_value (take (octal_len (b ∷ bs)) (b ∷ bs))))
    else if b == 10 then (2, None)
    else if b == 13 then (1 + line_end bs, None)
    else (2, Some (named_character b))

-- the part at the front
abbrev pub part : List ℕ → ℕ × Option ℕ
part [] = (1, None)
part (b ∷ bs) =
    if b == 92 then escape bs
    else if b == 13 then (line_end bs, Some 10)
    else (1, Some b)

-- the characters of what stands between parentheses, part by part, the first `n` bytes being passed
abbrev pub characters_behind : ℕ → List ℕ → List ℕ
characters_behind n [] = []
characters_behind (suc n) (b ∷ bs) = characters_behind n bs
characters_behind zero (b ∷ bs) = option_to_list (part (b ∷ bs)).1 ++ characters_behind ((part (b ∷ bs)).0 - 1) bs

abbrev pub characters : List ℕ → List ℕ
characters body = characters_behind 0 body

-- the characters of hexadecimal digits, two by two; a last one alone is followed by 0
abbrev pub paired : List ℕ → List ℕ
paired [] = []
paired (a ∷ []) = a * 16 ∷ []
paired (a ∷ b ∷ digits) = (a * 16 + b) ∷ paired digits

abbrev pub hexadecimal_digits : List ℕ → List ℕ
hexadecimal_digits body = filter (λ d. nat_lt d 16) (map digit_of body)

-- the characters of a string token, by its whole text
abbrev pub inner : List ℕ → List ℕ
inner token = take (length token - 2) (drop 1 token)

abbrev pub string_value : List ℕ → List ℕ
string_value token = if begins_with 60 token then paired (hexadecimal_digits (inner token)) else characters (inner token)
