-- The words of a command line, divided by blanks.
use Rattle.std.specs.Prelude.{ℕ, Bool, true, false, ◌||◌, not, List, [], ◌∷◌, if◌then◌else◌, ◌==◌, take, drop, Option, None, Some}
use Rattle.std.specs.List.{prefix_len}

-- space and tab
abbrev pub is_blank : ℕ → Bool
is_blank b = b == 32 || b == 9

abbrev pub is_within : ℕ → Bool
is_within b = not (is_blank b)

abbrev pub is_nothing : List ℕ → Bool
is_nothing [] = true
is_nothing (b ∷ rest) = false

-- a line from its first byte on that is no blank
abbrev pub without_blanks : List ℕ → List ℕ
without_blanks line = drop (prefix_len is_blank line) line

-- the bytes before the first blank
abbrev pub first_word : List ℕ → List ℕ
first_word line = take (prefix_len is_within line) line

-- what stands behind the first word and its blanks
abbrev pub behind_word : List ℕ → List ℕ
behind_word line = without_blanks (drop (prefix_len is_within line) line)

-- a line of blanks alone
abbrev pub is_empty : List ℕ → Bool
is_empty line = is_nothing (without_blanks line)

-- the one word of a text that begins with no blank, if there is one and nothing else
abbrev pub lone_word : List ℕ → Option (List ℕ)
lone_word text = if is_nothing (first_word text) then None else if is_nothing (behind_word text) then Some (first_word text) else None
