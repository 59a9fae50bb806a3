-- How bytes are written in a string in parentheses.
use Rattle.std.specs.Prelude.{ℕ, ◌==◌, ◌||◌, if◌then◌else◌, List, [], ◌∷◌, ◌++◌}

-- a parenthesis or a backslash stands behind a backslash, a carriage return is `\r`, and any other byte stands for itself
abbrev pub escaped_byte : ℕ → List ℕ
escaped_byte b =
    if b == 40 || b == 41 || b == 92 then 92 ∷ b ∷ []
    else if b == 13 then 92 ∷ 114 ∷ []
    else b ∷ []

abbrev pub escaped : List ℕ → List ℕ
escaped [] = []
escaped (b ∷ bs) = escaped_byte b ++ escaped bs

-- the token of a string with these characters
abbrev pub string_token : List ℕ → List ℕ
string_token bs = 40 ∷ (escaped bs ++ 41 ∷ [])
