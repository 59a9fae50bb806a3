-- Places of a command: a file with a line and maybe a column, or the name of a function.
use Rattle.std.specs.Prelude.{ℕ, ◌+◌, ◌-◌, Bool, false, ◌&&◌, not, List, [], ◌∷◌, length, take, drop, if◌then◌else◌, ◌==◌, nat_le, nat_lt, Option, None, Some}
use Rattle.std.specs.List.{list_all, prefix_len, suffix_len}
use Rattle.c_lex.specs.Bytes.{is_letter, is_part}
use Rattle.c_lex.specs.Grammar.{is_some}
use Rattle.c_lex.specs.Keywords.{keyword_of}
use Rattle.c_session.specs.declared.command.Spot.{Spot}
use Rattle.c_session.specs.declared.command.Spot.TheVariants.{Line, Func}
use Rattle.cmd_lang.specs.Numbers.{position_of}
use Rattle.cmd_lang.specs.Words.{is_nothing}

abbrev begins_word : List ℕ → Bool
begins_word [] = false
begins_word (b ∷ rest) = is_letter b

-- an identifier of C (C90 6.1.2), of at most 63 bytes
abbrev pub is_name : List ℕ → Bool
is_name w = begins_word w && (list_all is_part w && (nat_le (length w) 63 && not (is_some (keyword_of w))))

-- the bytes that are not this one
abbrev pub is_other : ℕ → ℕ → Bool
is_other c b = not (b == c)

-- how many bytes stand before the first `.`
abbrev pub line_len : List ℕ → ℕ
line_len w = prefix_len (is_other 46) w

abbrev both : Option ℕ → Option ℕ → Option (ℕ × Option ℕ)
both (Some line) (Some column) = Some (line, Some column)
both _ _ = None

abbrev line_alone : Option ℕ → Option (ℕ × Option ℕ)
line_alone None = None
line_alone (Some line) = Some (line, None)

-- `L.C` or `L`
abbrev pub positions_of : List ℕ → Option (ℕ × Option ℕ)
positions_of w =
    if nat_lt (line_len w) (length w) then both (position_of (take (line_len w) w)) (position_of (drop (line_len w + 1) w))
    else line_alone (position_of w)

abbrev in_file : List ℕ → Option (ℕ × Option ℕ) → Option Spot
in_file file None = None
in_file file (Some place) = if is_nothing file then None else Some (Line file place.0 place.1)

-- the place of a function's name
abbrev pub func_of : List ℕ → Option Spot
func_of w = if is_name w then Some (Func w) else None

-- how many bytes stand behind the last `:`
abbrev pub place_len : List ℕ → ℕ
place_len w = suffix_len (is_other 58) w

-- `F:L.C`, `F:L` or `NAME`: the last `:` ends the file's name, which isn't empty
abbrev pub spot_of : List ℕ → Option Spot
spot_of w =
    if nat_lt (place_len w) (length w) then in_file (take (length w - place_len w - 1) w) (positions_of (drop (length w - place_len w) w))
    else func_of w
