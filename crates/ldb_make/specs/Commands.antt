-- The commands of a session over a generated program: 20 rounds, each of which stops once more in the innermost function, looks about, and gives an item
-- of `g` a new value.
use Rattle.std.specs.Prelude.{ℕ, ◌+◌, ◌*◌, List, ◌++◌, codes, decimal}
use Rattle.std.specs.List.{flat_map, range_with_len}
use Rattle.ldb_make.specs.Words.{pick}

unfoldable pub round_lines : (item value : ℕ) → List ℕ
round_lines item value =
    (codes "continue\nframes\nprint a\nframe 10\nprint t\neval t + g[" ++ (decimal item ++ codes "]\n"))
    ++ ((codes "assign g[" ++ (decimal item ++ codes "] = ")) ++ (decimal value ++ codes "u\n"))

-- a round's item and value are drawn from a word and the next one
abbrev pub round_text : List ℕ → (number : ℕ) → List ℕ
round_text words number = round_lines (pick words number 16) (pick words (number + 1) 1000)

-- the words behind those of the program
abbrev pub rounds_text : List ℕ → List ℕ
rounds_text words = flat_map (λ n. round_text words (410 + 2 * n)) (range_with_len 0 20)

unfoldable pub commands_text : List ℕ → List ℕ
commands_text words = codes "turns 1000000000\nbreak f0\n" ++ (rounds_text words ++ codes "clear f0\ncontinue\n")
