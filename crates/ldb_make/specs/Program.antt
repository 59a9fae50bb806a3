-- A generated program: ten functions, each of which calls the one before it, and `main`.
use Rattle.std.specs.Prelude.{ℕ, zero, suc, ◌+◌, ◌*◌, ◌%◌, ◌==◌, if◌then◌else◌, List, [], ◌++◌, codes, decimal}
use Rattle.std.specs.List.{flat_map, range_with_len}
use Rattle.ldb_make.specs.Words.{pick}

-- a line of a function, by its form and its constant
abbrev pub form_line : (form constant : ℕ) → List ℕ
form_line form c =
    if form == 0 then codes "  t = t * " ++ (decimal c ++ codes "u + a;\n")
    else (if form == 1 then codes "  g[" ++ (decimal (c % 16) ++ codes "] = t ^ b;\n")
    else (if form == 2 then codes "  if (t & 1u) a = a + " ++ (decimal c ++ codes "u;\n")
    else codes "  b = b - g[" ++ (decimal (c % 16) ++ codes "];\n")))

-- a line of a function, drawn from a word and the next one
unfoldable pub body_line : List ℕ → (number : ℕ) → List ℕ
body_line words number = form_line (pick words number 4) (pick words (number + 1) 1000)

-- the 20 lines that are drawn behind a word, from two words each
abbrev pub body_lines : List ℕ → (first : ℕ) → List ℕ
body_lines words first = flat_map (λ line. body_line words (first + 1 + 2 * line)) (range_with_len 0 20)

-- the head of a function, drawn from a word
unfoldable pub head_lines : List ℕ → (function first : ℕ) → List ℕ
head_lines words f first =
    (codes "unsigned f" ++ (decimal f ++ codes "(unsigned a, unsigned b) {\n  unsigned t;\n"))
    ++ (codes "  t = a ^ " ++ (decimal (pick words first 1000) ++ codes "u;\n"))

-- the call of the function before this one
unfoldable pub call_line : ℕ → List ℕ
call_line zero = []
call_line (suc before) = codes "  t = t + f" ++ (decimal before ++ codes "(a, t);\n")

abbrev pub end_lines : List ℕ
end_lines = codes "  return t;\n}\n"

-- a function takes 41 words
abbrev pub function_text : List ℕ → (function : ℕ) → List ℕ
function_text words f = head_lines words f (41 * f) ++ (body_lines words (41 * f) ++ (call_line f ++ end_lines))

unfoldable pub main_text : List ℕ
main_text = codes "int main(void) {\n  unsigned i;\n  unsigned t;\n  for (i = 0u; i < 500u; i = i + 1u) {\n    t = t + f9(i, t);\n    putchar((int)(t & 63u) + 32);\n  }\n  return (int)(t & 127u);\n}\n"

abbrev pub functions_text : List ℕ → List ℕ
functions_text words = flat_map (function_text words) (range_with_len 0 10)

unfoldable pub program_text : List ℕ → List ℕ
program_text words = codes "unsigned g[16];\n" ++ (functions_text words ++ main_text)
