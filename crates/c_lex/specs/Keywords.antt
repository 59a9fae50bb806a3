-- The keywords (C90 6.1.1).
use Rattle.std.specs.Prelude.{ℕ, List, [], ◌∷◌, Option, Some, None, codes, bytes_eq, if◌then◌else◌}
use Rattle.c_lex.specs.declared.keyword.Keyword.{Keyword}
use Rattle.c_lex.specs.declared.keyword.Keyword.TheVariants.{Break, Case, Char, Continue, Default, Do, Else, Extern, For, If, Int, Register, Return, Sizeof, Static, Struct, Switch, Unsigned, Void, While, Unused}

abbrev pub Row : Type 0
Row = List ℕ × Keyword

-- what a table has for a word
abbrev pub lookup_word : List Row → List ℕ → Option Keyword
lookup_word [] t = None
lookup_word (row ∷ rows) t = if bytes_eq t row.0 then Some row.1 else lookup_word rows t

abbrev pub early : List Row
early = (codes "break", Break) ∷ (codes "case", Case) ∷ (codes "char", Char) ∷ (codes "continue", Continue) ∷ (codes "default", Default) ∷ (codes "do", Do) ∷ (codes "else", Else) ∷ (codes "extern", Extern) ∷ []

abbrev pub middle : List Row
middle = (codes "for", For) ∷ (codes "if", If) ∷ (codes "int", Int) ∷ (codes "register", Register) ∷ (codes "return", Return) ∷ (codes "sizeof", Sizeof) ∷ []

abbrev pub late : List Row
late = (codes "static", Static) ∷ (codes "struct", Struct) ∷ (codes "switch", Switch) ∷ (codes "unsigned", Unsigned) ∷ (codes "void", Void) ∷ (codes "while", While) ∷ []

-- of which no rule of the language makes use
abbrev pub unused : List Row
unused = (codes "auto", Unused) ∷ (codes "const", Unused) ∷ (codes "double", Unused) ∷ (codes "enum", Unused) ∷ (codes "float", Unused) ∷ (codes "goto", Unused) ∷ (codes "long", Unused) ∷ (codes "short", Unused) ∷ (codes "signed", Unused) ∷ (codes "typedef", Unused) ∷ (codes "union", Unused) ∷ (codes "volatile", Unused) ∷ []

abbrev pub or_else : Option Keyword → Option Keyword → Option Keyword
or_else None k = k
or_else (Some k) _ = Some k

abbrev pub keyword_of : List ℕ → Option Keyword
keyword_of t = or_else (lookup_word early t) (or_else (lookup_word middle t) (or_else (lookup_word late t) (lookup_word unused t)))
