-- Text that operators append.
use Rattle.std.specs.Prelude.{◌≡◌, ℕ, ◌+◌, ◌/◌, ◌%◌, List, [], ◌∷◌, ◌++◌, drop, if◌then◌else◌, Result, Ok, Err}
use Rattle.c_tree.specs.declared.types.CType.TheVariants.{Char}
use Rattle.c_operators.specs.Bits.{low_byte}
use Rattle.c_show.specs.Printed.{is_printable, number_text}
use Rattle.ps_store.specs.Store.{bytes_of}
use Rattle.ps_step.specs.declared.fault.PsError.{PsError}
use Rattle.ps_step.specs.declared.fault.PsFault.{PsFault}
use Rattle.ps_step.specs.declared.fault.PsFault.TheVariants.{Error, Spent, Link, NoMemory}
use Rattle.ps_step.specs.declared.machine.PsCore.{PsCore}
use Rattle.ps_step.specs.Results.{◌>>=◌}
use Rattle.ps_step.specs.Operands.{one_of}
use Rattle.ps_step.specs.State.{with_operands}
use Rattle.ps_step.specs.Values.{string_of}
use Rattle.ps_words.specs.Operators.{word_in}

-- a byte: `\` and three octal digits where it is not printed as it is
abbrev pub plain_byte : ℕ → List ℕ
plain_byte b = if is_printable b then b ∷ [] else 92 ∷ (48 + b / 64) ∷ (48 + b / 8 % 8) ∷ (48 + b % 8) ∷ []

abbrev pub plain_text : List ℕ → List ℕ
plain_text [] = []
plain_text (b ∷ bs) = plain_byte b ++ plain_text bs

-- `string Put`: the string's text
abbrev pub string_text_of : PsCore → Result (List ℕ) PsError
string_text_of c = one_of c.operands >>= λ x. string_of x >>= λ t. Ok (plain_text (bytes_of c.store t.0))

-- `n PutChar`: the form of the `char` that the lowest byte is
abbrev pub char_text_of : PsCore → Result (List ℕ) PsError
char_text_of c = one_of c.operands >>= λ x. word_in x >>= λ n. Ok (number_text Char (low_byte n))

-- a text is appended in the place of so many operands
abbrev pub appending : ℕ → Result (List ℕ) PsError → List ℕ → PsCore → Result (List ℕ × PsCore) PsError
appending n given out c = given >>= λ text. Ok (out ++ text, with_operands c (drop n c.operands))

-- The text was appended. An error leaves all as it was. Where memory ran out nothing is said.
abbrev pub Appends : ℕ → Result (List ℕ) PsError → List ℕ → PsCore → Result (Unit {0}) PsFault → List ℕ → PsCore → Type 0
Appends n given out c (Ok x) out' c' = appending n given out c ≡ Ok (out', c')
Appends n given out c (Err (Error e)) out' c' = (given ≡ Err e) × (out' ≡ out) × (c' ≡ c)
Appends n given out c (Err NoMemory) out' c' = Unit {0}
Appends n given out c (Err Spent) out' c' = ⊥
Appends n given out c (Err Link) out' c' = ⊥
