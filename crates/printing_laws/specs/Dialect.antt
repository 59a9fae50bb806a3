-- The debugger's dialect as one that prints.
use Rattle.std.specs.Prelude.{ℕ, ℤ, Bool, true, false, List, ◌++◌, Option, Some, None, Ok, Err}
use Rattle.c_tree.specs.declared.types.CType.TheVariants.{Char}
use Rattle.c_operators.specs.Bits.{low_byte}
use Rattle.c_show.specs.Printed.{number_text}
use Rattle.ldb_words.specs.Word.{word_of_signed}
use Rattle.ps_step.specs.declared.machine.PsCore.{PsCore}
use Rattle.dialect_model.specs.Dial.{Dial, Target, Act, Raises, Needs}
use Rattle.dialect_model.specs.Operators.{act}

-- what was appended, with more text; where there is no target the text is dropped
abbrev pub out_with : Option Target → List ℕ → List ℕ → List ℕ
out_with None text out = out
out_with (Some t) text out = out ++ text

abbrev pub append : Dial → List ℕ → Dial
append d text = record d { out = out_with d.target text d.out }

-- whether an operator needs functions of a unit first
abbrev pub needs_unit : Act → Bool
needs_unit (Ok made) = false
needs_unit (Err (Raises e)) = false
needs_unit (Err (Needs unit)) = true

abbrev pub needs : Dial → PsCore → ℕ → Bool
needs d c op = needs_unit (act op d c)

-- the form of a `char`
abbrev pub char_text : ℤ → List ℕ
char_text n = number_text Char (low_byte (word_of_signed n))
