-- Operators whose error may come after something was made or put: `copy`, `>>` and `cvs`.
use Rattle.std.specs.Prelude.{ℕ, ◌+◌, ◌%◌, ◌==◌, if◌then◌else◌, Option, Some, None, Result, Ok, Err, List, ◌∷◌, drop, take, reverse}
use Rattle.ps_store.specs.declared.object.PsObj.{PsObj}
use Rattle.ps_store.specs.declared.object.PsObj.TheVariants.{Int}
use Rattle.ps_step.specs.declared.fault.PsError.{PsError}
use Rattle.ps_step.specs.declared.fault.PsError.TheVariants.{RangeCheck, UnmatchedMark}
use Rattle.ps_step.specs.declared.machine.PsCore.{PsCore}
use Rattle.ps_step.specs.Results.{◌>>=◌, at}
use Rattle.ps_step.specs.Composites.{MadePart, copied, filled, placed_text}
use Rattle.ps_step.specs.Marks.{mark_from}
use Rattle.ps_step.specs.Operands.{one_of, pair_of}
use Rattle.ps_step.specs.StackOperators.{copying_top}
use Rattle.ps_step.specs.Text.{text_of}
use Rattle.ps_step.specs.Values.{count_of, string_of}

-- What an operator makes of a state, or the error that it raises and the state that it leaves.
-- The operands are those from before it.
abbrev pub MadeOrLeft : Type 0
MadeOrLeft = Result PsCore (PsError × PsCore)

-- an object in place of the n topmost operands
abbrev pub replacing : ℕ → PsCore → MadePart → MadeOrLeft
replacing n c (Ok made) = Ok (record c { store = made.1; operands = made.0 ∷ drop n c.operands })
replacing n c (Err failed) = Err (failed.0, record c { store = failed.1 })

-- `copy`, by the topmost operand
abbrev pub copying_by : PsObj → PsCore → MadeOrLeft
copying_by (Int n) c = at c (count_of (Int n) >>= λ count. copying_top count c)
copying_by top c = at c (pair_of c.operands) >>= λ p. replacing 2 c (copied c.store p.0 p.1)

abbrev pub copying : PsCore → MadeOrLeft
copying c = at c (one_of c.operands) >>= λ top. copying_by top c

-- `>>`: a dictionary of the keys and values above the topmost mark
abbrev pub closing_dict : PsCore → MadeOrLeft
closing_dict c = elim (mark_from 0 c.operands) [
  | None ↦ Err (UnmatchedMark, c)
  | Some n ↦ if n % 2 == 1 then Err (RangeCheck, c) else replacing (n + 1) c (filled c.store (reverse (take n c.operands)))
]

-- `cvs`: the text of an object is put into a string
abbrev pub writing_text : PsCore → MadeOrLeft
writing_text c =
    at c (pair_of c.operands) >>= λ p. at c (string_of p.1) >>= λ t.
    replacing 2 c (placed_text c.store (text_of c.store p.0) t.0 t.1)
