-- The topmost operands.
use Rattle.std.specs.Prelude.{Result, Ok, Err, List, [], ◌∷◌}
use Rattle.ps_store.specs.declared.object.PsObj.{PsObj}
use Rattle.ps_step.specs.declared.fault.PsError.{PsError}
use Rattle.ps_step.specs.declared.fault.PsError.TheVariants.{StackUnderflow}

-- the topmost operand
abbrev pub one_of : List PsObj → Result PsObj PsError
one_of [] = Err StackUnderflow
one_of (a ∷ rest) = Ok a

-- the two topmost operands, the lower one first
abbrev pub pair_of : List PsObj → Result (PsObj × PsObj) PsError
pair_of [] = Err StackUnderflow
pair_of (b ∷ []) = Err StackUnderflow
pair_of (b ∷ a ∷ rest) = Ok (a, b)

-- the three topmost operands, the lowest first
abbrev pub triple_of : List PsObj → Result (PsObj × PsObj × PsObj) PsError
triple_of [] = Err StackUnderflow
triple_of (c ∷ []) = Err StackUnderflow
triple_of (c ∷ b ∷ []) = Err StackUnderflow
triple_of (c ∷ b ∷ a ∷ rest) = Ok (a, b, c)

-- the four topmost operands, the lowest first
abbrev pub quadruple_of : List PsObj → Result (PsObj × PsObj × PsObj × PsObj) PsError
quadruple_of [] = Err StackUnderflow
quadruple_of (d ∷ []) = Err StackUnderflow
quadruple_of (d ∷ c ∷ []) = Err StackUnderflow
quadruple_of (d ∷ c ∷ b ∷ []) = Err StackUnderflow
quadruple_of (d ∷ c ∷ b ∷ a ∷ rest) = Ok (a, b, c, d)
