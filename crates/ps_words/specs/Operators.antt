-- The dialect's operators on words, on the state of a run.
use Rattle.std.specs.Prelude.{ℕ, nat_lt, ◌∷◌, drop, List, Option, Some, None, Result, Ok, Err}
use Rattle.ldb_words.specs.Word.{signed, word_of_signed}
use Rattle.c_operators.specs.Bits.{signed_negate}
use Rattle.ps_store.specs.declared.object.PsObj.{PsObj}
use Rattle.ps_store.specs.declared.object.PsObj.TheVariants.{Int, Bool as Truth}
use Rattle.ps_step.specs.declared.fault.PsError.{PsError}
use Rattle.ps_step.specs.declared.machine.PsCore.{PsCore}
use Rattle.ps_step.specs.Results.{◌>>=◌}
use Rattle.ps_step.specs.Arithmetic.{integer_of}
use Rattle.ps_step.specs.Operands.{one_of, pair_of}
use Rattle.ps_step.specs.State.{Made, with_operands}
use Rattle.ps_words.specs.declared.words.WordOperator.{WordOperator}
use Rattle.ps_words.specs.Words.{of_two, defined}

-- an integer's 32 bits, and the integer of 32 bits
abbrev pub word_in : PsObj → Result ℕ PsError
word_in x = integer_of x >>= λ n. Ok (word_of_signed n)

abbrev pub integer : ℕ → PsObj
integer n = Int (signed n)

-- an operator on two words; `ineg`; `ult`
abbrev pub on_two : WordOperator → PsCore → Made
on_two op c =
    pair_of c.operands >>= λ p. word_in p.0 >>= λ x. word_in p.1 >>= λ y.
    defined (of_two op x y) >>= λ n. Ok (with_operands c (integer n ∷ drop 2 c.operands))

abbrev pub negating : PsCore → Made
negating c = one_of c.operands >>= λ a. word_in a >>= λ x. defined (signed_negate x) >>= λ n. Ok (with_operands c (integer n ∷ drop 1 c.operands))

abbrev pub below : PsCore → Made
below c = pair_of c.operands >>= λ p. word_in p.0 >>= λ x. word_in p.1 >>= λ y. Ok (with_operands c (Truth (nat_lt x y) ∷ drop 2 c.operands))
