-- The text of an object.
use Rattle.std.specs.Prelude.{ℕ, ◌+◌, ◌*◌, List, [], ◌∷◌, ◌++◌, length, Bool, true, false}
use Rattle.flat_ir.specs.declared.code.FlatOp.{FlatOp}
use Rattle.flat_ir.specs.declared.code.FlatFunction.{FlatFunction}
use Rattle.flat_ir.specs.declared.code.FlatCode.{FlatCode}
use Rattle.flat_ir.specs.declared.moves.MoveStep.{MoveStep}
use Rattle.flat_ir.specs.declared.moves.MoveStep.TheVariants as step
use Rattle.flat_ir.specs.declared.moves.Mover.{Mover}
use Rattle.gen_parts.specs.Coding.{Coding}

module _ {Insn : Type 0} (t : Coding Insn) where
  -- the words of instructions
  abbrev pub text_bytes : List Insn → List ℕ
  text_bytes [] = []
  text_bytes (i ∷ rest) = t.bytes_of i ++ text_bytes rest

  -- ---- functions

  -- the instructions of operators in a frame of so many bytes
  abbrev pub ops_insns : (frame : ℕ) → List FlatOp → List Insn
  ops_insns frame [] = []
  ops_insns frame (o ∷ rest) = t.operator frame o ++ ops_insns frame rest

  -- where in the text the instructions of each operator begin, behind so many instructions
  abbrev pub ops_offsets : (frame before : ℕ) → List FlatOp → List ℕ
  ops_offsets frame n [] = []
  ops_offsets frame n (o ∷ rest) = n * 4 ∷ ops_offsets frame (n + length (t.operator frame o)) rest

  unfoldable pub function_insns : FlatFunction → List Insn
  function_insns f = t.prologue f.frame ++ ops_insns f.frame f.code ++ t.epilogue f.frame

  abbrev pub functions_insns : List FlatFunction → List Insn
  functions_insns [] = []
  functions_insns (f ∷ rest) = function_insns f ++ functions_insns rest

  -- ---- copies of structs

  abbrev pub steps_insns : (back : Bool) (before : MoveStep) → List MoveStep → List Insn
  steps_insns back before [] = []
  steps_insns back before (s ∷ rest) = t.step back before s ++ steps_insns back s rest

  abbrev pub copy_insns : (back : Bool) → List MoveStep → List Insn
  copy_insns back steps = t.copy_begin ++ steps_insns back step.Again steps ++ t.copy_end

  unfoldable pub mover_insns : Mover → List Insn
  mover_insns m = t.choice m.size ++ copy_insns false m.ascending ++ copy_insns true m.descending

  abbrev pub movers_insns : List Mover → List Insn
  movers_insns [] = []
  movers_insns (m ∷ rest) = mover_insns m ++ movers_insns rest

  -- ---- the program: its start, the copies of structs, its functions

  unfoldable pub program_insns : FlatCode → List Insn
  program_insns c = t.start ++ movers_insns c.movers ++ functions_insns c.functions
