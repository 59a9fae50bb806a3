-- What a target makes of the parts of a program's text.
use Rattle.std.specs.Prelude.{ℕ, List, Bool}
use Rattle.flat_ir.specs.declared.code.FlatOp.{FlatOp}
use Rattle.flat_ir.specs.declared.moves.MoveStep.{MoveStep}
use Rattle.gen_parts.specs.declared.coder.Shape.{Shape}

-- The instructions of a target, each one word. A field that the linker writes is 0.
pub record Coding (Insn : Type 0) : Type 0 where
  pub shape : Shape
  -- the bytes of an instruction's word, in the target's order
  pub bytes_of : Insn → List ℕ
  -- the start of a program, whose first instruction calls `main`
  pub start : List Insn
  -- a function: how it begins, the code of an operator in a frame of so many bytes, and how it ends
  pub prologue : (frame : ℕ) → List Insn
  pub operator : (frame : ℕ) → FlatOp → List Insn
  pub epilogue : (frame : ℕ) → List Insn
  -- the copy of a struct: the choice of its direction by the struct's size, and how the copy in a direction begins and ends
  pub choice : (size : ℕ) → List Insn
  pub copy_begin : List Insn
  pub copy_end : List Insn
  -- a step of such a copy that descends or ascends, behind another step; the second instruction of that of a struct calls the struct's copy
  pub step : (back : Bool) → (before step : MoveStep) → List Insn
  -- each register that a function saves, with its distance from the stack pointer
  pub saved : List (ℕ × ℕ)
