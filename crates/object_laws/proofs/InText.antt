-- The uses of a text are in the text.
use Rattle.std.proofs.Common.{◌≡◌, ℕ, suc, ◌+◌, ◌*◌, List, [], ◌∷◌, ◌++◌, length, Bool, true, false, Option, Some, None, refl}
use Rattle.std.specs.List.{AllByRecursion}
use Rattle.obj_file.specs.declared.object.Use.{Use}
use Rattle.flat_ir.specs.declared.code.FlatOp.{FlatOp}
use Rattle.flat_ir.specs.declared.code.FlatOp.TheVariants as flat
use Rattle.flat_ir.specs.declared.code.FlatFunction.{FlatFunction}
use Rattle.flat_ir.specs.declared.code.FlatCode.{FlatCode}
use Rattle.flat_ir.specs.declared.moves.MoveStep.{MoveStep}
use Rattle.flat_ir.specs.declared.moves.MoveStep.TheVariants as step
use Rattle.flat_ir.specs.declared.moves.Mover.{Mover}
use Rattle.gen_parts.specs.Coding.{Coding}
use Rattle.gen_parts.specs.Names.{function_name}
use Rattle.gen_parts.specs.Text.{function_insns, mover_insns}
use Rattle.gen_parts.specs.Uses.{return_uses, op_uses, ops_uses}
use Rattle.gen_parts.specs.Parts.{jump_use, step_uses, steps_uses, choice_uses, copy_uses, ascending_at, descending_at, mover_uses, movers_uses, end_of_returns, end_at, offsets, function_uses, functions_uses, functions_at, program_uses}
use Rattle.object_laws.proofs.Lists.{all_append}

abbrev pub IsInText : Use → Type 0
IsInText u = u.in_text ≡ true

module _ (number entry : ℕ) (places : List ℕ) (epilogue : Option ℕ) (jump_word : ℕ) where
  return_in : (at : ℕ) (o : Option ℕ) → AllByRecursion IsInText (return_uses number entry places epilogue jump_word at o)
  return_in at None = tt
  return_in at (Some target) = (refl, tt)

  op_in : (at : ℕ) (o : FlatOp) → AllByRecursion IsInText (op_uses number entry places epilogue jump_word at o)
  op_in at (flat.StaticAddress to object) = (refl, (refl, tt))
  op_in at (flat.Copy shape) = (refl, tt)
  op_in at (flat.Call function) = (refl, tt)
  op_in at (flat.Jump place) = (refl, tt)
  op_in at (flat.JumpIf is_zero place) = (refl, tt)
  op_in at flat.Return = return_in at epilogue
  op_in at (flat.Set to bits) = tt
  op_in at (flat.FrameAddress to from) = tt
  op_in at (flat.Get to from) = tt
  op_in at (flat.Put from to) = tt
  op_in at (flat.Load access) = tt
  op_in at (flat.Store kind) = tt
  op_in at (flat.Fill bytes) = tt
  op_in at (flat.ReadRegister register access) = tt
  op_in at (flat.WriteRegister register) = tt
  op_in at (flat.Extend access) = tt
  op_in at (flat.Unary op) = tt
  op_in at (flat.Binary op) = tt
  op_in at (flat.Scale size back) = tt
  op_in at (flat.Apart size) = tt
  op_in at (flat.Pass argument from) = tt
  op_in at (flat.Argument argument landing) = tt
  op_in at (flat.Stop point) = tt
  op_in at (flat.Ask request) = tt

  ops_in : (ats : List ℕ) (os : List FlatOp) → AllByRecursion IsInText (ops_uses number entry places epilogue jump_word ats os)
  ops_in ats [] = tt
  ops_in [] (o ∷ os) = tt
  ops_in (at ∷ ats) (o ∷ os) = all_append IsInText (op_uses number entry places epilogue jump_word at o) _ (op_in at o) (ops_in ats os)

step_in : (back : Bool) (at : ℕ) (s : MoveStep) → AllByRecursion IsInText (step_uses back at s)
step_in back at (step.Leaf kind) = tt
step_in back at (step.Skip bytes) = tt
step_in back at (step.Items count) = tt
step_in back at step.Again = tt
step_in back at (step.Struct number words) = (refl, tt)

module _ {Insn : Type 0} (t : Coding Insn) where
  steps_in : (back : Bool) (n : ℕ) (before : MoveStep) (ss : List MoveStep) → AllByRecursion IsInText (steps_uses t back n before ss)
  steps_in back n before [] = tt
  steps_in back n before (s ∷ ss) = all_append IsInText (step_uses back (n * 4) s) _ (step_in back (n * 4) s) (steps_in back (n + length (t.step back before s)) s ss)

  copy_in : (back : Bool) (n : ℕ) (ss : List MoveStep) → AllByRecursion IsInText (copy_uses t back n ss)
  copy_in back n ss = steps_in back (n + length t.copy_begin) step.Again ss

  mover_in : (number n : ℕ) (m : Mover) → AllByRecursion IsInText (mover_uses t number n m)
  unfolding mover_uses
  mover_in number n m =
      all_append IsInText (choice_uses t number n ++ copy_uses t false (ascending_at t n m) m.ascending) (copy_uses t true (descending_at t n m) m.descending)
      (all_append IsInText (choice_uses t number n) (copy_uses t false (ascending_at t n m) m.ascending) (refl, tt) (copy_in false (ascending_at t n m) m.ascending))
      (copy_in true (descending_at t n m) m.descending)

  movers_in : (number n : ℕ) (ms : List Mover) → AllByRecursion IsInText (movers_uses t number n ms)
  movers_in number n [] = tt
  movers_in number n (m ∷ ms) = all_append IsInText (mover_uses t number n m) _ (mover_in number n m) (movers_in (suc number) (n + length (mover_insns t m)) ms)

  function_in : (number n : ℕ) (f : FlatFunction) → AllByRecursion IsInText (function_uses t number n f)
  unfolding function_uses
  function_in number n f = ops_in number (n * 4) (offsets t n f) (end_of_returns t.shape.returns_by_end (end_at t n f * 4)) t.shape.jump_word (offsets t n f) f.code

  functions_in : (number n : ℕ) (fs : List FlatFunction) → AllByRecursion IsInText (functions_uses t number n fs)
  functions_in number n [] = tt
  functions_in number n (f ∷ fs) = all_append IsInText (function_uses t number n f) _ (function_in number n f) (functions_in (suc number) (n + length (function_insns t f)) fs)

  pub program_in : (c : FlatCode) → AllByRecursion IsInText (program_uses t c)
  unfolding program_uses
  program_in c =
      let main : List Use = jump_use 0 (function_name c.main) ∷ [] in
      all_append IsInText (main ++ movers_uses t 0 (length t.start) c.movers) (functions_uses t 0 (functions_at t c) c.functions)
      (all_append IsInText main (movers_uses t 0 (length t.start) c.movers) (refl, tt) (movers_in 0 (length t.start) c.movers)) (functions_in 0 (functions_at t c) c.functions)
