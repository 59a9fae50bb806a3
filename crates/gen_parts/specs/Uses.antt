-- Where the text of flat operators names addresses.
use Rattle.std.specs.Prelude.{ℕ, ◌+◌, ◌-◌, ◌*◌, true, List, [], ◌∷◌, ◌++◌, Option, Some, None, slice_get}
use Rattle.obj_file.specs.declared.object.Form.{Form}
use Rattle.obj_file.specs.declared.object.Form.TheVariants.{High, Low, Jump}
use Rattle.obj_file.specs.declared.object.Use.{Use}
use Rattle.flat_ir.specs.declared.code.FlatOp.{FlatOp}
use Rattle.flat_ir.specs.declared.code.FlatOp.TheVariants as flat
use Rattle.gen_parts.specs.Names.{function_name, object_name, mover_name}

abbrev pub text_use : (at : ℕ) → Form → (name : List ℕ) → (add : ℕ) → Use
text_use at form name add = record { in_text = true; at = at; form = form; name = name; add = add }

abbrev pub or_zero : Option ℕ → ℕ
or_zero None = 0
or_zero (Some n) = n

-- where the code of a place begins
abbrev pub offset_of : (offsets : List ℕ) → (place : ℕ) → ℕ
offset_of offsets place = or_zero (slice_get offsets place)

-- A function: its number, where it begins in the text, where the code of each place begins, where its end begins if a return jumps there, and which word of a conditional jump is the jump.
module _ (number entry : ℕ) (offsets : List ℕ) (epilogue : Option ℕ) (jump_word : ℕ) where
  -- a jump inside the function
  abbrev pub own_use : (at target : ℕ) → Use
  own_use at target = text_use at Jump (function_name number) (target - entry)

  abbrev pub return_uses : (at : ℕ) → Option ℕ → List Use
  return_uses at None = []
  return_uses at (Some target) = own_use (at + 4) target ∷ []

  -- the uses of an operator whose code begins at an offset
  abbrev pub op_uses : (at : ℕ) → FlatOp → List Use
  op_uses at (flat.StaticAddress to object) = text_use at High (object_name object) 0 ∷ text_use (at + 4) Low (object_name object) 0 ∷ []
  op_uses at (flat.Copy shape) = text_use at Jump (mover_name shape) 0 ∷ []
  op_uses at (flat.Call function) = text_use at Jump (function_name function) 0 ∷ []
  op_uses at (flat.Jump place) = own_use at (offset_of offsets place) ∷ []
  op_uses at (flat.JumpIf is_zero place) = own_use (at + jump_word * 4) (offset_of offsets place) ∷ []
  op_uses at flat.Return = return_uses at epilogue
  op_uses at (flat.Set to bits) = []
  op_uses at (flat.FrameAddress to from) = []
  op_uses at (flat.Get to from) = []
  op_uses at (flat.Put from to) = []
  op_uses at (flat.Load access) = []
  op_uses at (flat.Store kind) = []
  op_uses at (flat.Fill bytes) = []
  op_uses at (flat.ReadRegister register access) = []
  op_uses at (flat.WriteRegister register) = []
  op_uses at (flat.Extend access) = []
  op_uses at (flat.Unary op) = []
  op_uses at (flat.Binary op) = []
  op_uses at (flat.Scale size back) = []
  op_uses at (flat.Apart size) = []
  op_uses at (flat.Pass argument from) = []
  op_uses at (flat.Argument argument landing) = []
  op_uses at (flat.Stop point) = []
  op_uses at (flat.Ask request) = []

  -- the uses of operators, each of whose code begins at its offset
  abbrev pub ops_uses : List ℕ → List FlatOp → List Use
  ops_uses ats [] = []
  ops_uses [] (o ∷ os) = []
  ops_uses (at ∷ ats) (o ∷ os) = op_uses at o ++ ops_uses ats os
