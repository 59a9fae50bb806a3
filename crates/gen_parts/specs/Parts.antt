-- What an object is, part by part: its names, uses and rows, beside its text. Nothing here says what its code does. `n` is how many instructions come before.
use Rattle.std.specs.Prelude.{ℕ, suc, ◌+◌, ◌*◌, ◌≡◌, List, [], ◌∷◌, ◌++◌, length, codes, Bool, true, false, Option, Some, None}
use Rattle.obj_file.specs.declared.object.Form.TheVariants.{Jump}
use Rattle.obj_file.specs.declared.object.Name.{Name}
use Rattle.obj_file.specs.declared.object.Use.{Use}
use Rattle.obj_file.specs.declared.object.FunctionRow.{FunctionRow}
use Rattle.obj_file.specs.declared.object.Object.{Object}
use Rattle.slot_ir.specs.declared.code.SlotCode.{SlotCode}
use Rattle.slot_ir.specs.declared.code.SlotFunction.{SlotFunction}
use Rattle.flat_ir.specs.declared.moves.MoveStep.{MoveStep}
use Rattle.flat_ir.specs.declared.moves.MoveStep.TheVariants as step
use Rattle.flat_ir.specs.declared.moves.Mover.{Mover}
use Rattle.flat_ir.specs.declared.code.FlatFunction.{FlatFunction}
use Rattle.flat_ir.specs.declared.code.FlatCode.{FlatCode}
use Rattle.gen_parts.specs.Coding.{Coding}
use Rattle.gen_parts.specs.Names.{function_name, mover_name, ascending_name, descending_name}
use Rattle.gen_parts.specs.Uses.{text_use, ops_uses}
use Rattle.gen_parts.specs.Rows.{row}
use Rattle.gen_parts.specs.Statics.{program_statics, data_uses}
use Rattle.gen_parts.specs.Text.{text_bytes, ops_insns, ops_offsets, function_insns, copy_insns, mover_insns, movers_insns, program_insns}

abbrev pub named : (n : ℕ) → (name : List ℕ) → Name
named n name = record { name = name; at = n * 4 }

-- a jump to a name by the instruction behind so many
abbrev pub jump_use : (n : ℕ) → (name : List ℕ) → Use
jump_use n name = text_use (n * 4) Jump name 0

-- the name of the copy of a struct in a direction
abbrev pub direction_name : (back : Bool) → (number : ℕ) → List ℕ
direction_name true number = descending_name number
direction_name false number = ascending_name number

-- the use of a step whose code begins at an offset: a struct inside is copied by its own code, which the second instruction calls
abbrev pub step_uses : (back : Bool) → (at : ℕ) → MoveStep → List Use
step_uses back at (step.Leaf kind) = []
step_uses back at (step.Skip bytes) = []
step_uses back at (step.Items count) = []
step_uses back at step.Again = []
step_uses back at (step.Struct number words) = text_use (at + 4) Jump (direction_name back number) 0 ∷ []

-- where the end of a function is, for targets whose returns jump there
abbrev pub end_of_returns : (by_end : Bool) → (at : ℕ) → Option ℕ
end_of_returns true at = Some at
end_of_returns false at = None

module _ {Insn : Type 0} (t : Coding Insn) where
  -- ---- copies of structs

  abbrev pub steps_uses : (back : Bool) → (n : ℕ) → (before : MoveStep) → List MoveStep → List Use
  steps_uses back n before [] = []
  steps_uses back n before (s ∷ rest) = step_uses back (n * 4) s ++ steps_uses back (n + length (t.step back before s)) s rest

  abbrev pub copy_uses : (back : Bool) → (n : ℕ) → List MoveStep → List Use
  copy_uses back n steps = steps_uses back (n + length t.copy_begin) step.Again steps

  -- the choice jumps to the copy that descends
  abbrev pub choice_uses : (number n : ℕ) → List Use
  choice_uses number n = text_use (n * 4 + t.shape.choice_jump * 4) Jump (descending_name number) 0 ∷ []

  -- where the copy that ascends begins, and the one that descends
  abbrev pub ascending_at : (n : ℕ) → Mover → ℕ
  ascending_at n m = n + length (t.choice m.size)

  abbrev pub descending_at : (n : ℕ) → Mover → ℕ
  descending_at n m = ascending_at n m + length (copy_insns t false m.ascending)

  unfoldable pub mover_uses : (number n : ℕ) → Mover → List Use
  mover_uses number n m = choice_uses number n ++ copy_uses false (ascending_at n m) m.ascending ++ copy_uses true (descending_at n m) m.descending

  unfoldable pub mover_names : (number n : ℕ) → Mover → List Name
  mover_names number n m = named n (mover_name number) ∷ named (ascending_at n m) (ascending_name number) ∷ named (descending_at n m) (descending_name number) ∷ []

  abbrev pub movers_uses : (number n : ℕ) → List Mover → List Use
  movers_uses number n [] = []
  movers_uses number n (m ∷ rest) = mover_uses number n m ++ movers_uses (suc number) (n + length (mover_insns t m)) rest

  abbrev pub movers_names : (number n : ℕ) → List Mover → List Name
  movers_names number n [] = []
  movers_names number n (m ∷ rest) = mover_names number n m ++ movers_names (suc number) (n + length (mover_insns t m)) rest

  -- ---- functions

  -- how many instructions come before those of the operators, and before the end
  abbrev pub operators_at : (n : ℕ) → FlatFunction → ℕ
  operators_at n f = n + length (t.prologue f.frame)

  abbrev pub end_at : (n : ℕ) → FlatFunction → ℕ
  end_at n f = operators_at n f + length (ops_insns t f.frame f.code)

  -- where the code of each place begins
  abbrev pub offsets : (n : ℕ) → FlatFunction → List ℕ
  offsets n f = ops_offsets t f.frame (operators_at n f) f.code

  unfoldable pub function_uses : (number n : ℕ) → FlatFunction → List Use
  function_uses number n f = ops_uses number (n * 4) (offsets n f) (end_of_returns t.shape.returns_by_end (end_at n f * 4)) t.shape.jump_word (offsets n f) f.code

  unfoldable pub function_row : (n : ℕ) → SlotFunction → FlatFunction → FunctionRow
  function_row n s f = row s f (n * 4) ((n + length (function_insns t f)) * 4) (offsets n f) t.saved

  abbrev pub functions_uses : (number n : ℕ) → List FlatFunction → List Use
  functions_uses number n [] = []
  functions_uses number n (f ∷ rest) = function_uses number n f ++ functions_uses (suc number) (n + length (function_insns t f)) rest

  abbrev pub functions_names : (number n : ℕ) → List FlatFunction → List Name
  functions_names number n [] = []
  functions_names number n (f ∷ rest) = named n (function_name number) ∷ functions_names (suc number) (n + length (function_insns t f)) rest

  abbrev pub functions_rows : (n : ℕ) → List SlotFunction → List FlatFunction → List FunctionRow
  functions_rows n slots [] = []
  functions_rows n [] (f ∷ rest) = []
  functions_rows n (s ∷ slots) (f ∷ rest) = function_row n s f ∷ functions_rows (n + length (function_insns t f)) slots rest

  -- ---- the program: its start, the copies of structs, its functions

  -- how many instructions come before the functions
  abbrev pub functions_at : FlatCode → ℕ
  functions_at c = length t.start + length (movers_insns t c.movers)

  unfoldable pub program_uses : FlatCode → List Use
  program_uses c = (jump_use 0 (function_name c.main) ∷ []) ++ movers_uses 0 (length t.start) c.movers ++ functions_uses 0 (functions_at c) c.functions

  unfoldable pub program_names : FlatCode → List Name
  program_names c = (named 0 (codes "start") ∷ []) ++ movers_names 0 (length t.start) c.movers ++ functions_names 0 (functions_at c) c.functions

  unfoldable pub program_rows : List SlotFunction → FlatCode → List FunctionRow
  program_rows slots c = functions_rows (functions_at c) slots c.functions

  -- ---- the object

  -- The object of slot code by its flat code. The uses in the text come before those in the static objects.
  pub record IsObjectOf (slots : SlotCode) (flat : FlatCode) (o : Object) : Type 0 where
    pub target : o.target ≡ t.shape.target
    pub text : o.text ≡ text_bytes t (program_insns t flat)
    pub names : o.names ≡ program_names flat
    pub statics : o.statics ≡ program_statics t.shape.order slots
    pub uses : o.uses ≡ program_uses flat ++ data_uses t.shape.order slots
    pub functions : o.functions ≡ program_rows slots.functions flat
