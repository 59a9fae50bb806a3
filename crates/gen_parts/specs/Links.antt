-- What a linker asks of the places and names of an object.
use Rattle.std.specs.Prelude.{ℕ, ◌+◌, ◌%◌, ◌^◌, ◌≡◌, ◌≤◌, ◌⊎◌, List, [], ◌∷◌, ◌++◌, length, Bool, true, false}
use Rattle.std.specs.List.{AllByRecursion}
use Rattle.obj_file.specs.declared.object.FunctionRow.{FunctionRow}
use Rattle.obj_file.specs.declared.object.Name.{Name}
use Rattle.obj_file.specs.declared.object.Object.{Object}
use Rattle.obj_file.specs.declared.object.StaticDef.{StaticDef}
use Rattle.obj_file.specs.declared.object.Use.{Use}
use Rattle.slot_ir.specs.declared.code.SlotCode.{SlotCode}
use Rattle.flat_ir.specs.declared.code.Scratch.{Scratch}
use Rattle.flat_ir.specs.declared.code.FlatOp.TheVariants as flat
use Rattle.flat_ir.specs.declared.moves.MoveStep.{MoveStep}
use Rattle.flat_ir.specs.declared.moves.MoveStep.TheVariants as step
use Rattle.gen_parts.specs.Coding.{Coding}

-- uses in whole words of a text between two offsets, each behind the one before: so each lies there, and no word has two
abbrev pub UsesLieIn : (from : ℕ) → List Use → (end : ℕ) → Type 0
UsesLieIn from [] end = from ≤ end
UsesLieIn from (u ∷ us) end = (u.in_text ≡ true) × (u.at % 4 ≡ 0) × (from ≤ u.at) × UsesLieIn (u.at + 4) us end

-- names of whole words of a text, in order
abbrev pub NamesLieIn : (from : ℕ) → List Name → (end : ℕ) → Type 0
NamesLieIn from [] end = from ≤ end
NamesLieIn from (n ∷ ns) end = (n.at % 4 ≡ 0) × (from ≤ n.at) × NamesLieIn n.at ns end

-- functions of whole words, each behind the one before
abbrev pub RowsLieIn : (from : ℕ) → List FunctionRow → (end : ℕ) → Type 0
RowsLieIn from [] end = from ≤ end
RowsLieIn from (r ∷ rs) end = (r.entry % 4 ≡ 0) × (r.end % 4 ≡ 0) × (from ≤ r.entry) × (r.entry ≤ r.end) × RowsLieIn r.end rs end

abbrev pub IsInData : Use → Type 0
IsInData u = u.in_text ≡ false

-- A text of whole words, in which names, functions and the uses before those in static objects lie in order: so each place lies in the text, and no word of it has two uses. That the other uses lie in static objects is not said here.
pub record IsInOrder (o : Object) : Type 0 where
  pub size : length o.text % 4 ≡ 0
  pub names : NamesLieIn 0 o.names (length o.text)
  pub functions : RowsLieIn 0 o.functions (length o.text)
  pub text_uses : List Use
  pub data_uses : List Use
  pub uses : o.uses ≡ text_uses ++ data_uses
  pub in_text : UsesLieIn 0 text_uses (length o.text)
  pub in_data : AllByRecursion IsInData data_uses

-- ---- names

abbrev pub text_names : List Name → List (List ℕ)
text_names [] = []
text_names (n ∷ ns) = n.name ∷ text_names ns

abbrev pub static_names : List StaticDef → List (List ℕ)
static_names [] = []
static_names (s ∷ ss) = s.name ∷ static_names ss

abbrev pub IsOneOf : (name : List ℕ) → List (List ℕ) → Type 0
IsOneOf name [] = ⊥
IsOneOf name (n ∷ ns) = (name ≡ n) ⊎ IsOneOf name ns

-- each name is given once
abbrev pub AreOnce : List (List ℕ) → Type 0
AreOnce [] = Unit {0}
AreOnce (n ∷ ns) = (IsOneOf n ns → ⊥) × AreOnce ns

-- numbers of 64 bits, which have different decimals
pub record IsCountable (slots : SlotCode) : Type 0 where
  pub functions : length slots.functions ≤ 2 ^ 64
  pub structs : length slots.structs ≤ 2 ^ 64
  pub statics : length slots.objects + length slots.strings ≤ 2 ^ 64

-- ---- what a target has to give

-- the words that hold addresses are there
pub record HasRoom {Insn : Type 0} (t : Coding Insn) : Type 0 where
  pub word : (i : Insn) → length (t.bytes_of i) ≡ 4
  pub start : 1 ≤ length t.start
  pub choice : (size : ℕ) → t.shape.choice_jump + 1 ≤ length (t.choice size)
  pub inside : (back : Bool) (before : MoveStep) (number words : ℕ) → 2 ≤ length (t.step back before (step.Struct number words))
  pub address : (frame object : ℕ) (to : Scratch) → 2 ≤ length (t.operator frame (flat.StaticAddress to object))
  pub copy : (frame shape : ℕ) → 1 ≤ length (t.operator frame (flat.Copy shape))
  pub call : (frame function : ℕ) → 1 ≤ length (t.operator frame (flat.Call function))
  pub jump : (frame place : ℕ) → 1 ≤ length (t.operator frame (flat.Jump place))
  pub jump_if : (frame place : ℕ) (is_zero : Bool) → t.shape.jump_word + 1 ≤ length (t.operator frame (flat.JumpIf is_zero place))
  pub return : (frame : ℕ) → t.shape.returns_by_end ≡ true → 2 ≤ length (t.operator frame flat.Return)
