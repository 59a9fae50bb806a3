-- Stopping points of a text.
use Rattle.std.specs.Prelude.{◌≡◌, ◌≤◌, ℕ, suc, ◌+◌, ◌*◌, List, [], ◌∷◌, take, drop, length, Bool, true, false, not, Some, slice_get}
use Rattle.std.specs.List.{AllByRecursion}
use Rattle.obj_file.specs.declared.object.FunctionRow.{FunctionRow}
use Rattle.flat_ir.specs.declared.code.FlatOp.{FlatOp}
use Rattle.flat_ir.specs.declared.code.FlatOp.TheVariants as flat
use Rattle.gen_parts.specs.Coding.{Coding}

-- whether the last of some instructions is no transfer; of none, whether the one before them is none
abbrev pub goes_on_behind : {Insn : Type 0} → (is_transfer : Insn → Bool) → (before : Bool) → List Insn → Bool
goes_on_behind is_transfer before [] = before
goes_on_behind is_transfer before (i ∷ is) = goes_on_behind is_transfer (not (is_transfer i)) is

-- a target, its no-op, and which of its instructions are transfers
module _ {Insn : Type 0} (t : Coding Insn) (no_op : Insn) (is_transfer : Insn → Bool) where
  -- ---- of a text, and the instructions that it is of

  module _ (is : List Insn) (text : List ℕ) where
    -- A stopping point between two offsets: an instruction that is the no-op, as its word is, behind one that lies there too and is no transfer.
    pub record IsStop (from end at : ℕ) : Type 0 where
      pub before : ℕ
      pub place : at ≡ suc before * 4
      pub behind : from ≤ before * 4
      pub inside : at + 4 ≤ end
      pub is_no_op : slice_get is (suc before) ≡ Some no_op
      pub word : take 4 (drop at text) ≡ t.bytes_of no_op
      pub last : Insn
      pub is_last : slice_get is before ≡ Some last
      pub goes_on : is_transfer last ≡ false

    -- so is each point of a function
    abbrev pub HasStops : FunctionRow → Type 0
    HasStops r = AllByRecursion (IsStop r.entry r.end) r.points

  -- ---- what a target has to give

  -- a stopping point is the no-op; the last instruction of an operator, and of a function's beginning, is no transfer
  pub record HasPlainEnds : Type 0 where
    pub word : (i : Insn) → length (t.bytes_of i) ≡ 4
    pub stop : (frame point : ℕ) → t.operator frame (flat.Stop point) ≡ no_op ∷ []
    pub operator : (frame : ℕ) (o : FlatOp) → goes_on_behind is_transfer true (t.operator frame o) ≡ true
    pub prologue : (frame : ℕ) → goes_on_behind is_transfer false (t.prologue frame) ≡ true
