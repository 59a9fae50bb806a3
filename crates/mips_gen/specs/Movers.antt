-- The code that copies structs. The places to copy to and from stand in `$8` and `$9`; `$11` is the address of the words that a copy keeps.
use Rattle.std.specs.Prelude.{ℕ, ◌+◌, ◌*◌, ◌-◌, ◌%◌, ◌^◌, List, [], ◌∷◌, ◌++◌, Bool, true, false}
use Rattle.ldb_words.specs.declared.kinds.Kind.{Kind}
use Rattle.ldb_words.specs.declared.kinds.Kind.TheVariants.{Byte, Word, Address}
use Rattle.mips_isa.specs.declared.insn.Insn.{Insn}
use Rattle.mips_isa.specs.declared.insn.Insn.TheVariants.{Addu, Sltu, J, Jal, Jr, Beq, Bne, Addiu, Lui, Lb, Lw, Sb, Sw}
use Rattle.flat_ir.specs.declared.moves.MoveStep.{MoveStep}
use Rattle.flat_ir.specs.declared.moves.MoveStep.TheVariants as step
use Rattle.mips_gen.specs.Insns.{no_op, word_insns}

abbrev pub leaf_load : Kind → Insn
leaf_load Byte = Lb 10 9 0
leaf_load Word = Lw 10 9 0
leaf_load Address = Lw 10 9 0

abbrev pub leaf_store : Kind → Insn
leaf_store Byte = Sb 10 8 0
leaf_store Word = Sw 10 8 0
leaf_store Address = Sw 10 8 0

abbrev pub leaf_bytes : Kind → ℕ
leaf_bytes Byte = 1
leaf_bytes Word = 4
leaf_bytes Address = 4

-- the negative of a number of bytes, in 16 bits
abbrev pub back_by : ℕ → ℕ
back_by bytes = (65535 - bytes + 1) % 2 ^ 16

-- a leaf in a copy that descends, or in one that ascends
abbrev pub leaf_insns : (back : Bool) → Kind → List Insn
leaf_insns true kind = Addiu 8 8 (back_by (leaf_bytes kind)) ∷ Addiu 9 9 (back_by (leaf_bytes kind)) ∷ leaf_load kind ∷ no_op ∷ leaf_store kind ∷ []
leaf_insns false kind = leaf_load kind ∷ no_op ∷ leaf_store kind ∷ Addiu 8 8 (leaf_bytes kind) ∷ Addiu 9 9 (leaf_bytes kind) ∷ []

abbrev pub skip_insns : ℕ → List Insn
skip_insns bytes = word_insns 10 bytes ++ Addu 8 8 10 ∷ Addu 9 9 10 ∷ []

abbrev pub items_insns : ℕ → List Insn
items_insns count = word_insns 10 count ++ Sw 10 11 4 ∷ []

-- the branch goes back, from its slot, over five words and an item's code: five words of a leaf, or four of a struct
abbrev pub over_item : MoveStep → ℕ
over_item (step.Leaf kind) = 65526
over_item (step.Skip bytes) = 65527
over_item (step.Items count) = 65527
over_item step.Again = 65527
over_item (step.Struct number words) = 65527

abbrev pub again_insns : (before : MoveStep) → List Insn
again_insns before = Lw 10 11 4 ∷ no_op ∷ Addiu 10 10 65535 ∷ Sw 10 11 4 ∷ Bne 10 0 (over_item before) ∷ no_op ∷ []

abbrev pub struct_insns : (words : ℕ) → List Insn
struct_insns words = Addiu 11 11 (4 * words) ∷ Jal 0 ∷ no_op ∷ Addiu 11 11 (back_by (4 * words)) ∷ []

abbrev pub step_insns : (back : Bool) (before : MoveStep) → MoveStep → List Insn
step_insns back before (step.Leaf kind) = leaf_insns back kind
step_insns back before (step.Skip bytes) = skip_insns bytes
step_insns back before (step.Items count) = items_insns count
step_insns back before step.Again = again_insns before
step_insns back before (step.Struct number words) = struct_insns words

-- A copy keeps its return address, and returns by it.
abbrev pub copy_begin : List Insn
copy_begin = Sw 31 11 0 ∷ []

abbrev pub copy_end : List Insn
copy_end = Lw 31 11 0 ∷ no_op ∷ Jr 31 ∷ no_op ∷ []

-- Where the place to copy to lies above the one to copy from, the copy descends from their ends.
abbrev pub choice_insns : (size : ℕ) → List Insn
choice_insns size = (Lui 11 0x7fef ∷ Sltu 10 9 8 ∷ Beq 10 0 7 ∷ no_op ∷ []) ++ word_insns 10 size ++ Addu 8 8 10 ∷ Addu 9 9 10 ∷ J 0 ∷ no_op ∷ []
