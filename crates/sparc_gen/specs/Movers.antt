-- The code that copies structs. The places to copy to and from stand in `%g1` and `%g2`; `%g4` is the address of the words that a copy keeps.
use Rattle.std.specs.Prelude.{ℕ, ◌+◌, ◌*◌, ◌/◌, ◌%◌, ◌^◌, List, [], ◌∷◌, ◌++◌, Bool, true, false}
use Rattle.ldb_words.specs.declared.kinds.Kind.{Kind}
use Rattle.ldb_words.specs.declared.kinds.Kind.TheVariants.{Byte, Word, Address}
use Rattle.sparc_isa.specs.declared.condition.Condition.TheVariants as when
use Rattle.sparc_isa.specs.declared.operand.Operand.TheVariants.{Register, Immediate}
use Rattle.sparc_isa.specs.declared.insn.Insn.{Insn}
use Rattle.sparc_isa.specs.declared.insn.Insn.TheVariants.{Call, Bicc, Add, Or, Sub, Subcc, Jmpl, Ld, Ldub, St, Stb}
use Rattle.flat_ir.specs.declared.moves.MoveStep.{MoveStep}
use Rattle.flat_ir.specs.declared.moves.MoveStep.TheVariants as step
use Rattle.sparc_gen.specs.Insns.{no_op, move_insn, word_insns}

abbrev pub leaf_load : Kind → Insn
leaf_load Byte = Ldub 3 2 (Immediate 0)
leaf_load Word = Ld 3 2 (Immediate 0)
leaf_load Address = Ld 3 2 (Immediate 0)

abbrev pub leaf_store : Kind → Insn
leaf_store Byte = Stb 3 1 (Immediate 0)
leaf_store Word = St 3 1 (Immediate 0)
leaf_store Address = St 3 1 (Immediate 0)

abbrev pub leaf_bytes : Kind → ℕ
leaf_bytes Byte = 1
leaf_bytes Word = 4
leaf_bytes Address = 4

-- a leaf in a copy that descends, or in one that ascends
abbrev pub leaf_insns : (back : Bool) → Kind → List Insn
leaf_insns true kind = Sub 1 1 (Immediate (leaf_bytes kind)) ∷ Sub 2 2 (Immediate (leaf_bytes kind)) ∷ leaf_load kind ∷ leaf_store kind ∷ []
leaf_insns false kind = leaf_load kind ∷ leaf_store kind ∷ Add 1 1 (Immediate (leaf_bytes kind)) ∷ Add 2 2 (Immediate (leaf_bytes kind)) ∷ []

abbrev pub skip_insns : ℕ → List Insn
skip_insns bytes = word_insns 3 bytes ++ Add 1 1 (Register 3) ∷ Add 2 2 (Register 3) ∷ []

abbrev pub items_insns : ℕ → List Insn
items_insns count = word_insns 3 count ++ St 3 4 (Immediate 4) ∷ []

-- the branch goes back by seven instructions: three of its own before it, and an item's four
abbrev pub again_insns : List Insn
again_insns = Ld 3 4 (Immediate 4) ∷ Subcc 3 3 (Immediate 1) ∷ St 3 4 (Immediate 4) ∷ Bicc false when.NotEqual 4194297 ∷ no_op ∷ []

abbrev pub struct_insns : (words : ℕ) → List Insn
struct_insns words = Add 4 4 (Immediate (4 * words)) ∷ Call 0 ∷ no_op ∷ Sub 4 4 (Immediate (4 * words)) ∷ []

abbrev pub step_insns : (back : Bool) → MoveStep → List Insn
step_insns back (step.Leaf kind) = leaf_insns back kind
step_insns back (step.Skip bytes) = skip_insns bytes
step_insns back (step.Items count) = items_insns count
step_insns back step.Again = again_insns
step_insns back (step.Struct number words) = struct_insns words

-- A copy keeps where it was called, and returns there.
abbrev pub copy_begin : List Insn
copy_begin = St 15 4 (Immediate 0) ∷ []

abbrev pub copy_end : List Insn
copy_end = Ld 15 4 (Immediate 0) ∷ Jmpl 0 15 (Immediate 8) ∷ no_op ∷ []

-- Where the place to copy to lies above the one to copy from, the copy descends from their ends. The jump there is a call, whose slot puts back where this copy was called.
abbrev pub choice_insns : (size : ℕ) → List Insn
choice_insns size =
    word_insns 4 2146369536 ++ (Subcc 0 1 (Register 2) ∷ Bicc false when.LessOrEqualUnsigned 9 ∷ no_op ∷ [])
    ++ word_insns 3 size ++ Add 1 1 (Register 3) ∷ Add 2 2 (Register 3) ∷ move_insn 5 15 ∷ Call 0 ∷ move_insn 15 5 ∷ []
