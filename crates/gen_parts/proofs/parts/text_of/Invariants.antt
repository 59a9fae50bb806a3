use Rattle.std.proofs.Common.{◌≡◌, ◌++◌, drop}
use Rattle.gen_parts.specs.Text.{text_bytes}
use Rattle.gen_parts.proofs.parts.text_of.Given as goal

-- with the bytes of the instructions that are left, it is the text
abbrev pub invariant-loop-insn : goal.invariant-loop-insn
invariant-loop-insn g l = l.bytes.items ++ text_bytes g.T.Coder.coding (drop l.insn-index l.code) ≡ text_bytes g.T.Coder.coding l.code
