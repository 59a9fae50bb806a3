use Rattle.std.proofs.Common.{◌≡◌, ◌-◌, ◌++◌, reverse, drop, codes}
use Rattle.asking.specs.Raw.{operand_texts}
use Rattle.asking.proofs.raw.operands_text.Given as goal

-- the texts of the lowest operands
abbrev pub invariant-loop-number : goal.invariant-loop-number
invariant-loop-number l = l.out ≡ codes "ps" ++ operand_texts l.core.store (reverse (drop (l.count - l.number) l.core.operands))
