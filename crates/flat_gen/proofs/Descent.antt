-- One level of nested structs.
use Rattle.std.proofs.Common.{◌≡◌, ◌<◌, ℕ, suc, ◌+◌, ◌-◌, Option, Some, sym, ap, ◌∙◌, arith}
use Rattle.slot_ir.specs.declared.code.SlotCode.{SlotCode}
use Rattle.slot_ir.specs.declared.code.SlotMember.{SlotMember}
use Rattle.flat_gen.specs.Movers.{found_by, inner, innermost}

pub level : (c : SlotCode) (m next : SlotMember) (i : ℕ) → i < 64 → inner c m ≡ Some next → innermost c (64 - (i + 1)) next ≡ innermost c (64 - i) m
level c m next i h e =
    let one : 64 - i ≡ suc (64 - (i + 1)) = omega arith in
    sym (ap (λ n. innermost c n m) one ∙ ap (λ o. found_by (innermost c (64 - (i + 1))) m o) e)
