use Rattle.std.proofs.Common.{◌≡◌, ◌∙◌, sym, ◌⊎◌, inl, inr, slice_index, arith}
use Rattle.nub_wire.proofs.Fronts.{eq_yes}
use Rattle.nub_wire.proofs.Quiet.{Awaits, three_await}
use Rattle.nub_wire.proofs.Payloads.{below}
use Rattle.nub_wire.proofs.front.awaited.Goals.{then-tag-eq6, else-tag-eq6}
use Rattle.nub_wire.proofs.front.awaited.Goals as goal

found : (c : goal.After-saturating_sub-then-tag) → Awaits c.args.bytes.now c.saturating_sub-then-tag.result
found c =
    let is : (slice_index c.args.bytes.now 2 ≡ 0x06) ⊎ (slice_index c.args.bytes.now 2 ≡ 0x85) =
    elim c.if-tag-eq6.branch [ then-tag-eq6 w ↦ inl w.if-tag-eq6.true | else-tag-eq6 w ↦ inr (eq_yes (slice_index c.args.bytes.now 2) 0x85 (sym w.value-is ∙ c.if-tag.true)) ] in
    three_await c.args.bytes.now c.saturating_sub-then-tag.result (below c.args.bytes.now (λ i. omega (arith, c.type_inv.bytes i))) c.requires c.in-len3-up.len_at_least is
    (omega (arith, c.saturating_sub-then-tag.ensures, c.saturating_sub.ensures, c.from.ensures, c.from-then-tag.ensures))

pub returns-then-tag-clause-some : goal.returns-then-tag-clause-some
returns-then-tag-clause-some c = (found c).some

pub returns-then-tag-clause-quiet : goal.returns-then-tag-clause-quiet
returns-then-tag-clause-quiet c = (found c).quiet
