use Rattle.std.proofs.Common.{◌+◌, ◌/◌, ◌%◌, ℕ, List, ◌∷◌, subst, sym, arith}
use Rattle.nub_wire.specs.declared.message.Msg.TheVariants as msg
use Rattle.nub_wire.specs.declared.front.Front.TheVariants.{Whole}
use Rattle.nub_wire.specs.Held.{IsFront}
use Rattle.nub_wire.proofs.Payloads.{below, input_part, input_whole}
use Rattle.nub_wire.proofs.front.input.Goals as goal

pub returns-then-payload-count : goal.returns-then-payload-count
returns-then-payload-count c = input_part c.args.count c.args.payload.now c.requires.some c.requires.fits (below c.args.payload.now (λ i. omega (arith, c.type_inv.payload i))) c.if-payload-count.true

pub returns : goal.returns
returns c =
    subst
    (λ (l : List ℕ). IsFront ((c.args.count + 1) / 256 ∷ (c.args.count + 1) % 256 ∷ 0x06 ∷ c.args.payload.now) (Whole (msg.Input l)))
    (sym c.copied.ensures)
    (input_whole c.args.count c.args.payload.now c.requires.some c.requires.fits (below c.args.payload.now (λ i. omega (arith, c.type_inv.payload i))) c.if-payload-count.false)
