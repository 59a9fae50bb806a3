use Rattle.std.proofs.Common.{ap, ◌≡◌, arith, zero, ◌-◌, length}
use Rattle.ps_emit.specs.Symbols.{coming}
use Rattle.ps_emit.proofs.Chains.{coming_none, coming_made, chain_more, chain_ends}
use Rattle.ps_emit.proofs.symbols.coming.Goals as goal

pub loop-step-init : goal.loop-step-init
loop-step-init c =
    let whole : length c.args.symbols.now - 0 ≡ length c.args.symbols.now = omega arith in
    rw c.new-chain.ensures.items (ap (λ k. coming k c.args.symbols.now c.args.made c.args.from) whole)

pub loop-step-preserved : goal.loop-step-preserved
loop-step-preserved c =
    let before = rw c.in-Some.is at c.loop-step.invariant in
    rw (c.in_ok-push.ensures.items, c.up_of-at.ensures)
    (chain_more c.loop-step.chain.items (length c.args.symbols.now) c.loop-step.step c.args.symbols.now c.args.made c.in-Some.s
    (coming (length c.args.symbols.now) c.args.symbols.now c.args.made c.args.from) c.loop-step-test.true c.if-s-made.false before)

pub returns-in_default : goal.returns-in_default
returns-in_default c =
    let n = length c.args.symbols.now - c.loop-step.step in
    chain_ends c.loop-step.chain.items _ _ (coming_none n c.args.symbols.now c.args.made) (rw c.in_default.is at c.loop-step.invariant)

pub returns-then-s-made : goal.returns-then-s-made
returns-then-s-made c =
    let n = length c.args.symbols.now - c.loop-step.step in
    chain_ends c.loop-step.chain.items _ _ (coming_made n c.args.symbols.now c.args.made c.in-Some.s c.if-s-made.true) (rw c.in-Some.is at c.loop-step.invariant)

pub returns : goal.returns
returns c =
    let none : length c.args.symbols.now - c.loop-step.step ≡ zero = omega arith in
    chain_ends c.loop-step.chain.items _ _ (ap (λ k. coming k c.args.symbols.now c.args.made c.loop-step.at) none) c.loop-step.invariant
