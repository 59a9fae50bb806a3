use Rattle.std.proofs.Common.{rules, ◌≡◌, refl, arith}
use Rattle.nub_wire.specs.declared.message.Msg.TheVariants as msg
use Rattle.nub_wire.specs.declared.front.Front.TheVariants.{Nothing}
use Rattle.nub_wire.proofs.Reader.{tagged}
use Rattle.nub_wire.proofs.Payloads.{below, alone_front, long_front}
use Rattle.nub_wire.proofs.front.tagged.Goals as goal

pub returns-in-1-eq1 : goal.returns-in-1-eq1
returns-in-1-eq1 c = alone_front msg.Hello c.args.length c.args.tag 1 c.args.payload.now tt refl c.in-1-eq1.is-1 c.in-1-eq1.is-0

pub returns-in-5-eq1 : goal.returns-in-5-eq1
returns-in-5-eq1 c = alone_front msg.Kill c.args.length c.args.tag 5 c.args.payload.now tt refl c.in-5-eq1.is-1 c.in-5-eq1.is-0

pub returns-in-130-eq1 : goal.returns-in-130-eq1
returns-in-130-eq1 c = alone_front msg.Done c.args.length c.args.tag 130 c.args.payload.now tt refl c.in-130-eq1.is-1 c.in-130-eq1.is-0

pub returns-in-131-eq1 : goal.returns-in-131-eq1
returns-in-131-eq1 c = alone_front msg.Outside c.args.length c.args.tag 131 c.args.payload.now tt refl c.in-131-eq1.is-1 c.in-131-eq1.is-0

pub returns-in-136-eq1 : goal.returns-in-136-eq1
returns-in-136-eq1 c = alone_front msg.Turns c.args.length c.args.tag 136 c.args.payload.now tt refl c.in-136-eq1.is-1 c.in-136-eq1.is-0

pub returns-in-137-eq1 : goal.returns-in-137-eq1
returns-in-137-eq1 c = alone_front msg.Stack c.args.length c.args.tag 137 c.args.payload.now tt refl c.in-137-eq1.is-1 c.in-137-eq1.is-0

pub returns-in_default : goal.returns-in_default
unfolding tagged
returns-in_default c =
    let none : tagged c.args.length c.args.tag c.args.payload.now ≡ Nothing = search rules in
    long_front c.args.length c.args.tag c.args.payload.now Nothing c.requires (omega (arith, c.ranges.tag.fits)) (below c.args.payload.now (λ i. omega (arith, c.type_inv.payload i))) none
