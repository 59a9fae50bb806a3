use Rattle.std.proofs.Common.{◌≡◌, sym, subst, ℕ, ◌+◌, ◌≤◌, List, length, Option, Ok, Err, arith}
use Rattle.machine_state.specs.State.{Behaviour}
use Rattle.nub_wire.specs.declared.message.Msg.TheVariants as msg
use Rattle.nub_wire.specs.Spelling.{IsChunk}
use Rattle.nub_wire.specs.Nub.{Host}
use Rattle.nub_wire.proofs.Payloads.{below}
use Rattle.resuming.specs.Standing.{Stands}
use Rattle.session.specs.Starting.{given_to}
use Rattle.session.proofs.Starting.{gives, counted}
use Rattle.session.proofs.start.give.Goals as goal

pub returns-in-Ok-clause-meant : goal.returns-in-Ok-clause-meant
returns-in-Ok-clause-meant g c = λ (b : Behaviour) (h : Host) (beside : Option Host) x room.
    let after = g.L.Link.world c.ask.new.link in
    let same = c.copied-bytes.ensures in
    let chunk : IsChunk c.args.piece.now = record { some = c.requires.some; fits = c.requires.fits; each = below c.args.piece.now (λ i. omega (arith, c.type_inv.piece i)) } in
    let k = gives b g.L.Link.conduct c.args.side (g.L.Link.world c.args.link.now) h beside x c.copied-bytes.result (subst IsChunk (sym same) chunk)
    (subst (λ (p : List ℕ). h.machine.given + length p ≤ 16777216) (sym same) room) (Ok c.in-Ok.field-0) after c.in-Ok.ensures.told in
    subst (λ (p : List ℕ). Stands b g.L.Link.conduct c.args.side after (given_to p h) beside) same k.1

pub returns-in-Err-clause-meant : goal.returns-in-Err-clause-meant
returns-in-Err-clause-meant g c = λ (b : Behaviour) (h : Host) (beside : Option Host) x room.
    let after = g.L.Link.world c.ask.new.link in
    let same = c.copied-bytes.ensures in
    let chunk : IsChunk c.args.piece.now = record { some = c.requires.some; fits = c.requires.fits; each = below c.args.piece.now (λ i. omega (arith, c.type_inv.piece i)) } in
    counted b g.L.Link.conduct c.args.side msg.Done (given_to c.copied-bytes.result h) beside c.in-Err.field-0 after (g.L.Link.faults c.args.link.now) (g.L.Link.faults c.ask.new.link)
    (gives b g.L.Link.conduct c.args.side (g.L.Link.world c.args.link.now) h beside x c.copied-bytes.result (subst IsChunk (sym same) chunk)
    (subst (λ (p : List ℕ). h.machine.given + length p ≤ 16777216) (sym same) room) (Err c.in-Err.field-0) after c.in-Err.ensures.told) c.in-Err.ensures.cause
