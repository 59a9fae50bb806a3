use Rattle.std.proofs.Common.{rules, ◌≡◌, ℕ, sym, subst, length, drop}
use Rattle.table_asks.specs.declared.fault.AskFault.{AskFault}
use Rattle.resuming.specs.Standing.{Stands}
use Rattle.session.specs.Turned.{byte_of}
use Rattle.session.specs.Undoing.{undone_host, IsGivenUp}
use Rattle.session.proofs.Looked.{back_counts}
use Rattle.session.proofs.PuttingBack.{gives}
use Rattle.session.proofs.undoing.given_up.Goals as goal

pub returns-clause-meant : goal.returns-clause-meant
returns-clause-meant g c = λ b h beside x same.
    let first = c.args.first.now in
    let f = g.L.Link.faults c.args.talk.now.memory.below.below.below.link in
    let f1 = g.L.Link.faults c.put_back-back.new.talk.memory.below.below.below.link in
    let Done : ℕ → Type 0 = λ (n : ℕ). Stands b g.L.Link.conduct first.which (g.L.Link.world c.put_back-back.new.talk.memory.below.below.below.link) (undone_host c.args.command.now (byte_of first.machine) (drop n first.row.breaks.items) c.args.words.now h) beside in
    let long : c.len.result ≡ length c.args.before.items = search rules in
    subst (λ (n : ℕ). IsGivenUp f f1 (Done n) c.wanting.result) long
    (subst (λ (z : AskFault). IsGivenUp f f1 (Done c.len.result) z) (sym c.wanting.ensures.value)
    (gives f f1 (Done c.len.result) c.put_back-back.result (c.put_back-back.ensures.meant b h beside x same)))

pub returns-clause-count : goal.returns-clause-count
returns-clause-count g c = back_counts (g.L.Link.faults c.args.talk.now.memory.below.below.below.link) (g.L.Link.faults c.put_back-back.new.talk.memory.below.below.below.link) c.put_back-back.result c.wanting.result c.wanting.ensures.value c.put_back-back.ensures.count
