use Rattle.std.proofs.Common.{◌≡◌, ◌∙◌, ℕ, List, subst, Some, Err}
use Rattle.claims.specs.Outcome.{DoneOnBoth}
use Rattle.abs_mem.specs.WireMeaning.{memory_of}
use Rattle.resuming.specs.Standing.{Stands}
use Rattle.session.specs.Meant.{SaidAll, NotAll, ComesTo, TalksWell}
use Rattle.session.specs.Undoing.{words_before}
use Rattle.session.proofs.Counting.{counts_on}
use Rattle.session.specs.Wanting.{WithTable, WithNumbers}
use Rattle.session.proofs.Wanting.{stands_same, same_with, same_numbers}
use Rattle.session.proofs.Looked.{read_well}
use Rattle.session.proofs.AskingBoth.{still_there, read_failed, read_rests}
use Rattle.session.proofs.both.asked_both.Goals as goal

pub returns-in-Err-clause-meant : goal.returns-in-Err-clause-meant
returns-in-Err-clause-meant g c = λ b hs st there ready inquiry.
    let first = c.args.first.now in
    let o = g.L.Link.world c.words_before.new.talk.memory.below.below.below.link in
    read_failed (g.L.Link.faults c.args.talk.now.memory.below.below.below.link) (g.L.Link.faults c.words_before.new.talk.memory.below.below.below.link) (Stands b g.L.Link.conduct first.which o hs.first hs.second) (words_before c.args.command.now (memory_of hs.first.machine) first.row.breaks.items)
    (λ (text : List ℕ). SaidAll b g.L.Link.conduct o first (Some c.args.second.now) st (DoneOnBoth st c.args.command.now) text) (NotAll b g.L.Link.conduct o first (Some c.args.second.now) st (DoneOnBoth st c.args.command.now)) c.in-Err.fault
    (c.in-Err.ensures.fails b hs.first hs.second there.first_there.stands there.first_there.order)

pub returns-in-Err-clause-stays : goal.returns-in-Err-clause-stays
returns-in-Err-clause-stays g c = λ b hs st there ready runs is.
    let first = c.args.first.now in
    let rests =
    read_rests (List ℕ) (g.L.Link.faults c.args.talk.now.memory.below.below.below.link) (g.L.Link.faults c.words_before.new.talk.memory.below.below.below.link) (Stands b g.L.Link.conduct first.which (g.L.Link.world c.words_before.new.talk.memory.below.below.below.link) hs.first hs.second)
    (words_before c.args.command.now (memory_of hs.first.machine) first.row.breaks.items) c.in-Err.fault is (c.in-Err.ensures.fails b hs.first hs.second there.first_there.stands there.first_there.order) in
    stands_same WithTable same_with b g.L.Link.conduct (g.L.Link.world c.words_before.new.talk.memory.below.below.below.link) first (Some c.args.second.now) hs st
    (still_there b g.L.Link.conduct (g.L.Link.world c.args.talk.now.memory.below.below.below.link) (g.L.Link.world c.words_before.new.talk.memory.below.below.below.link) first c.args.second.now hs.first hs.second there rests) ready.sides

pub returns-in-Err-clause-stores : goal.returns-in-Err-clause-stores
returns-in-Err-clause-stores g c = λ b hs st there ready runs is.
    let first = c.args.first.now in
    let rests =
    read_rests (List ℕ) (g.L.Link.faults c.args.talk.now.memory.below.below.below.link) (g.L.Link.faults c.words_before.new.talk.memory.below.below.below.link) (Stands b g.L.Link.conduct first.which (g.L.Link.world c.words_before.new.talk.memory.below.below.below.link) hs.first hs.second)
    (words_before c.args.command.now (memory_of hs.first.machine) first.row.breaks.items) c.in-Err.fault is (c.in-Err.ensures.fails b hs.first hs.second there.first_there.stands there.first_there.order) in
    stands_same WithNumbers same_numbers b g.L.Link.conduct (g.L.Link.world c.words_before.new.talk.memory.below.below.below.link) first (Some c.args.second.now) hs st
    (still_there b g.L.Link.conduct (g.L.Link.world c.args.talk.now.memory.below.below.below.link) (g.L.Link.world c.words_before.new.talk.memory.below.below.below.link) first c.args.second.now hs.first hs.second there rests) ready.sides

pub returns-in-Err-clause-looked : goal.returns-in-Err-clause-looked
returns-in-Err-clause-looked g c = λ b hs there look.
    let first = c.args.first.now in
    read_well (g.L.Link.faults c.args.talk.now.memory.below.below.below.link) (g.L.Link.faults c.words_before.new.talk.memory.below.below.below.link) (Stands b g.L.Link.conduct first.which (g.L.Link.world c.words_before.new.talk.memory.below.below.below.link) hs.first hs.second)
    (words_before c.args.command.now (memory_of hs.first.machine) first.row.breaks.items) c.in-Err.fault (c.in-Err.ensures.fails b hs.first hs.second there.first_there.stands there.first_there.order)

pub returns-clause-looked : goal.returns-clause-looked
returns-clause-looked g c = λ b hs there look.
    let y = c.in-Ok.ensures.read b hs.first hs.second there.first_there.stands there.first_there.order in
    let now = still_there b g.L.Link.conduct (g.L.Link.world c.args.talk.now.memory.below.below.below.link) (g.L.Link.world c.words_before.new.talk.memory.below.below.below.link) c.args.first.now c.args.second.now hs.first hs.second there y.1 in
    subst (λ (n : ℕ). TalksWell n (g.L.Link.faults c.asked_behind.new.talk.memory.below.below.below.link) (Unit {0}) c.asked_behind.result) y.0 (c.asked_behind.ensures.looked b hs now look)

pub returns-clause-count : goal.returns-clause-count
returns-clause-count g c =
    counts_on (g.L.Link.faults c.args.talk.now.memory.below.below.below.link) (g.L.Link.faults c.words_before.new.talk.memory.below.below.below.link) (g.L.Link.faults c.asked_behind.new.talk.memory.below.below.below.link) c.asked_behind.result c.in-Ok.ensures.count c.asked_behind.ensures.count

pub returns-clause-meant : goal.returns-clause-meant
returns-clause-meant g c = λ b hs st there ready inquiry.
    let first = c.args.first.now in
    let second = c.args.second.now in
    let y = c.in-Ok.ensures.read b hs.first hs.second there.first_there.stands there.first_there.order in
    let o = g.L.Link.world c.asked_behind.new.talk.memory.below.below.below.link in
    let now = still_there b g.L.Link.conduct (g.L.Link.world c.args.talk.now.memory.below.below.below.link) (g.L.Link.world c.words_before.new.talk.memory.below.below.below.link) first second hs.first hs.second there y.1 in
    subst (λ (n : ℕ). ComesTo n (g.L.Link.faults c.asked_behind.new.talk.memory.below.below.below.link) (λ text. SaidAll b g.L.Link.conduct o c.asked_behind.new.first (Some c.asked_behind.new.second) st (DoneOnBoth st c.args.command.now) text)
    (NotAll b g.L.Link.conduct o c.asked_behind.new.first (Some c.asked_behind.new.second) st (DoneOnBoth st c.args.command.now)) c.asked_behind.result) y.0 (c.asked_behind.ensures.meant b hs st now ready inquiry)

pub returns-clause-stays : goal.returns-clause-stays
returns-clause-stays g c = λ b hs st there ready sets is.
    let y = c.in-Ok.ensures.read b hs.first hs.second there.first_there.stands there.first_there.order in
    let now = still_there b g.L.Link.conduct (g.L.Link.world c.args.talk.now.memory.below.below.below.link) (g.L.Link.world c.words_before.new.talk.memory.below.below.below.link) c.args.first.now c.args.second.now hs.first hs.second there y.1 in
    c.asked_behind.ensures.stays b hs st now ready sets (c.as_slice.ensures.value ∙ y.2) is

pub returns-clause-stores : goal.returns-clause-stores
returns-clause-stores g c = λ b hs st there ready text is.
    let y = c.in-Ok.ensures.read b hs.first hs.second there.first_there.stands there.first_there.order in
    let now = still_there b g.L.Link.conduct (g.L.Link.world c.args.talk.now.memory.below.below.below.link) (g.L.Link.world c.words_before.new.talk.memory.below.below.below.link) c.args.first.now c.args.second.now hs.first hs.second there y.1 in
    c.asked_behind.ensures.stores b hs st now ready text is

pub returns-clause-leaves : goal.returns-clause-leaves
returns-clause-leaves g c = λ b hs st there ready look query.
    let y = c.in-Ok.ensures.read b hs.first hs.second there.first_there.stands there.first_there.order in
    let now = still_there b g.L.Link.conduct (g.L.Link.world c.args.talk.now.memory.below.below.below.link) (g.L.Link.world c.words_before.new.talk.memory.below.below.below.link) c.args.first.now c.args.second.now hs.first hs.second there y.1 in
    c.asked_behind.ensures.leaves b hs st now ready look query
