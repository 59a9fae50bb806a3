use Rattle.std.proofs.Common.{◌≡◌, ◌∙◌, refl, ap, sym, subst, List, Ok, Err}
use Rattle.table_points.specs.declared.row.Point.{Point}
use Rattle.debug_side.specs.There.{words_at}
use Rattle.c_session.specs.declared.command.Command.{Command}
use Rattle.table_asks.specs.declared.fault.AskFault.{AskFault}
use Rattle.abs_mem.specs.WireMeaning.{memory_of}
use Rattle.resuming.specs.Standing.{Stands}
use Rattle.session.specs.Undoing.{words_before, ReadsBefore}
use Rattle.session.proofs.Looked.{unread_counts}
use Rattle.session.proofs.PuttingBack.{reads, not_read, nothing_before}
use Rattle.session.proofs.undoing.words_before.Goals as goal

pub returns-in-Ok-clause-read : goal.returns-in-Ok-clause-read
returns-in-Ok-clause-read g c = λ b h beside x same.
    let side = c.args.side.now in
    let old = c.args.talk.now in
    let new = c.words_there.new.m in
    subst (λ (k : Command). ReadsBefore (g.L.Link.faults old.memory.below.below.below.link) (g.L.Link.faults new.link) (Stands b g.L.Link.conduct side.which (g.L.Link.world new.link) h beside) (words_before k (memory_of h.machine) side.row.breaks.items) (Ok c.in-Ok.words.items)) (sym c.in-Clear.is)
    (subst (λ (ps : List Point). ReadsBefore (g.L.Link.faults old.memory.below.below.below.link) (g.L.Link.faults new.link) (Stands b g.L.Link.conduct side.which (g.L.Link.world new.link) h beside) (words_at (memory_of h.machine) ps) (Ok c.in-Ok.words.items)) c.as_slice.ensures.value
    (reads g.L.Link.conduct g.L.Link.world g.L.Link.faults b side old c.turn.new.talk new c.turn.ensures h beside x same c.as_slice.result.now c.in-Ok.words.items c.in-Ok.ensures.read))

pub returns-in-Err-clause-fails : goal.returns-in-Err-clause-fails
returns-in-Err-clause-fails g c = λ b h beside x same.
    let side = c.args.side.now in
    let old = c.args.talk.now in
    let new = c.words_there.new.m in
    let words = words_before c.args.command.now (memory_of h.machine) side.row.breaks.items in
    subst (λ (k : AskFault). ReadsBefore (g.L.Link.faults old.memory.below.below.below.link) (g.L.Link.faults new.link) (Stands b g.L.Link.conduct side.which (g.L.Link.world new.link) h beside) words (Err k)) (sym c.unread.ensures)
    (not_read g.L.Link.conduct g.L.Link.world g.L.Link.faults b side old c.turn.new.talk new c.turn.ensures h beside x same c.in-Err.fault words c.in-Err.ensures.fails)

pub returns-in_default-clause-read : goal.returns-in_default-clause-read
returns-in_default-clause-read g c = λ b h beside x same. nothing_before _ _ c.args.command.now c.in_default.not-Clear (memory_of h.machine) c.args.side.now.row.breaks.items c.new.ensures.items x

pub returns-in-Ok-clause-count : goal.returns-in-Ok-clause-count
returns-in-Ok-clause-count g c = c.in-Ok.ensures.read.0.faults ∙ ap (λ o. g.L.Link.faults o.memory.below.below.below.link) c.turn.ensures

pub returns-in-Err-clause-count : goal.returns-in-Err-clause-count
returns-in-Err-clause-count g c = unread_counts (g.L.Link.faults c.args.talk.now.memory.below.below.below.link) (g.L.Link.faults c.turn.new.talk.memory.below.below.below.link) (g.L.Link.faults c.words_there.new.m.link) c.in-Err.fault c.unread.result c.unread.ensures (ap (λ o. g.L.Link.faults o.memory.below.below.below.link) c.turn.ensures) _ _ refl refl c.in-Err.ensures.fails
