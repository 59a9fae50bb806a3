use Rattle.std.proofs.Common.{Option, subst, Err}
use Rattle.machine_state.specs.State.{Behaviour}
use Rattle.nub_wire.specs.Nub.{Host}
use Rattle.table_asks.specs.declared.fault.AskFault.{AskFault}
use Rattle.session.specs.Kept.{IsUndone}
use Rattle.session.proofs.Counting.{talk_counts}
use Rattle.session.proofs.Words.{wire_of, talked}
use Rattle.session.proofs.conversation.taken_away.Goals as goal

pub returns-in-Err-clause-meant : goal.returns-in-Err-clause-meant
returns-in-Err-clause-meant g c = λ (b : Behaviour) (h : Host) (beside : Option Host) x.
    talked (g.L.Link.faults (wire_of c.args.talk.now).link) (g.L.Link.faults (wire_of c.unprepared.new.talk).link) (Unit {0}) c.in-Err.fault c.broken.result c.broken.ensures (c.in-Err.ensures.meant b h beside x)

pub returns-in-Err-clause-count : goal.returns-in-Err-clause-count
returns-in-Err-clause-count g c = talk_counts (g.L.Link.faults (wire_of c.args.talk.now).link) (g.L.Link.faults (wire_of c.unprepared.new.talk).link) c.in-Err.fault c.broken.result c.broken.ensures c.in-Err.ensures.count

pub returns-in-Err-clause-whole : goal.returns-in-Err-clause-whole
returns-in-Err-clause-whole g c = λ u. subst (λ (z : AskFault). IsUndone {A = Unit {0}} (Err z)) c.broken.ensures u
