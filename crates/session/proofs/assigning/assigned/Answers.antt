use Rattle.std.proofs.Common.{sym, subst}
use Rattle.table_asks.specs.declared.inquiry.Inquiry.{Inquiry}
use Rattle.session.specs.Wanting.{TableStays}
use Rattle.session.proofs.Wanting.{same_table, table_stays}
use Rattle.session.proofs.Looked.{unasked_there, assigned_counts, assigned_well}
use Rattle.session.proofs.assigning.assigned.Goals as goal

pub returns-clause-count : goal.returns-clause-count
returns-clause-count g c = assigned_counts g.L.Link.conduct g.L.Link.world g.L.Link.faults c.args.side.now c.args.talk.now c.turn.new.talk c.assignment-changes.new.talk c.turn.ensures c.assignment-changes.result c.assignment-changes.ensures.told

pub returns-clause-evaluated : goal.returns-clause-evaluated
returns-clause-evaluated g c = λ b h beside there.
    let table = table_stays c.args.side.now.inquiry.core.store c.begin_command.new.inquiry.core.store c.assignment-changes.new.inquiry.core.store c.end_command.new.inquiry.core.store c.in-Ok.mark c.in-Ok.ensures.store c.in-Ok.ensures.there c.assignment-changes.ensures.closed c.end_command.ensures.store in
    assigned_well g.L.Link.conduct g.L.Link.world g.L.Link.faults c.args.side.now c.args.talk.now c.turn.new.talk c.assignment-changes.new.talk c.turn.ensures c.assignment-changes.result c.assignment-changes.ensures.told b h beside there c.end_command.new.inquiry table

pub returns-in-Err-clause-evaluated : goal.returns-in-Err-clause-evaluated
returns-in-Err-clause-evaluated g c = λ b h beside there.
    unasked_there g.L.Link.conduct g.L.Link.world g.L.Link.faults c.args.side.now c.args.talk.now c.turn.new.talk c.begin_command.new.inquiry c.in-Err.ensures.kept b h beside c.turn.ensures there

pub returns-in-Err-clause-table : goal.returns-in-Err-clause-table
returns-in-Err-clause-table g c = subst (λ (i : Inquiry). TableStays c.args.side.now.inquiry.core.store i.core.store) (sym c.in-Err.ensures.kept) (same_table c.args.side.now.inquiry.core.store)

pub returns-clause-table : goal.returns-clause-table
returns-clause-table g c =
    table_stays c.args.side.now.inquiry.core.store c.begin_command.new.inquiry.core.store c.assignment-changes.new.inquiry.core.store c.end_command.new.inquiry.core.store c.in-Ok.mark c.in-Ok.ensures.store c.in-Ok.ensures.there c.assignment-changes.ensures.closed c.end_command.ensures.store
