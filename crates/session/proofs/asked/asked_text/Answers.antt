use Rattle.std.proofs.Common.{refl, sym, subst}
use Rattle.abs_mem.specs.WireMeaning.{WireLeads}
use Rattle.table_asks.specs.declared.inquiry.Inquiry.{Inquiry}
use Rattle.session.specs.Wanting.{TableStays}
use Rattle.session.proofs.AskingText.{text_meant, text_count}
use Rattle.session.proofs.Ending.{ps_else}
use Rattle.session.proofs.Looked.{text_counts, unasked_there}
use Rattle.session.proofs.Storing.{none_stores, text_stored}
use Rattle.session.proofs.Wanting.{same_table, table_stays}
use Rattle.session.proofs.asked.asked_text.Goals as goal

pub returns-clause-meant : goal.returns-clause-meant
returns-clause-meant g c = λ b h beside a there ready none.
    text_meant g.L.Link.conduct g.L.Link.world g.L.Link.faults (λ m o n. WireLeads g.L.Link.took g.L.Link.gave m.link m.side o n.link n.side) b c.args.side.now c.args.talk.now c.turn.new.talk c.running_text-said.new.talk c.args.text.now c.begin_command.new.inquiry c.running_text-said.new.inquiry c.end_command.new.inquiry c.in-Ok.mark h beside a there ready none
    c.turn.ensures c.in-Ok.ensures.steps c.in-Ok.ensures.store c.in-Ok.ensures.there c.running_text-said.ensures.closed c.end_command.ensures.store c.running_text-said.result c.running_text-said.ensures.meaning c.running_text-said.ensures.calls

pub returns-clause-faults : goal.returns-clause-faults
returns-clause-faults g c = λ some.
    text_count g.L.Link.conduct g.L.Link.world g.L.Link.faults (λ m o n. WireLeads g.L.Link.took g.L.Link.gave m.link m.side o n.link n.side) c.args.side.now c.args.talk.now c.turn.new.talk c.running_text-said.new.talk c.turn.ensures c.running_text-said.result c.running_text-said.ensures.calls some

pub returns-clause-count : goal.returns-clause-count
returns-clause-count g c =
    text_counts g.L.Link.conduct g.L.Link.world g.L.Link.faults (λ m o n. WireLeads g.L.Link.took g.L.Link.gave m.link m.side o n.link n.side) c.args.side.now c.args.talk.now c.turn.new.talk c.running_text-said.new.talk c.turn.ensures c.running_text-said.result c.running_text-said.ensures.calls

pub returns-in-Err-clause-stores : goal.returns-in-Err-clause-stores
returns-in-Err-clause-stores g c = λ b h beside a there ready none unbroken.
    let side = c.args.side.now in
    none_stores b g.L.Link.conduct (g.L.Link.world c.args.talk.now.memory.below.below.below.link) (g.L.Link.world c.turn.new.talk.memory.below.below.below.link) side h beside there a ready none c.begin_command.new.inquiry
    (subst (λ (i : Inquiry). TableStays side.inquiry.core.store i.core.store) (sym c.in-Err.ensures.kept) (same_table side.inquiry.core.store))
    (unasked_there g.L.Link.conduct g.L.Link.world g.L.Link.faults side c.args.talk.now c.turn.new.talk c.begin_command.new.inquiry c.in-Err.ensures.kept b h beside c.turn.ensures there).stands
    (record side { inquiry = c.begin_command.new.inquiry }) refl

pub returns-clause-stores : goal.returns-clause-stores
returns-clause-stores g c = λ b h beside a there ready none unbroken.
    text_stored g.L.Link.conduct g.L.Link.world g.L.Link.faults b c.args.side.now c.args.talk.now c.turn.new.talk c.running_text-said.new.talk c.args.text.now c.begin_command.new.inquiry c.running_text-said.new.inquiry c.turn.ensures c.in-Ok.ensures.store h beside there a ready none c.end_command.new.inquiry
    (table_stays c.args.side.now.inquiry.core.store c.begin_command.new.inquiry.core.store c.running_text-said.new.inquiry.core.store c.end_command.new.inquiry.core.store c.in-Ok.mark c.in-Ok.ensures.store c.in-Ok.ensures.there c.running_text-said.ensures.closed c.end_command.ensures.store)
    c.running_text-said.result unbroken c.running_text-said.ensures.meaning

pub returns-clause-word : goal.returns-clause-word
returns-clause-word g c = ps_else c.running_text-said.result c.running_text-said.ensures.word
