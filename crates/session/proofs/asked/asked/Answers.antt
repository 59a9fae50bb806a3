use Rattle.std.proofs.Common.{◌≡◌, ◌∙◌, ap, subst, sym, Ok, Err, IfOk, refl}
use Rattle.abs_mem.specs.WireMeaning.{WireLeads}
use Rattle.c_session.specs.declared.command.Command.{Command}
use Rattle.c_session.specs.declared.command.Command.TheVariants.{Ps}
use Rattle.table_asks.specs.declared.fault.AskFault.TheVariants.{NoMemory}
use Rattle.table_asks.specs.declared.inquiry.Inquiry.{Inquiry}
use Rattle.session.specs.Meant.{IsBare, IsLook, SaidOne, NotOne, ComesTo}
use Rattle.ps_store.specs.StoreState.{StoreState}
use Rattle.session.specs.declared.sides.SideRecord.{SideRecord}
use Rattle.session.specs.Kept.{SaysDone}
use Rattle.session.specs.Wanting.{IsAskedAlone, TableStays}
use Rattle.session.proofs.Asking.{undone_meant, done_meant, count_of, count_unless, rests_wanting, plain_of}
use Rattle.session.proofs.Wanting.{same_table, table_stays, text_is}
use Rattle.session.proofs.Looked.{looked, asked_stays, unasked_stays, unasked_there, turned_counts}
use Rattle.session.proofs.asked.asked.Goals as goal

pub returns-in-Err-said-clause-meant : goal.returns-in-Err-said-clause-meant
returns-in-Err-said-clause-meant g c = λ b h beside a there ready none inquiry.
    let plain = plain_of c.args.command.now inquiry (λ text. c.in_default.not-Ps text) in
    undone_meant g.L.Link.conduct g.L.Link.world g.L.Link.faults (λ m o n. WireLeads g.L.Link.took g.L.Link.gave m.link m.side o n.link n.side) b c.args.side.now c.args.talk.now c.args.command.now plain (Err c.in-Err-said.fault) c.begin_command.new.inquiry c.end_command.new.inquiry c.told-said.new.side c.told-said.new.talk h beside a there ready none
    (record {
      talk = c.turn.new.talk;
      mark = c.in-Ok.mark;
      turned_is = c.turn.ensures;
      steps = c.in-Ok.ensures.steps;
      store = c.in-Ok.ensures.store;
      mark_is = c.in-Ok.ensures.there;
      does = c.in-Err-said.ensures.does;
      closed = c.in-Err-said.ensures.closed;
      named = c.in-Err-said.ensures.named plain;
      same = c.in-Err-said.ensures.same;
      kept = c.in-Err-said.ensures.kept;
      ends = c.end_command.ensures.store;
    })
    c.in-Err-said.fault refl

pub returns-in-Ok-said-clause-meant : goal.returns-in-Ok-said-clause-meant
returns-in-Ok-said-clause-meant g c = λ b h beside a there ready none inquiry.
    let plain = plain_of c.args.command.now inquiry (λ text. c.in_default.not-Ps text) in
    done_meant g.L.Link.conduct g.L.Link.world g.L.Link.faults (λ m o n. WireLeads g.L.Link.took g.L.Link.gave m.link m.side o n.link n.side) b c.args.side.now c.args.talk.now c.args.command.now plain (Ok c.in-Ok-said.text) c.begin_command.new.inquiry c.end_command.new.inquiry c.told-said.new.side c.told-said.new.talk h beside a there ready none
    (record {
      talk = c.turn.new.talk;
      mark = c.in-Ok.mark;
      turned_is = c.turn.ensures;
      steps = c.in-Ok.ensures.steps;
      store = c.in-Ok.ensures.store;
      mark_is = c.in-Ok.ensures.there;
      does = c.in-Ok-said.ensures.does;
      closed = c.in-Ok-said.ensures.closed;
      named = c.in-Ok-said.ensures.named plain;
      same = c.in-Ok-said.ensures.same;
      kept = tt;
      ends = c.end_command.ensures.store;
    })
    c.in-Ok-said.text refl c.chosen-side.result c.chosen-side.ensures

pub returns-in-Err-said-clause-faults : goal.returns-in-Err-said-clause-faults
returns-in-Err-said-clause-faults g c = λ inquiry some.
    count_unless g.L.Link.conduct g.L.Link.world g.L.Link.faults (λ m o n. WireLeads g.L.Link.took g.L.Link.gave m.link m.side o n.link n.side) c.args.side.now c.args.talk.now c.turn.new.talk c.told-said.new.talk c.args.command.now (Err c.in-Err-said.fault) c.args.side.now.frame c.args.side.now.row.breaks.items
    c.told-said.new.side.row.breaks.items c.begin_command.new.inquiry c.told-said.new.side.inquiry c.turn.ensures c.in-Err-said.ensures.does (plain_of c.args.command.now inquiry (λ text. c.in_default.not-Ps text)) some

pub returns-in-Ok-said-clause-faults : goal.returns-in-Ok-said-clause-faults
returns-in-Ok-said-clause-faults g c = λ inquiry some.
    count_unless g.L.Link.conduct g.L.Link.world g.L.Link.faults (λ m o n. WireLeads g.L.Link.took g.L.Link.gave m.link m.side o n.link n.side) c.args.side.now c.args.talk.now c.turn.new.talk c.told-said.new.talk c.args.command.now (Ok c.in-Ok-said.text) c.args.side.now.frame c.args.side.now.row.breaks.items
    c.told-said.new.side.row.breaks.items c.begin_command.new.inquiry c.told-said.new.side.inquiry c.turn.ensures c.in-Ok-said.ensures.does (plain_of c.args.command.now inquiry (λ text. c.in_default.not-Ps text)) (λ e. cc)

pub returns-in-Err-said-clause-bare : goal.returns-in-Err-said-clause-bare
returns-in-Err-said-clause-bare g c = λ bare.
    count_of g.L.Link.conduct g.L.Link.world g.L.Link.faults (λ m o n. WireLeads g.L.Link.took g.L.Link.gave m.link m.side o n.link n.side) c.args.side.now c.args.talk.now c.turn.new.talk c.told-said.new.talk c.args.command.now (Err c.in-Err-said.fault) c.args.side.now.frame c.args.side.now.row.breaks.items
    c.told-said.new.side.row.breaks.items c.begin_command.new.inquiry c.told-said.new.side.inquiry c.turn.ensures c.in-Err-said.ensures.does bare

pub returns-in-Ok-said-clause-bare : goal.returns-in-Ok-said-clause-bare
returns-in-Ok-said-clause-bare g c = λ bare.
    count_of g.L.Link.conduct g.L.Link.world g.L.Link.faults (λ m o n. WireLeads g.L.Link.took g.L.Link.gave m.link m.side o n.link n.side) c.args.side.now c.args.talk.now c.turn.new.talk c.told-said.new.talk c.args.command.now (Ok c.in-Ok-said.text) c.args.side.now.frame c.args.side.now.row.breaks.items
    c.told-said.new.side.row.breaks.items c.begin_command.new.inquiry c.told-said.new.side.inquiry c.turn.ensures c.in-Ok-said.ensures.does bare

pub returns-in-Err-said-clause-wanting : goal.returns-in-Err-said-clause-wanting
returns-in-Err-said-clause-wanting g c = λ b h beside x bare e.
    let is : c.in-Err-said.fault ≡ NoMemory = cc in
    rests_wanting g.L.Link.conduct g.L.Link.world g.L.Link.faults (λ m o n. WireLeads g.L.Link.took g.L.Link.gave m.link m.side o n.link n.side) b c.args.side.now c.args.talk.now c.turn.new.talk c.told-said.new.talk c.args.command.now c.args.side.now.frame c.args.side.now.row.breaks.items c.told-said.new.side.row.breaks.items
    c.begin_command.new.inquiry c.told-said.new.side.inquiry h beside c.in-Err-said.fault c.turn.ensures is bare c.in-Err-said.ensures.does x

pub returns-in-Ps-clause-faults : goal.returns-in-Ps-clause-faults
returns-in-Ps-clause-faults g c = λ inquiry some. c.asked_text.ensures.faults some

pub returns-in-Ps-clause-bare : goal.returns-in-Ps-clause-bare
returns-in-Ps-clause-bare g c = λ bare. absurd (subst IsBare c.in-Ps.is bare)

pub returns-in-Ps-clause-wanting : goal.returns-in-Ps-clause-wanting
returns-in-Ps-clause-wanting g c = λ b h beside x bare e. absurd (subst IsBare c.in-Ps.is bare)

pub returns-in-Ps-clause-meant : goal.returns-in-Ps-clause-meant
returns-in-Ps-clause-meant g c = λ b h beside a there ready none inquiry.
    let o = g.L.Link.world c.asked_text.new.talk.memory.below.below.below.link in
    subst (λ (now : Command). ComesTo (g.L.Link.faults c.args.talk.now.memory.below.below.below.link) (g.L.Link.faults c.asked_text.new.talk.memory.below.below.below.link) (λ text. SaidOne b g.L.Link.conduct o c.args.side.now c.asked_text.new.side h beside now a text)
    (NotOne b g.L.Link.conduct o c.args.side.now c.asked_text.new.side h beside now a) c.asked_text.result) (sym (c.in-Ps.is ∙ ap Ps (sym c.as_bytes.ensures))) (c.asked_text.ensures.meant b h beside a there ready none)

pub returns-in-Err-said-clause-table : goal.returns-in-Err-said-clause-table
returns-in-Err-said-clause-table g c = λ runs.
    table_stays c.args.side.now.inquiry.core.store c.begin_command.new.inquiry.core.store c.told-said.new.side.inquiry.core.store c.end_command.new.inquiry.core.store c.in-Ok.mark c.in-Ok.ensures.store c.in-Ok.ensures.there c.in-Err-said.ensures.closed c.end_command.ensures.store

pub returns-in-Err-said-clause-count : goal.returns-in-Err-said-clause-count
returns-in-Err-said-clause-count g c =
    turned_counts g.L.Link.conduct g.L.Link.world g.L.Link.faults (λ m o n. WireLeads g.L.Link.took g.L.Link.gave m.link m.side o n.link n.side) c.args.side.now c.args.talk.now c.turn.new.talk c.told-said.new.talk c.args.command.now (Err c.in-Err-said.fault) c.args.side.now.frame c.args.side.now.row.breaks.items c.told-said.new.side.row.breaks.items c.begin_command.new.inquiry
    c.told-said.new.side.inquiry c.turn.ensures c.in-Err-said.ensures.does

pub returns-in-Err-said-clause-looked : goal.returns-in-Err-said-clause-looked
returns-in-Err-said-clause-looked g c = λ b h beside there look.
    let table = table_stays c.args.side.now.inquiry.core.store c.begin_command.new.inquiry.core.store c.told-said.new.side.inquiry.core.store c.end_command.new.inquiry.core.store c.in-Ok.mark c.in-Ok.ensures.store c.in-Ok.ensures.there c.in-Err-said.ensures.closed c.end_command.ensures.store in
    looked g.L.Link.conduct g.L.Link.world g.L.Link.faults (λ m o n. WireLeads g.L.Link.took g.L.Link.gave m.link m.side o n.link n.side) c.args.side.now c.args.talk.now c.turn.new.talk c.told-said.new.talk c.args.command.now c.args.side.now.frame c.told-said.new.side.row.breaks c.begin_command.new.inquiry c.told-said.new.side.inquiry c.turn.ensures (Err c.in-Err-said.fault) c.in-Err-said.ensures.does
    b h beside there look (ap (λ (s : StoreState). s.part) c.in-Ok.ensures.store) (λ q. c.in-Err-said.ensures.query q) c.end_command.new.inquiry table (record c.told-said.new.side { inquiry = c.end_command.new.inquiry }) c.args.side.now.frame (ap (λ (s : SideRecord). record s { inquiry = c.end_command.new.inquiry }) c.in-Err-said.ensures.same)

pub returns-in-Ok-said-clause-table : goal.returns-in-Ok-said-clause-table
returns-in-Ok-said-clause-table g c = λ runs.
    table_stays c.args.side.now.inquiry.core.store c.begin_command.new.inquiry.core.store c.told-said.new.side.inquiry.core.store c.end_command.new.inquiry.core.store c.in-Ok.mark c.in-Ok.ensures.store c.in-Ok.ensures.there c.in-Ok-said.ensures.closed c.end_command.ensures.store

pub returns-in-Ok-said-clause-count : goal.returns-in-Ok-said-clause-count
returns-in-Ok-said-clause-count g c =
    turned_counts g.L.Link.conduct g.L.Link.world g.L.Link.faults (λ m o n. WireLeads g.L.Link.took g.L.Link.gave m.link m.side o n.link n.side) c.args.side.now c.args.talk.now c.turn.new.talk c.told-said.new.talk c.args.command.now (Ok c.in-Ok-said.text) c.args.side.now.frame c.args.side.now.row.breaks.items c.told-said.new.side.row.breaks.items c.begin_command.new.inquiry
    c.told-said.new.side.inquiry c.turn.ensures c.in-Ok-said.ensures.does

pub returns-in-Ok-said-clause-looked : goal.returns-in-Ok-said-clause-looked
returns-in-Ok-said-clause-looked g c = λ b h beside there look.
    let table = table_stays c.args.side.now.inquiry.core.store c.begin_command.new.inquiry.core.store c.told-said.new.side.inquiry.core.store c.end_command.new.inquiry.core.store c.in-Ok.mark c.in-Ok.ensures.store c.in-Ok.ensures.there c.in-Ok-said.ensures.closed c.end_command.ensures.store in
    looked g.L.Link.conduct g.L.Link.world g.L.Link.faults (λ m o n. WireLeads g.L.Link.took g.L.Link.gave m.link m.side o n.link n.side) c.args.side.now c.args.talk.now c.turn.new.talk c.told-said.new.talk c.args.command.now c.args.side.now.frame c.told-said.new.side.row.breaks c.begin_command.new.inquiry c.told-said.new.side.inquiry c.turn.ensures (Ok c.in-Ok-said.text) c.in-Ok-said.ensures.does
    b h beside there look (ap (λ (s : StoreState). s.part) c.in-Ok.ensures.store) (λ q. c.in-Ok-said.ensures.query q) c.end_command.new.inquiry table (record c.told-said.new.side { inquiry = c.end_command.new.inquiry; frame = c.chosen-side.result }) c.chosen-side.result (ap (λ (s : SideRecord). record s { inquiry = c.end_command.new.inquiry; frame = c.chosen-side.result }) c.in-Ok-said.ensures.same)

pub returns-in-Err-said-clause-stays : goal.returns-in-Err-said-clause-stays
returns-in-Err-said-clause-stays g c = λ b h beside a there ready none runs e.
    let table = table_stays c.args.side.now.inquiry.core.store c.begin_command.new.inquiry.core.store c.told-said.new.side.inquiry.core.store c.end_command.new.inquiry.core.store c.in-Ok.mark c.in-Ok.ensures.store c.in-Ok.ensures.there c.in-Err-said.ensures.closed c.end_command.ensures.store in
    asked_stays g.L.Link.conduct g.L.Link.world g.L.Link.faults (λ m o n. WireLeads g.L.Link.took g.L.Link.gave m.link m.side o n.link n.side) c.args.side.now c.args.talk.now c.turn.new.talk c.told-said.new.talk c.args.command.now c.args.side.now.frame c.told-said.new.side.row.breaks c.begin_command.new.inquiry c.told-said.new.side.inquiry c.turn.ensures c.in-Err-said.fault e
    c.in-Err-said.ensures.does b h beside a there ready none runs (ap (λ (s : StoreState). s.part) c.in-Ok.ensures.store) c.in-Err-said.ensures.kept c.end_command.new.inquiry table (record c.told-said.new.side { inquiry = c.end_command.new.inquiry }) (ap (λ (s : SideRecord). record s { inquiry = c.end_command.new.inquiry }) c.in-Err-said.ensures.same)

pub returns-in-Err-clause-stays : goal.returns-in-Err-clause-stays
returns-in-Err-clause-stays g c = λ b h beside a there ready none runs e.
    unasked_stays g.L.Link.conduct g.L.Link.world g.L.Link.faults c.args.side.now c.args.talk.now c.turn.new.talk c.begin_command.new.inquiry c.in-Err.ensures.kept b h beside a c.turn.ensures there ready.stands

pub returns-in-Err-clause-table : goal.returns-in-Err-clause-table
returns-in-Err-clause-table g c = λ runs. subst (λ (i : Inquiry). TableStays c.args.side.now.inquiry.core.store i.core.store) (sym c.in-Err.ensures.kept) (same_table c.args.side.now.inquiry.core.store)

pub returns-in-Ps-clause-table : goal.returns-in-Ps-clause-table
returns-in-Ps-clause-table g c = λ runs. absurd (subst IsAskedAlone c.in-Ps.is runs)

pub returns-in-Ps-clause-stays : goal.returns-in-Ps-clause-stays
returns-in-Ps-clause-stays g c = λ b h beside a there ready none runs e. absurd (subst IsAskedAlone c.in-Ps.is runs)

pub returns-in-Ps-clause-looked : goal.returns-in-Ps-clause-looked
returns-in-Ps-clause-looked g c = λ b h beside there look. absurd (subst IsLook c.in-Ps.is look)

pub returns-in-Err-clause-looked : goal.returns-in-Err-clause-looked
returns-in-Err-clause-looked g c = λ b h beside there look.
    unasked_there g.L.Link.conduct g.L.Link.world g.L.Link.faults c.args.side.now c.args.talk.now c.turn.new.talk c.begin_command.new.inquiry c.in-Err.ensures.kept b h beside c.turn.ensures there

-- ---- a text of PostScript

pub returns-in-Ps-clause-stores : goal.returns-in-Ps-clause-stores
returns-in-Ps-clause-stores g c = λ b h beside a there ready none is unbroken. c.asked_text.ensures.stores b h beside a there ready none unbroken

pub returns-in-Err-clause-stores : goal.returns-in-Err-clause-stores
returns-in-Err-clause-stores g c = λ b h beside a there ready none is unbroken. absurd (text_is c.args.command.now is (λ text. c.in_default.not-Ps text))

pub returns-in-Err-said-clause-stores : goal.returns-in-Err-said-clause-stores
returns-in-Err-said-clause-stores g c = λ b h beside a there ready none is unbroken. absurd (text_is c.args.command.now is (λ text. c.in_default.not-Ps text))

pub returns-in-Ok-said-clause-stores : goal.returns-in-Ok-said-clause-stores
returns-in-Ok-said-clause-stores g c = λ b h beside a there ready none is unbroken. absurd (text_is c.args.command.now is (λ text. c.in_default.not-Ps text))

pub returns-in-Ps-clause-word : goal.returns-in-Ps-clause-word
returns-in-Ps-clause-word g c = subst (λ (d : Command). IfOk c.asked_text.result (λ text. SaysDone d text)) (sym c.in-Ps.is) c.asked_text.ensures.word
