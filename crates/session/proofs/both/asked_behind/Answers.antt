use Rattle.side_meaning.specs.Stepping.{IsReady}
use Rattle.std.proofs.Common.{◌≡◌, ◌∙◌, ap, sym, subst, ℕ, List, length, drop, [], Option, Some, Ok, Err, arith}
use Rattle.resuming.specs.Standing.{Stands}
use Rattle.table_asks.specs.declared.fault.AskFault.TheVariants.{NoMemory, Broken}
use Rattle.session.specs.Turned.{byte_of}
use Rattle.session.specs.Undoing.{undone_host}
use Rattle.claims.specs.Outcome.{DoneOnBoth}
use Rattle.session.specs.Meant.{debugged, IsThere, SaidAll, NotAll, FailsWell, TalksWell}
use Rattle.table_asks.specs.declared.fault.AskFault.{AskFault}
use Rattle.table_points.specs.Rows.{row_in}
use Rattle.nub_wire.specs.declared.link.Side.{Side}
use Rattle.nub_wire.specs.Nub.{Host}
use Rattle.claims.specs.Side.{SideState}
use Rattle.side_meaning.proofs.Starting.{no_words}
use Rattle.session.specs.declared.sides.SideRecord.{SideRecord}
use Rattle.session.specs.Counted.{CountsFault}
use Rattle.session.specs.Wanting.{StaysOne, StoresOne, WithTable, WithNumbers, StandAgain}
use Rattle.session.proofs.Asking.{none_mapped}
use Rattle.session.proofs.Counting.{fault_on}
use Rattle.session.proofs.Wanting.{one_stays, stands_same, same_with, same_numbers, first_wanted, given_again}
use Rattle.session.proofs.Storing.{stored_back, undone_unbroken, done_unbroken, first_numbers, both_numbers}
use Rattle.session.specs.Kept.{IsFailure, IsUndone}
use Rattle.table_asks.specs.Faults.{IsUnbroken}
use Rattle.session.proofs.Looked.{both_look, look_alone, well_there, only_well, fails_on, second_well, undone_counts, undone_wants}
use Rattle.session.proofs.AskingBoth.{IsAnswer, failure_or, text_sets, text_query, unwanted, breaks_or, alone_or, alone_no_text, look_no_text, look_sets, sets_bare, sets_inquiry, first_back, undone_both, second_told, second_failed, second_wanted}
use Rattle.session.proofs.both.asked_behind.Goals as goal

pub returns-in-Err-said-clause-meant : goal.returns-in-Err-said-clause-meant
returns-in-Err-said-clause-meant g c = λ b hs st there ready inquiry.
    let wire = c.asked-said.new.talk.memory.below.below.below in
    let new = c.undone.new.talk.memory.below.below.below in
    undone_both b g.L.Link.conduct (g.L.Link.world c.args.talk.now.memory.below.below.below.link) (g.L.Link.world wire.link) c.args.first.now c.asked-said.new.side c.args.second.now c.asked-said.ensures.which c.args.command.now inquiry hs st
    (g.L.Link.faults c.args.talk.now.memory.below.below.below.link) (g.L.Link.faults wire.link) (g.L.Link.faults new.link) (g.L.Link.world new.link) c.undone.new.second c.in-Err-said.fault c.undone.result there ready (c.in-Err-said.ensures.meant b)
    (λ n. c.in-Err-said.ensures.faults inquiry (λ e. n (unwanted c.in-Err-said.fault e))) c.undone.ensures.which
    (λ apart. let w = c.undone.ensures.other apart in (w.0, w.1, ap (λ o. g.L.Link.world o.memory.below.below.below.link) w.2, ap (λ o. g.L.Link.faults o.memory.below.below.below.link) w.2))
    (λ is. let w = c.undone.ensures.failed is in (w.0, ap (λ o. g.L.Link.faults o.memory.below.below.below.link) w.2))
    (λ text h beside a is n x steady none. c.undone.ensures.meant text b h beside a is n x steady none)

pub returns-in-Ok-more-clause-meant : goal.returns-in-Ok-more-clause-meant
returns-in-Ok-more-clause-meant g c = λ b hs st there ready inquiry.
    second_told b g.L.Link.conduct (g.L.Link.world c.args.talk.now.memory.below.below.below.link) (g.L.Link.world c.asked-said.new.talk.memory.below.below.below.link) c.args.first.now c.asked-said.new.side c.args.second.now c.asked-said.ensures.which c.args.command.now inquiry
    hs st there ready (g.L.Link.faults c.args.talk.now.memory.below.below.below.link) (g.L.Link.faults c.asked-said.new.talk.memory.below.below.below.link) c.in-Ok-said.text (c.in-Ok-said.ensures.meant b)
    (g.L.Link.world c.asked-more.new.talk.memory.below.below.below.link) (g.L.Link.faults c.asked-more.new.talk.memory.below.below.below.link) c.asked-more.new.side (Ok c.in-Ok-more.field-0) c.asked-more.ensures.which tt (c.in-Ok-more.ensures.meant b)

pub returns-in-Refused-clause-meant : goal.returns-in-Refused-clause-meant
returns-in-Refused-clause-meant g c = λ b hs st there ready inquiry.
    second_told b g.L.Link.conduct (g.L.Link.world c.args.talk.now.memory.below.below.below.link) (g.L.Link.world c.asked-said.new.talk.memory.below.below.below.link) c.args.first.now c.asked-said.new.side c.args.second.now c.asked-said.ensures.which c.args.command.now inquiry
    hs st there ready (g.L.Link.faults c.args.talk.now.memory.below.below.below.link) (g.L.Link.faults c.asked-said.new.talk.memory.below.below.below.link) c.in-Ok-said.text (c.in-Ok-said.ensures.meant b)
    (g.L.Link.world c.asked-more.new.talk.memory.below.below.below.link) (g.L.Link.faults c.asked-more.new.talk.memory.below.below.below.link) c.asked-more.new.side (Err c.in-Err-more.fault) c.asked-more.ensures.which
    (subst (λ (y : AskFault). IsAnswer (Err y)) (sym c.in-Refused.is) tt) (c.in-Err-more.ensures.meant b)

pub returns-in-Raised-clause-meant : goal.returns-in-Raised-clause-meant
returns-in-Raised-clause-meant g c = λ b hs st there ready inquiry.
    second_told b g.L.Link.conduct (g.L.Link.world c.args.talk.now.memory.below.below.below.link) (g.L.Link.world c.asked-said.new.talk.memory.below.below.below.link) c.args.first.now c.asked-said.new.side c.args.second.now c.asked-said.ensures.which c.args.command.now inquiry
    hs st there ready (g.L.Link.faults c.args.talk.now.memory.below.below.below.link) (g.L.Link.faults c.asked-said.new.talk.memory.below.below.below.link) c.in-Ok-said.text (c.in-Ok-said.ensures.meant b)
    (g.L.Link.world c.asked-more.new.talk.memory.below.below.below.link) (g.L.Link.faults c.asked-more.new.talk.memory.below.below.below.link) c.asked-more.new.side (Err c.in-Err-more.fault) c.asked-more.ensures.which
    (subst (λ (y : AskFault). IsAnswer (Err y)) (sym c.in-Raised.is) tt) (c.in-Err-more.ensures.meant b)

pub returns-in-Spent-clause-meant : goal.returns-in-Spent-clause-meant
returns-in-Spent-clause-meant g c = λ b hs st there ready inquiry.
    second_told b g.L.Link.conduct (g.L.Link.world c.args.talk.now.memory.below.below.below.link) (g.L.Link.world c.asked-said.new.talk.memory.below.below.below.link) c.args.first.now c.asked-said.new.side c.args.second.now c.asked-said.ensures.which c.args.command.now inquiry
    hs st there ready (g.L.Link.faults c.args.talk.now.memory.below.below.below.link) (g.L.Link.faults c.asked-said.new.talk.memory.below.below.below.link) c.in-Ok-said.text (c.in-Ok-said.ensures.meant b)
    (g.L.Link.world c.asked-more.new.talk.memory.below.below.below.link) (g.L.Link.faults c.asked-more.new.talk.memory.below.below.below.link) c.asked-more.new.side (Err c.in-Err-more.fault) c.asked-more.ensures.which
    (subst (λ (y : AskFault). IsAnswer (Err y)) (sym c.in-Spent.is) tt) (c.in-Err-more.ensures.meant b)

pub returns-in-Broken-clause-meant : goal.returns-in-Broken-clause-meant
returns-in-Broken-clause-meant g c = λ b hs st there ready inquiry.
    second_failed b g.L.Link.conduct (g.L.Link.world c.args.talk.now.memory.below.below.below.link) (g.L.Link.world c.asked-said.new.talk.memory.below.below.below.link) c.args.first.now c.asked-said.new.side c.args.second.now c.asked-said.ensures.which c.args.command.now inquiry
    hs st there ready (g.L.Link.faults c.args.talk.now.memory.below.below.below.link) (g.L.Link.faults c.asked-said.new.talk.memory.below.below.below.link) c.in-Ok-said.text (c.in-Ok-said.ensures.meant b)
    (g.L.Link.world c.asked-more.new.talk.memory.below.below.below.link) (g.L.Link.faults c.asked-more.new.talk.memory.below.below.below.link) c.asked-more.new.side c.in-Err-more.fault c.in-Broken.why
    (λ text. SaidAll b g.L.Link.conduct (g.L.Link.world c.asked-more.new.talk.memory.below.below.below.link) c.asked-said.new.side (Some c.asked-more.new.side) st (DoneOnBoth st c.args.command.now) text)
    (NotAll b g.L.Link.conduct (g.L.Link.world c.asked-more.new.talk.memory.below.below.below.link) c.asked-said.new.side (Some c.asked-more.new.side) st (DoneOnBoth st c.args.command.now)) c.in-Broken.is (c.in-Ok-said.ensures.faults inquiry (λ e. cc)) (c.in-Err-more.ensures.meant b)

pub returns-in-NoMemory-clause-meant : goal.returns-in-NoMemory-clause-meant
returns-in-NoMemory-clause-meant g c = λ b hs st there ready inquiry.
    second_wanted b g.L.Link.conduct (g.L.Link.world c.args.talk.now.memory.below.below.below.link) (g.L.Link.world c.asked-said.new.talk.memory.below.below.below.link) c.args.first.now c.asked-said.new.side c.args.second.now c.asked-said.ensures.which c.args.command.now inquiry
    hs st there ready (g.L.Link.faults c.args.talk.now.memory.below.below.below.link) (g.L.Link.faults c.asked-said.new.talk.memory.below.below.below.link) c.in-Ok-said.text (c.in-Ok-said.ensures.meant b)
    (g.L.Link.world c.asked-more.new.talk.memory.below.below.below.link) (g.L.Link.faults c.asked-more.new.talk.memory.below.below.below.link) (g.L.Link.faults c.given_up.new.talk.memory.below.below.below.link) c.given_up.result
    (λ text. SaidAll b g.L.Link.conduct (g.L.Link.world c.given_up.new.talk.memory.below.below.below.link) c.given_up.new.first (Some c.asked-more.new.side) st (DoneOnBoth st c.args.command.now) text)
    (NotAll b g.L.Link.conduct (g.L.Link.world c.given_up.new.talk.memory.below.below.below.link) c.given_up.new.first (Some c.asked-more.new.side) st (DoneOnBoth st c.args.command.now))
    (λ h beside. Stands b g.L.Link.conduct c.asked-said.new.side.which (g.L.Link.world c.given_up.new.talk.memory.below.below.below.link) (undone_host c.args.command.now (byte_of c.asked-said.new.side.machine) (drop (length c.in-Ok.before.items) c.asked-said.new.side.row.breaks.items) c.args.words.now h) beside)
    (λ sets. omega (arith, c.asked-said.ensures.bare (sets_bare c.args.command.now sets), c.asked-more.ensures.bare (sets_bare c.args.command.now sets)))
    (λ h beside x sets. c.in-Err-more.ensures.wanting b h beside x (sets_bare c.args.command.now sets) (ap (λ y. Err y) c.in-NoMemory.is)) (λ h beside x same. c.given_up.ensures.meant b h beside x same) (λ n. (c.given_up.ensures.other n).0)

pub returns-in-NoMemory-clause-stays : goal.returns-in-NoMemory-clause-stays
returns-in-NoMemory-clause-stays g c = λ b hs st there ready runs read is.
    let none : c.given_up.result ≡ NoMemory = undone_wants (List ℕ) c.given_up.result c.given_up.ensures.failure is in
    let now = c.args.command.now in
    let first = c.args.first.now in
    let o = (g.L.Link.world c.args.talk.now.memory.below.below.below.link) in
    let o1 = (g.L.Link.world c.asked-said.new.talk.memory.below.below.below.link) in
    let o2 = (g.L.Link.world c.asked-more.new.talk.memory.below.below.below.link) in
    let o3 = (g.L.Link.world c.given_up.new.talk.memory.below.below.below.link) in
    let words : first.row.step_words.items ≡ [] = none_mapped (row_in first.inquiry.core.store) first.row.step_words.items (sym ready.ready.0.planted.words ∙ no_words st.state (debugged first hs.first) st.first ready.still ready.sides.first) in
    let same : c.given_up.new.first ≡ record first { inquiry = c.asked-said.new.side.inquiry; row = record first.row { breaks = c.given_up.new.first.row.breaks }; frame = c.given_up.new.first.frame } =
    c.given_up.ensures.same ∙ ap (λ (z : SideRecord). record z { row = record z.row { breaks = c.given_up.new.first.row.breaks }; frame = c.given_up.new.first.frame }) c.asked-said.ensures.same in
    let breaks : c.given_up.new.first.row.breaks.items ≡ first.row.breaks.items = c.given_up.ensures.breaks ∙ (c.in-Ok.ensures.items ∙ c.as_slice.ensures.value) in
    let one : Stands b g.L.Link.conduct first.which o3 hs.first hs.second → StaysOne b g.L.Link.conduct o3 c.given_up.new.first hs.first hs.second st.first =
    λ stands. one_stays b g.L.Link.conduct o o3 first hs.first hs.second there.first_there c.asked-said.new.side.inquiry c.given_up.new.first.row.breaks c.given_up.new.first.frame breaks (c.asked-said.ensures.table runs) stands st.first ready.ready.0.stands
    (no_words st.state (debugged first hs.first) st.first ready.still ready.sides.first) words c.given_up.ensures.frame c.given_up.new.first same in
    let more : (h : Host) (beside : Option Host) (a : SideState) → IsThere b g.L.Link.conduct o1 c.args.second.now h beside → IsReady (debugged c.args.second.now h) a → a.step_words ≡ [] → StaysOne b g.L.Link.conduct o2 c.asked-more.new.side h beside a =
    λ h beside a x y n. c.in-Err-more.ensures.stays b h beside a x y n runs (subst (λ (z : AskFault). IsUndone {A = List ℕ} (Err z)) (sym c.in-NoMemory.is) tt) in
    alone_or now runs
    (λ sets.
    let asks = c.in-Ok-said.ensures.meant b hs.first hs.second st.first there.first_there ready.ready.0 (no_words st.state (debugged first hs.first) st.first ready.still ready.sides.first) (sets_inquiry now sets) in
    given_again b g.L.Link.conduct st ready.still o o1 o2 o3 first c.asked-said.new.side c.given_up.new.first c.args.second.now c.asked-more.new.side hs there ready c.asked-said.ensures.which c.given_up.ensures.which c.asked-more.ensures.which asks.asked.host asks.asked.there more
    (λ y. one
    (first_back b g.L.Link.conduct o o1 first c.asked-said.new.side c.args.second.now c.asked-said.ensures.which now (sets_inquiry now sets) hs st there ready (g.L.Link.faults c.args.talk.now.memory.below.below.below.link) (g.L.Link.faults c.asked-said.new.talk.memory.below.below.below.link) c.in-Ok-said.text (c.in-Ok-said.ensures.meant b) sets o2 o3 (g.L.Link.faults c.asked-more.new.talk.memory.below.below.below.link) (g.L.Link.faults c.given_up.new.talk.memory.below.below.below.link) c.given_up.result c.in-Ok.before.items
    c.args.words.now (λ h beside x k. c.given_up.ensures.meant b h beside x k) (c.in-Ok.ensures.items ∙ c.as_slice.ensures.value) read none asks y)))
    (λ n look.
    given_again b g.L.Link.conduct st ready.still o o1 o2 o3 first c.asked-said.new.side c.given_up.new.first c.args.second.now c.asked-more.new.side hs there ready c.asked-said.ensures.which c.given_up.ensures.which c.asked-more.ensures.which hs.first
    (c.in-Ok-said.ensures.looked b hs.first hs.second there.first_there look) more
    (λ y. one
    (subst (λ (z : _). Stands b g.L.Link.conduct first.which (g.L.Link.world z.memory.below.below.below.link) hs.first hs.second) (sym (c.given_up.ensures.other n).1)
    (subst (λ (w : Side). Stands b g.L.Link.conduct w o2 hs.first hs.second) c.asked-said.ensures.which y))))

pub returns-in-Err-said-clause-stays : goal.returns-in-Err-said-clause-stays
returns-in-Err-said-clause-stays g c = λ b hs st there ready runs read is.
    let w = c.undone.ensures.other (alone_no_text c.args.command.now runs) in
    let first = c.args.first.now in
    let again = first_wanted b g.L.Link.conduct st ready.still (g.L.Link.world c.args.talk.now.memory.below.below.below.link) (g.L.Link.world c.asked-said.new.talk.memory.below.below.below.link) first c.asked-said.new.side (Some c.args.second.now) hs there ready.sides c.asked-said.ensures.which
    (c.in-Err-said.ensures.stays b hs.first hs.second st.first there.first_there ready.ready.0 (no_words st.state (debugged first hs.first) st.first ready.still ready.sides.first) runs (subst (λ (z : AskFault). IsUndone {A = List ℕ} (Err z)) w.0 is)) in
    subst (λ (z : SideRecord). StandAgain WithTable b g.L.Link.conduct (g.L.Link.world c.undone.new.talk.memory.below.below.below.link) c.asked-said.new.side (Some z) st) (sym w.1)
    (subst (λ (z : _). StandAgain WithTable b g.L.Link.conduct (g.L.Link.world z.memory.below.below.below.link) c.asked-said.new.side (Some c.args.second.now) st) (sym w.2) again)

pub returns-in-Err-clause-stays : goal.returns-in-Err-clause-stays
returns-in-Err-clause-stays g c = λ b hs st there ready runs read is. stands_same WithTable same_with b g.L.Link.conduct (g.L.Link.world c.args.talk.now.memory.below.below.below.link) c.args.first.now (Some c.args.second.now) hs st there ready.sides

-- ---- the link's count, and what stores nothing

pub returns-in-Err-said-clause-count : goal.returns-in-Err-said-clause-count
returns-in-Err-said-clause-count g c =
    undone_counts (g.L.Link.faults c.args.talk.now.memory.below.below.below.link) (g.L.Link.faults c.asked-said.new.talk.memory.below.below.below.link) (g.L.Link.faults c.undone.new.talk.memory.below.below.below.link) c.in-Err-said.fault c.undone.result c.in-Err-said.ensures.count (λ is. let w = c.undone.ensures.failed is in (w.0, ap (λ o. g.L.Link.faults o.memory.below.below.below.link) w.2)) c.undone.ensures.count

pub returns-in-Err-said-clause-looked : goal.returns-in-Err-said-clause-looked
returns-in-Err-said-clause-looked g c = λ b hs there look.
    let w = c.undone.ensures.other (look_no_text c.args.command.now look) in
    subst (λ (e : AskFault). FailsWell (g.L.Link.faults c.args.talk.now.memory.below.below.below.link) (g.L.Link.faults c.undone.new.talk.memory.below.below.below.link) (Unit {0}) e) (sym w.0)
    (subst (λ (z : _). FailsWell (g.L.Link.faults c.args.talk.now.memory.below.below.below.link) (g.L.Link.faults z.memory.below.below.below.link) (Unit {0}) c.in-Err-said.fault) (sym w.2)
    (only_well (g.L.Link.faults c.args.talk.now.memory.below.below.below.link) (g.L.Link.faults c.asked-said.new.talk.memory.below.below.below.link) _ c.in-Err-said.fault (c.in-Err-said.ensures.looked b hs.first hs.second there.first_there look)))

pub returns-in-Ok-more-clause-count : goal.returns-in-Ok-more-clause-count
returns-in-Ok-more-clause-count g c = c.in-Ok-more.ensures.count ∙ c.in-Ok-said.ensures.count

pub returns-in-Refused-clause-count : goal.returns-in-Refused-clause-count
returns-in-Refused-clause-count g c = subst (λ (e : AskFault). CountsFault (g.L.Link.faults c.asked-said.new.talk.memory.below.below.below.link) (g.L.Link.faults c.asked-more.new.talk.memory.below.below.below.link) e) c.in-Refused.is c.in-Err-more.ensures.count ∙ c.in-Ok-said.ensures.count

pub returns-in-Raised-clause-count : goal.returns-in-Raised-clause-count
returns-in-Raised-clause-count g c = subst (λ (e : AskFault). CountsFault (g.L.Link.faults c.asked-said.new.talk.memory.below.below.below.link) (g.L.Link.faults c.asked-more.new.talk.memory.below.below.below.link) e) c.in-Raised.is c.in-Err-more.ensures.count ∙ c.in-Ok-said.ensures.count

pub returns-in-Spent-clause-count : goal.returns-in-Spent-clause-count
returns-in-Spent-clause-count g c = subst (λ (e : AskFault). CountsFault (g.L.Link.faults c.asked-said.new.talk.memory.below.below.below.link) (g.L.Link.faults c.asked-more.new.talk.memory.below.below.below.link) e) c.in-Spent.is c.in-Err-more.ensures.count ∙ c.in-Ok-said.ensures.count

pub returns-in-Broken-clause-count : goal.returns-in-Broken-clause-count
returns-in-Broken-clause-count g c =
    fault_on (g.L.Link.faults c.args.talk.now.memory.below.below.below.link) (g.L.Link.faults c.asked-said.new.talk.memory.below.below.below.link) (g.L.Link.faults c.asked-more.new.talk.memory.below.below.below.link) (Broken c.in-Broken.why) c.in-Ok-said.ensures.count (subst (λ (e : AskFault). CountsFault (g.L.Link.faults c.asked-said.new.talk.memory.below.below.below.link) (g.L.Link.faults c.asked-more.new.talk.memory.below.below.below.link) e) c.in-Broken.is c.in-Err-more.ensures.count)

pub returns-in-Broken-clause-looked : goal.returns-in-Broken-clause-looked
returns-in-Broken-clause-looked g c = λ b hs there look.
    let first = c.args.first.now in
    let fault = subst (λ (e : AskFault). FailsWell (g.L.Link.faults c.asked-said.new.talk.memory.below.below.below.link) (g.L.Link.faults c.asked-more.new.talk.memory.below.below.below.link) (Unit {0}) e) c.in-Broken.is
    (second_well b g.L.Link.conduct (g.L.Link.world c.args.talk.now.memory.below.below.below.link) (g.L.Link.world c.asked-said.new.talk.memory.below.below.below.link) first c.asked-said.new.side c.args.second.now hs c.asked-said.ensures.which there (c.in-Ok-said.ensures.looked b hs.first hs.second there.first_there look)
    (FailsWell (g.L.Link.faults c.asked-said.new.talk.memory.below.below.below.link) (g.L.Link.faults c.asked-more.new.talk.memory.below.below.below.link) (Unit {0}) c.in-Err-more.fault) (λ h x. only_well (g.L.Link.faults c.asked-said.new.talk.memory.below.below.below.link) (g.L.Link.faults c.asked-more.new.talk.memory.below.below.below.link) _ c.in-Err-more.fault (c.in-Err-more.ensures.looked b h (Some hs.first) x look))) in
    fails_on (g.L.Link.faults c.args.talk.now.memory.below.below.below.link) (g.L.Link.faults c.asked-said.new.talk.memory.below.below.below.link) (g.L.Link.faults c.asked-more.new.talk.memory.below.below.below.link) (Unit {0}) (Broken c.in-Broken.why) c.in-Ok-said.ensures.count fault

pub returns-in-NoMemory-clause-count : goal.returns-in-NoMemory-clause-count
returns-in-NoMemory-clause-count g c =
    let f1 = g.L.Link.faults c.asked-said.new.talk.memory.below.below.below.link in
    let f2 = g.L.Link.faults c.asked-more.new.talk.memory.below.below.below.link in
    fault_on (g.L.Link.faults c.args.talk.now.memory.below.below.below.link) f2 (g.L.Link.faults c.given_up.new.talk.memory.below.below.below.link) c.given_up.result (subst (λ (e : AskFault). CountsFault f1 f2 e) c.in-NoMemory.is c.in-Err-more.ensures.count ∙ c.in-Ok-said.ensures.count) c.given_up.ensures.count

pub returns-in-NoMemory-clause-looked : goal.returns-in-NoMemory-clause-looked
returns-in-NoMemory-clause-looked g c = λ b hs there look.
    subst (λ (e : AskFault). FailsWell (g.L.Link.faults c.args.talk.now.memory.below.below.below.link) (g.L.Link.faults c.given_up.new.talk.memory.below.below.below.link) (Unit {0}) e) (sym (c.given_up.ensures.other (look_sets c.args.command.now look)).0) tt

-- ---- a text of PostScript

pub returns-in-Err-clause-stores : goal.returns-in-Err-clause-stores
returns-in-Err-clause-stores g c = λ b hs st there ready is u. stands_same WithNumbers same_numbers b g.L.Link.conduct (g.L.Link.world c.args.talk.now.memory.below.below.below.link) c.args.first.now (Some c.args.second.now) hs st there ready.sides

pub returns-in-Err-said-clause-stores : goal.returns-in-Err-said-clause-stores
returns-in-Err-said-clause-stores g c = λ b hs st there ready is u.
    let first = c.args.first.now in
    let second = c.args.second.now in
    let o = g.L.Link.world c.args.talk.now.memory.below.below.below.link in
    let o1 = g.L.Link.world c.asked-said.new.talk.memory.below.below.below.link in
    let o2 = g.L.Link.world c.undone.new.talk.memory.below.below.below.link in
    let none = no_words st.state (debugged first hs.first) st.first ready.still ready.sides.first in
    let one : IsUnbroken c.in-Err-said.fault → StoresOne b g.L.Link.conduct o1 first c.asked-said.new.side hs.first hs.second st.first = λ unbroken. c.in-Err-said.ensures.stores b hs.first hs.second st.first there.first_there ready.ready.0 none is unbroken in
    failure_or c.in-Err-said.fault
    (λ failed.
    let w = c.undone.ensures.failed failed in
    subst (λ (z : SideRecord). StandAgain WithNumbers b g.L.Link.conduct o2 c.asked-said.new.side (Some z) st) (sym w.1)
    (subst (λ (z : _). StandAgain WithNumbers b g.L.Link.conduct (g.L.Link.world z.memory.below.below.below.link) c.asked-said.new.side (Some second) st) (sym w.2)
    (first_numbers b g.L.Link.conduct o o1 first c.asked-said.new.side c.asked-said.ensures.which st (Some second) hs there ready (one (undone_unbroken (List ℕ) c.in-Err-said.fault (subst (λ (z : AskFault). IsUndone {A = List ℕ} (Err z)) w.0 u))))))
    (λ n.
    both_numbers b g.L.Link.conduct o o1 first c.asked-said.new.side c.asked-said.ensures.which st o2 second c.undone.new.second c.undone.ensures.which
    (λ h beside a x r k. c.undone.ensures.stores b h beside a n x r k is (undone_unbroken (List ℕ) c.undone.result u)) hs there ready (one (done_unbroken c.in-Err-said.fault n)))

pub returns-in-NoMemory-clause-stores : goal.returns-in-NoMemory-clause-stores
returns-in-NoMemory-clause-stores g c = λ b hs st there ready is u.
    let first = c.args.first.now in
    let second = c.args.second.now in
    let o = g.L.Link.world c.args.talk.now.memory.below.below.below.link in
    let o1 = g.L.Link.world c.asked-said.new.talk.memory.below.below.below.link in
    let o2 = g.L.Link.world c.asked-more.new.talk.memory.below.below.below.link in
    let none = no_words st.state (debugged first hs.first) st.first ready.still ready.sides.first in
    let one = c.in-Ok-said.ensures.stores b hs.first hs.second st.first there.first_there ready.ready.0 none is tt in
    let kept = c.asked-said.ensures.query (text_query c.args.command.now is) in
    let breaks = c.given_up.ensures.breaks ∙ (c.in-Ok.ensures.items ∙ (c.as_slice.ensures.value ∙ sym kept.0)) in
    let back = stored_back b g.L.Link.conduct o1 first c.asked-said.new.side hs.first hs.second st.first c.given_up.new.first.row.breaks c.given_up.new.first.frame breaks (c.given_up.ensures.frame ∙ sym kept.1) one c.given_up.new.first c.given_up.ensures.same in
    subst (λ (z : _). StandAgain WithNumbers b g.L.Link.conduct (g.L.Link.world z.memory.below.below.below.link) c.given_up.new.first (Some c.asked-more.new.side) st) (sym (c.given_up.ensures.other (text_sets c.args.command.now is)).1)
    (both_numbers b g.L.Link.conduct o o1 first c.given_up.new.first (c.given_up.ensures.which ∙ c.asked-said.ensures.which) st o2 second c.asked-more.new.side c.asked-more.ensures.which
    (λ h beside a x r k. c.in-Err-more.ensures.stores b h beside a x r k is (subst (λ (z : AskFault). IsUnbroken z) (sym c.in-NoMemory.is) tt)) hs there ready back)

-- ---- what is done, and stores nothing

pub returns-in-Ok-more-clause-leaves : goal.returns-in-Ok-more-clause-leaves
returns-in-Ok-more-clause-leaves g c = λ b hs st there ready look query.
    both_look b g.L.Link.conduct (g.L.Link.world c.args.talk.now.memory.below.below.below.link) (g.L.Link.world c.asked-said.new.talk.memory.below.below.below.link) (g.L.Link.world c.asked-more.new.talk.memory.below.below.below.link) c.args.first.now c.asked-said.new.side c.args.second.now c.asked-more.new.side hs st there ready
    (record { which = c.asked-said.ensures.which; same = c.asked-said.ensures.same; kept = c.asked-said.ensures.query query; table = c.asked-said.ensures.table (look_alone c.args.command.now look) })
    (record { which = c.asked-more.ensures.which; same = c.asked-more.ensures.same; kept = c.asked-more.ensures.query query; table = c.asked-more.ensures.table (look_alone c.args.command.now look) })
    (c.in-Ok-said.ensures.looked b hs.first hs.second there.first_there look)
    (λ h beside x. c.in-Ok-more.ensures.looked b h beside x look)

pub returns-in-Refused-clause-leaves : goal.returns-in-Refused-clause-leaves
returns-in-Refused-clause-leaves g c = λ b hs st there ready look query.
    both_look b g.L.Link.conduct (g.L.Link.world c.args.talk.now.memory.below.below.below.link) (g.L.Link.world c.asked-said.new.talk.memory.below.below.below.link) (g.L.Link.world c.asked-more.new.talk.memory.below.below.below.link) c.args.first.now c.asked-said.new.side c.args.second.now c.asked-more.new.side hs st there ready
    (record { which = c.asked-said.ensures.which; same = c.asked-said.ensures.same; kept = c.asked-said.ensures.query query; table = c.asked-said.ensures.table (look_alone c.args.command.now look) })
    (record { which = c.asked-more.ensures.which; same = c.asked-more.ensures.same; kept = c.asked-more.ensures.query query; table = c.asked-more.ensures.table (look_alone c.args.command.now look) })
    (c.in-Ok-said.ensures.looked b hs.first hs.second there.first_there look)
    (λ h beside x. well_there (g.L.Link.faults c.asked-said.new.talk.memory.below.below.below.link) (g.L.Link.faults c.asked-more.new.talk.memory.below.below.below.link) _ c.in-Err-more.fault (subst (λ (e : AskFault). IsFailure e → ⊥) (sym c.in-Refused.is) (λ n. n)) (c.in-Err-more.ensures.looked b h beside x look))

pub returns-in-Raised-clause-leaves : goal.returns-in-Raised-clause-leaves
returns-in-Raised-clause-leaves g c = λ b hs st there ready look query.
    both_look b g.L.Link.conduct (g.L.Link.world c.args.talk.now.memory.below.below.below.link) (g.L.Link.world c.asked-said.new.talk.memory.below.below.below.link) (g.L.Link.world c.asked-more.new.talk.memory.below.below.below.link) c.args.first.now c.asked-said.new.side c.args.second.now c.asked-more.new.side hs st there ready
    (record { which = c.asked-said.ensures.which; same = c.asked-said.ensures.same; kept = c.asked-said.ensures.query query; table = c.asked-said.ensures.table (look_alone c.args.command.now look) })
    (record { which = c.asked-more.ensures.which; same = c.asked-more.ensures.same; kept = c.asked-more.ensures.query query; table = c.asked-more.ensures.table (look_alone c.args.command.now look) })
    (c.in-Ok-said.ensures.looked b hs.first hs.second there.first_there look)
    (λ h beside x. well_there (g.L.Link.faults c.asked-said.new.talk.memory.below.below.below.link) (g.L.Link.faults c.asked-more.new.talk.memory.below.below.below.link) _ c.in-Err-more.fault (subst (λ (e : AskFault). IsFailure e → ⊥) (sym c.in-Raised.is) (λ n. n)) (c.in-Err-more.ensures.looked b h beside x look))

pub returns-in-Spent-clause-leaves : goal.returns-in-Spent-clause-leaves
returns-in-Spent-clause-leaves g c = λ b hs st there ready look query.
    both_look b g.L.Link.conduct (g.L.Link.world c.args.talk.now.memory.below.below.below.link) (g.L.Link.world c.asked-said.new.talk.memory.below.below.below.link) (g.L.Link.world c.asked-more.new.talk.memory.below.below.below.link) c.args.first.now c.asked-said.new.side c.args.second.now c.asked-more.new.side hs st there ready
    (record { which = c.asked-said.ensures.which; same = c.asked-said.ensures.same; kept = c.asked-said.ensures.query query; table = c.asked-said.ensures.table (look_alone c.args.command.now look) })
    (record { which = c.asked-more.ensures.which; same = c.asked-more.ensures.same; kept = c.asked-more.ensures.query query; table = c.asked-more.ensures.table (look_alone c.args.command.now look) })
    (c.in-Ok-said.ensures.looked b hs.first hs.second there.first_there look)
    (λ h beside x. well_there (g.L.Link.faults c.asked-said.new.talk.memory.below.below.below.link) (g.L.Link.faults c.asked-more.new.talk.memory.below.below.below.link) _ c.in-Err-more.fault (subst (λ (e : AskFault). IsFailure e → ⊥) (sym c.in-Spent.is) (λ n. n)) (c.in-Err-more.ensures.looked b h beside x look))
