use Rattle.std.proofs.Common.{◌∙◌, ap, sym, subst, ℕ, List, ◌++◌, codes, append_assoc, Option, Some}
use Rattle.nub_wire.specs.Nub.{Host}
use Rattle.session.specs.Meant.{AreThere}
use Rattle.session.proofs.AskingBoth.{still_there}
use Rattle.session.proofs.Counting.{fault_on}
use Rattle.session.proofs.Looked.{both_there}
use Rattle.session.proofs.Regs.{since, two_of, second_there, both_said}
use Rattle.session.proofs.both.registers_both.Goals as goal

pub returns-in-Err-clause-meant : goal.returns-in-Err-clause-meant
returns-in-Err-clause-meant g c = λ b hs st there sides.
    let o = g.L.Link.world c.args.talk.now.memory.below.below.below.link in
    let t = two_of b g.L.Link.conduct o c.args.first.now c.args.second.now hs st there sides in
    c.in-Err.ensures.meant b hs.first (Some t.host) st.first t.first_there t.stands.stands

pub returns-in-Err-more-clause-meant : goal.returns-in-Err-more-clause-meant
returns-in-Err-more-clause-meant g c = λ b hs st there sides.
    let o = g.L.Link.world c.args.talk.now.memory.below.below.below.link in
    let o1 = g.L.Link.world c.registers_of-said.new.talk.memory.below.below.below.link in
    let t = two_of b g.L.Link.conduct o c.args.first.now c.args.second.now hs st there sides in
    let one = c.in-Ok.ensures.meant b hs.first (Some t.host) st.first t.first_there t.stands.stands in
    let other = second_there b g.L.Link.conduct o o1 o1 c.args.first.now c.args.second.now hs st t one.0 in
    since (g.L.Link.faults c.args.talk.now.memory.below.below.below.link) (g.L.Link.faults c.registers_of-said.new.talk.memory.below.below.below.link) (g.L.Link.faults c.registers_of-more.new.talk.memory.below.below.below.link) (λ e. ⊥) c.in-Err-more.fault
    c.in-Ok.ensures.faults (c.in-Err-more.ensures.meant b t.host (Some hs.first) t.side other t.second_stands.stands)

pub returns-in-Ok-append-clause-meant : goal.returns-in-Ok-append-clause-meant
returns-in-Ok-append-clause-meant g c = λ b hs st there sides.
    let o = g.L.Link.world c.args.talk.now.memory.below.below.below.link in
    let o1 = g.L.Link.world c.registers_of-said.new.talk.memory.below.below.below.link in
    let o2 = g.L.Link.world c.registers_of-more.new.talk.memory.below.below.below.link in
    let t = two_of b g.L.Link.conduct o c.args.first.now c.args.second.now hs st there sides in
    let one = c.in-Ok.ensures.meant b hs.first (Some t.host) st.first t.first_there t.stands.stands in
    let other = second_there b g.L.Link.conduct o o1 o1 c.args.first.now c.args.second.now hs st t one.0 in
    let two = c.in-Ok-more.ensures.meant b t.host (Some hs.first) t.side other t.second_stands.stands in
    let said = both_said b g.L.Link.conduct o o1 o2 c.args.first.now c.args.second.now hs st t one.0 two.0 c.in-Ok.text c.in-Ok-more.other one.1 two.1 in
    (said.0, c.in-Ok-append.ensures.ok ∙ (ap (λ x. c.in-Ok.text ++ x) c.as_bytes.ensures ∙ said.1))

pub returns-in-Err-clause-wanting : goal.returns-in-Err-clause-wanting
returns-in-Err-clause-wanting g c = λ b hs st there sides is.
    still_there b g.L.Link.conduct (g.L.Link.world c.args.talk.now.memory.below.below.below.link) (g.L.Link.world c.registers_of-said.new.talk.memory.below.below.below.link) c.args.first.now c.args.second.now hs.first hs.second there (c.in-Err.ensures.wanting b hs.first hs.second there.first_there is).stands

pub returns-in-Err-more-clause-wanting : goal.returns-in-Err-more-clause-wanting
returns-in-Err-more-clause-wanting g c = λ b hs st there sides is.
    let o = (g.L.Link.world c.args.talk.now.memory.below.below.below.link) in
    let o1 = (g.L.Link.world c.registers_of-said.new.talk.memory.below.below.below.link) in
    let o2 = (g.L.Link.world c.registers_of-more.new.talk.memory.below.below.below.link) in
    let t = two_of b g.L.Link.conduct o c.args.first.now c.args.second.now hs st there sides in
    let one = c.in-Ok.ensures.meant b hs.first (Some t.host) st.first t.first_there t.stands.stands in
    let other = second_there b g.L.Link.conduct o o1 o1 c.args.first.now c.args.second.now hs st t one.0 in
    subst (λ (x : Option Host). AreThere b g.L.Link.conduct o2 c.args.first.now (Some c.args.second.now) (record { first = hs.first; second = x })) (sym t.host_is)
    (both_there b g.L.Link.conduct o1 o2 c.args.first.now c.args.second.now hs.first t.host (Some t.host) t.first_which t.which one.0 (c.in-Err-more.ensures.wanting b t.host (Some hs.first) other is))

pub returns-in-Err-append-clause-wanting : goal.returns-in-Err-append-clause-wanting
returns-in-Err-append-clause-wanting g c = λ b hs st there sides is.
    let o = (g.L.Link.world c.args.talk.now.memory.below.below.below.link) in
    let o1 = (g.L.Link.world c.registers_of-said.new.talk.memory.below.below.below.link) in
    let o2 = (g.L.Link.world c.registers_of-more.new.talk.memory.below.below.below.link) in
    let t = two_of b g.L.Link.conduct o c.args.first.now c.args.second.now hs st there sides in
    let one = c.in-Ok.ensures.meant b hs.first (Some t.host) st.first t.first_there t.stands.stands in
    let other = second_there b g.L.Link.conduct o o1 o1 c.args.first.now c.args.second.now hs st t one.0 in
    let two = c.in-Ok-more.ensures.meant b t.host (Some hs.first) t.side other t.second_stands.stands in
    subst (λ (x : Option Host). AreThere b g.L.Link.conduct o2 c.args.first.now (Some c.args.second.now) (record { first = hs.first; second = x })) (sym t.host_is)
    (both_there b g.L.Link.conduct o1 o2 c.args.first.now c.args.second.now hs.first t.host (Some t.host) t.first_which t.which one.0 two.0)

pub returns-in-Err-more-clause-count : goal.returns-in-Err-more-clause-count
returns-in-Err-more-clause-count g c = fault_on (g.L.Link.faults c.args.talk.now.memory.below.below.below.link) (g.L.Link.faults c.registers_of-said.new.talk.memory.below.below.below.link) (g.L.Link.faults c.registers_of-more.new.talk.memory.below.below.below.link) c.in-Err-more.fault c.in-Ok.ensures.count c.in-Err-more.ensures.count

pub returns-in-Ok-append-clause-count : goal.returns-in-Ok-append-clause-count
returns-in-Ok-append-clause-count g c = c.in-Ok-more.ensures.count ∙ c.in-Ok.ensures.count

pub returns-in-Ok-append-clause-word : goal.returns-in-Ok-append-clause-word
returns-in-Ok-append-clause-word g c =
    let w = c.in-Ok.ensures.word in
    let more = c.as_bytes.result.now in
    (w.0 ++ more, c.in-Ok-append.ensures.ok ∙ (ap (λ (t : List ℕ). t ++ more) w.1 ∙ append_assoc (codes "regs ") w.0 more))
