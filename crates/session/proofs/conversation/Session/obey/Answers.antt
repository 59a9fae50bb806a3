use Rattle.std.proofs.Common.{rules, ◌≡◌, ◌∙◌, ap, sym, refl, subst, inl, inr, codes, decimal, ℕ, List, [], ◌∷◌, ◌++◌, Option, None, Some, Ok}
use Rattle.c_session.specs.declared.command.Command.{Command}
use Rattle.c_session.specs.declared.command.Command.TheVariants as command
use Rattle.c_session.specs.Commands.{ByStep, ByContinue}
use Rattle.claims.specs.Outcome.{refused_by_state, AnswersCommand}
use Rattle.session.specs.Answered.{state_of, reason_of, refusal_reply, limit_reply, Replies}
use Rattle.session.specs.Meant.{AnswersAs, MeantAnswers, ResumesAs, SaidAll, NotAll, IsExpression}
use Rattle.session.specs.declared.sides.SideRecord.{SideRecord}
use Rattle.session.specs.declared.answers.Answer.TheVariants.{NoMemory}
use Rattle.session.specs.Counted.{CountsAnswer, CountsAsk}
use Rattle.session.specs.declared.modes.Mode.{Mode}
use Rattle.session.specs.Wanting.{LeavesIfAny, WithTable, RepresentsAgain, StandAgain}
use Rattle.session.proofs.Wanting.{again_as, represents_again, represents_as, represents_same, same_leaves_if_any, leaves_if_any, table_leaves}
use Rattle.session.proofs.Tallying.{answer_is, same_counts, said_counts, asks_or, comes_well, target_told, is_inquired, only_wants, answer_again, unended}
use Rattle.session.specs.Kept.{IsKept, AreKept, TellsTrouble}
use Rattle.session.proofs.Answering.{undone_leaves, refuses, refused, unrefused, answers_to, says_lines, new_limit, limit_line, replied, left_so, askable, continue_resumes, step_resumes}
use Rattle.session.proofs.Ending.{said_so, answers_else, lines_else, none_else, refusal_else, limit_else, resume_ends, said_ends}
use Rattle.session.proofs.conversation.Session.obey.Goals as goal

pub returns-in-Some-clause-meant : goal.returns-in-Some-clause-meant
returns-in-Some-clause-meant g c = λ b hs st steady x said some.
    let now = c.args.self.now in
    let cmd = c.args.command.now in
    let u = reason_of c.in-Some.why in
    let f = g.L.Link.faults now.talk.memory.below.below.below.link in
    let e = ap (λ s. refused_by_state s cmd) x.state ∙ sym c.in-Some.ensures in
    refuses b g.L.Link.conduct (g.L.Link.world now.talk.memory.below.below.below.link) now.first now.second now.mode now.limit hs st (g.O.Sink.taken c.args.out.now) (g.O.Sink.taken c.args.out.now) refl (MeantAnswers b st (Some cmd)) u f f now.broken (Ok c.answer.result) x (refused b st cmd u e) (search rules)

pub returns-in-Continue-clause-meant : goal.returns-in-Continue-clause-meant
returns-in-Continue-clause-meant g c = λ b hs st steady x said some.
    let now = c.args.self.now in
    let new = c.resume.new.self in
    let cmd = c.args.command.now in
    let is = c.in-Continue.is in
    let e = ap (λ s. refused_by_state s cmd) x.state ∙ sym c.in_default.ensures in
    let e1 = subst (λ d. refused_by_state st.state d ≡ None) is e in
    answers_to b g.L.Link.conduct (g.L.Link.world new.talk.memory.below.below.below.link) new.first new.second new.mode new.limit st (g.O.Sink.taken c.args.out.now) (g.O.Sink.taken c.resume.new.out) (ResumesAs b ByContinue st) (MeantAnswers b st (Some cmd))
    (λ reply st' h. subst (λ d. MeantAnswers b st (Some d) reply st') (sym is) (unrefused b st command.Continue e1 reply st' h)) (g.L.Link.faults now.talk.memory.below.below.below.link) (g.L.Link.faults new.talk.memory.below.below.below.link) now.broken c.resume.result
    (c.resume.ensures.meant b hs st steady x (continue_resumes st.state e1))

pub returns-in-Step-clause-meant : goal.returns-in-Step-clause-meant
returns-in-Step-clause-meant g c = λ b hs st steady x said some.
    let now = c.args.self.now in
    let new = c.resume-in-Step.new.self in
    let cmd = c.args.command.now in
    let is = c.in-Step.is in
    let e = ap (λ s. refused_by_state s cmd) x.state ∙ sym c.in_default.ensures in
    let e1 = subst (λ d. refused_by_state st.state d ≡ None) is e in
    answers_to b g.L.Link.conduct (g.L.Link.world new.talk.memory.below.below.below.link) new.first new.second new.mode new.limit st (g.O.Sink.taken c.args.out.now) (g.O.Sink.taken c.resume-in-Step.new.out) (ResumesAs b ByStep st) (MeantAnswers b st (Some cmd))
    (λ reply st' h. subst (λ d. MeantAnswers b st (Some d) reply st') (sym is) (unrefused b st command.Step e1 reply st' h)) (g.L.Link.faults now.talk.memory.below.below.below.link) (g.L.Link.faults new.talk.memory.below.below.below.link) now.broken c.resume-in-Step.result
    (c.resume-in-Step.ensures.meant b hs st steady x (step_resumes st.state e1))

pub returns-in-Turns-clause-meant : goal.returns-in-Turns-clause-meant
returns-in-Turns-clause-meant g c = λ b hs st steady x said some.
    let now = c.args.self.now in
    let cmd = c.args.command.now in
    let n = c.in-Turns.limit in
    let is = c.in-Turns.is in
    let e = ap (λ s. refused_by_state s cmd) x.state ∙ sym c.in_default.ensures in
    let e1 = subst (λ d. refused_by_state st.state d ≡ None) is e in
    let out = g.O.Sink.taken c.args.out.now in
    let o = g.L.Link.world now.talk.memory.below.below.below.link in
    let lines = (codes "limit " ++ decimal n) ∷ [] in
    let says = subst (λ d. MeantAnswers b st (Some d) lines (record st { limit = n })) (sym is) (unrefused b st (command.Turns n) e1 lines (record st { limit = n }) (inl (refl, refl))) in
    let t = says_lines b g.L.Link.conduct o now.first now.second now.mode now.limit hs st out out refl (MeantAnswers b st (Some cmd)) (limit_reply n) lines n (new_limit b g.L.Link.conduct o now.first now.second now.mode now.limit n hs st x) says (limit_line n) in
    let f = g.L.Link.faults now.talk.memory.below.below.below.link in
    let M = MeantAnswers b st (Some cmd) in
    elim c.set_limit.ensures [
      | inl h ↦ subst (λ s. AnswersAs b g.L.Link.conduct (g.L.Link.world s.talk.memory.below.below.below.link) s.first s.second s.mode s.limit st out out M f (g.L.Link.faults s.talk.memory.below.below.below.link) now.broken (Ok c.set_limit.result)) (sym h.1)
          (subst (λ a. AnswersAs b g.L.Link.conduct o now.first now.second now.mode n st out out M f f now.broken (Ok a)) (sym h.0) (inr t))
      | inr h ↦ subst (λ s. AnswersAs b g.L.Link.conduct (g.L.Link.world s.talk.memory.below.below.below.link) s.first s.second s.mode s.limit st out out M f (g.L.Link.faults s.talk.memory.below.below.below.link) now.broken (Ok c.set_limit.result)) (sym h.1)
          (subst (λ a. AnswersAs b g.L.Link.conduct o now.first now.second now.mode now.limit st out out M f f now.broken (Ok a)) (sym h.0) tt)
    ]

pub returns-in_default-command-clause-meant : goal.returns-in_default-command-clause-meant
returns-in_default-command-clause-meant g c = λ b hs st steady x said some.
    let now = c.args.self.now in
    let mid = c.inquire-said.new.self in
    let new = c.reply.new.self in
    let cmd = c.args.command.now in
    let d = c.in_default-command in
    let e = ap (λ s. refused_by_state s cmd) x.state ∙ sym c.in_default.ensures in
    let out = g.O.Sink.taken c.args.out.now in
    let o = g.L.Link.world mid.talk.memory.below.below.below.link in
    let o1 = g.L.Link.world new.talk.memory.below.below.below.link in
    let f = g.L.Link.faults now.talk.memory.below.below.below.link in
    let f1 = g.L.Link.faults mid.talk.memory.below.below.below.link in
    let f2 = g.L.Link.faults new.talk.memory.below.below.below.link in
    let came = c.inquire-said.ensures.meant b hs st x e (askable cmd said d.not-Continue d.not-Step d.not-Turns some) in
    let t = replied b g.L.Link.conduct o mid.first mid.second mid.limit st (AnswersCommand b st cmd) out out refl (x.limit_is ∙ sym c.inquire-said.ensures.limit) (λ t. t) c.inquire-said.result mid.broken mid.mode new.mode f f1 c.reply.result (x.state ∙ ap (λ m. state_of m) (sym c.inquire-said.ensures.mode)) came c.reply.ensures.ok c.reply.ensures.fault in
    let u = left_so b g.L.Link.conduct new.mode st out out (AnswersCommand b st cmd) f mid.broken (Ok c.reply.result) o o1 mid.first new.first mid.second new.second mid.limit new.limit f1 f2 (ap (λ o. g.L.Link.world o.memory.below.below.below.link) c.reply.ensures.talk) c.reply.ensures.first c.reply.ensures.second c.reply.ensures.limit
    (ap (λ o. g.L.Link.faults o.memory.below.below.below.link) c.reply.ensures.talk) t in
    answers_to b g.L.Link.conduct o1 new.first new.second new.mode new.limit st out out (AnswersCommand b st cmd) (MeantAnswers b st (Some cmd)) (unrefused b st cmd e) f f2 now.broken (Ok c.reply.result)
    (subst (λ (z : List ℕ). AnswersAs b g.L.Link.conduct o1 new.first new.second new.mode new.limit st out out (AnswersCommand b st cmd) f f2 z (Ok c.reply.result)) c.inquire-said.ensures.broken u)

pub returns-in_default-command-clause-undone : goal.returns-in_default-command-clause-undone
returns-in_default-command-clause-undone g c = λ n s q told.
    let now = c.args.self.now in
    let mid = c.inquire-said.new.self in
    let new = c.reply.new.self in
    let kept =
    undone_leaves (IsKept now.first mid.first × AreKept now.second mid.second) c.args.command.now mid.broken mid.mode new.mode c.reply.result c.inquire-said.ensures.query (subst (λ (z : List ℕ). TellsTrouble z (Ok c.reply.result)) (sym c.inquire-said.ensures.broken) told)
    c.inquire-said.result n s q c.inquire-said.ensures.word c.reply.ensures.ok c.reply.ensures.fault c.inquire-said.ensures.kept in
    (subst (λ (z : SideRecord). IsKept now.first z) (sym c.reply.ensures.first) kept.0, subst (λ (z : Option SideRecord). AreKept now.second z) (sym c.reply.ensures.second) kept.1)

-- ---- the link's count, and what is answered without memory

pub returns-in-Some-clause-count : goal.returns-in-Some-clause-count
returns-in-Some-clause-count g c = same_counts (g.L.Link.faults c.args.self.now.talk.memory.below.below.below.link) (g.L.Link.faults c.args.self.now.talk.memory.below.below.below.link) c.args.self.now.broken c.args.self.now.mode c.answer.result refl

pub returns-in-Some-clause-stays : goal.returns-in-Some-clause-stays
returns-in-Some-clause-stays g c = λ b hs st x q is m.
    let now = c.args.self.now in
    let cmd = c.args.command.now in
    represents_same (LeavesIfAny (Some cmd) (Ok c.answer.result)) (λ a. same_leaves_if_any (Some cmd) (Ok c.answer.result) a) b g.L.Link.conduct (g.L.Link.world now.talk.memory.below.below.below.link) now.first now.second now.mode now.limit hs st x

pub returns-in-Continue-clause-stays : goal.returns-in-Continue-clause-stays
returns-in-Continue-clause-stays g c = λ b hs st x q is m.
    let cmd = c.args.command.now in
    let e = ap (λ s. refused_by_state s cmd) x.state ∙ sym c.in_default.ensures in
    let new = c.resume.new.self in
    represents_as WithTable (LeavesIfAny (Some cmd) c.resume.result) (λ a a' h. leaves_if_any cmd c.resume.result a a' (table_leaves cmd a a' h)) b g.L.Link.conduct (g.L.Link.world new.talk.memory.below.below.below.link) new.first new.second new.mode new.limit st
    (c.resume.ensures.stays b hs st x (continue_resumes st.state (subst (λ d. refused_by_state st.state d ≡ None) c.in-Continue.is e)) (only_wants cmd c.resume.result (λ h. subst IsExpression c.in-Continue.is h) is))

pub returns-in-Continue-clause-target : goal.returns-in-Continue-clause-target
returns-in-Continue-clause-target g c = λ b hs st x n m q. absurd (n c.in-Continue.is)

pub returns-in-Step-clause-stays : goal.returns-in-Step-clause-stays
returns-in-Step-clause-stays g c = λ b hs st x q is m.
    let cmd = c.args.command.now in
    let e = ap (λ s. refused_by_state s cmd) x.state ∙ sym c.in_default.ensures in
    let new = c.resume-in-Step.new.self in
    represents_as WithTable (LeavesIfAny (Some cmd) c.resume-in-Step.result) (λ a a' h. leaves_if_any cmd c.resume-in-Step.result a a' (table_leaves cmd a a' h)) b g.L.Link.conduct (g.L.Link.world new.talk.memory.below.below.below.link) new.first new.second new.mode new.limit st
    (c.resume-in-Step.ensures.stays b hs st x (step_resumes st.state (subst (λ d. refused_by_state st.state d ≡ None) c.in-Step.is e)) (only_wants cmd c.resume-in-Step.result (λ h. subst IsExpression c.in-Step.is h) is))

pub returns-in-Step-clause-target : goal.returns-in-Step-clause-target
returns-in-Step-clause-target g c = λ b hs st x n m q. absurd (m c.in-Step.is)

pub returns-in-Turns-clause-stays : goal.returns-in-Turns-clause-stays
returns-in-Turns-clause-stays g c = λ b hs st x q is m.
    let now = c.args.self.now in
    let cmd = c.args.command.now in
    let P = LeavesIfAny (Some cmd) (Ok c.set_limit.result) in
    let wants = answer_is c.set_limit.result NoMemory (only_wants cmd (Ok c.set_limit.result) (λ h. subst IsExpression c.in-Turns.is h) is) in
    elim c.set_limit.ensures [
      | inl h ↦ absurd (let e = sym h.0 ∙ wants in cc)
      | inr h ↦ subst (λ s. RepresentsAgain P b g.L.Link.conduct (g.L.Link.world s.talk.memory.below.below.below.link) s.first s.second s.mode s.limit st) (sym h.1)
          (represents_same P (λ a. same_leaves_if_any (Some cmd) (Ok c.set_limit.result) a) b g.L.Link.conduct (g.L.Link.world now.talk.memory.below.below.below.link) now.first now.second now.mode now.limit hs st x)
    ]

pub returns-in-Turns-clause-target : goal.returns-in-Turns-clause-target
returns-in-Turns-clause-target g c = λ b hs st x n m q. elim c.set_limit.ensures [ inl h ↦ inl (ap (λ s. s.mode) h.1) | inr h ↦ inl (ap (λ s. s.mode) h.1) ]

pub returns-in-Turns-clause-count : goal.returns-in-Turns-clause-count
returns-in-Turns-clause-count g c =
    let now = c.args.self.now in
    same_counts (g.L.Link.faults now.talk.memory.below.below.below.link) (g.L.Link.faults c.set_limit.new.self.talk.memory.below.below.below.link) now.broken c.set_limit.new.self.mode c.set_limit.result
    (elim c.set_limit.ensures [ inl h ↦ ap (λ s. g.L.Link.faults s.talk.memory.below.below.below.link) h.1 | inr h ↦ ap (λ s. g.L.Link.faults s.talk.memory.below.below.below.link) h.1 ])

pub returns-in_default-command-clause-count : goal.returns-in_default-command-clause-count
returns-in_default-command-clause-count g c =
    let now = c.args.self.now in
    let mid = c.inquire-said.new.self in
    let new = c.reply.new.self in
    subst (λ (z : List ℕ). CountsAnswer (g.L.Link.faults now.talk.memory.below.below.below.link) (g.L.Link.faults new.talk.memory.below.below.below.link) z new.mode (Ok c.reply.result)) c.inquire-said.ensures.broken
    (said_counts (g.L.Link.faults now.talk.memory.below.below.below.link) (g.L.Link.faults new.talk.memory.below.below.below.link) mid.broken new.mode mid.mode c.inquire-said.result c.reply.result
    (subst (λ (n : ℕ). CountsAsk (g.L.Link.faults now.talk.memory.below.below.below.link) n c.inquire-said.result) (ap (λ o. g.L.Link.faults o.memory.below.below.below.link) (sym c.reply.ensures.talk)) c.inquire-said.ensures.count) c.reply.ensures.fault)

pub returns-in_default-command-clause-target : goal.returns-in_default-command-clause-target
returns-in_default-command-clause-target g c = λ b hs st x n m q.
    let now = c.args.self.now in
    let mid = c.inquire-said.new.self in
    let new = c.reply.new.self in
    let cmd = c.args.command.now in
    let d = c.in_default-command in
    let e = ap (λ s. refused_by_state s cmd) x.state ∙ sym c.in_default.ensures in
    let link = ap (λ o. g.L.Link.faults o.memory.below.below.below.link) c.reply.ensures.talk in
    asks_or cmd d.not-Continue d.not-Step d.not-Turns q
    (λ askable. target_told (g.L.Link.faults now.talk.memory.below.below.below.link) (g.L.Link.faults mid.talk.memory.below.below.below.link) (g.L.Link.faults new.talk.memory.below.below.below.link) mid.broken now.mode mid.mode new.mode c.inquire-said.result c.reply.result link c.inquire-said.ensures.mode (comes_well (g.L.Link.faults now.talk.memory.below.below.below.link) (g.L.Link.faults mid.talk.memory.below.below.below.link) (λ text. SaidAll b g.L.Link.conduct (g.L.Link.world mid.talk.memory.below.below.below.link) mid.first mid.second st (AnswersCommand b st cmd) text) (NotAll b g.L.Link.conduct (g.L.Link.world mid.talk.memory.below.below.below.link) mid.first mid.second st (AnswersCommand b st cmd)) c.inquire-said.result (c.inquire-said.ensures.meant b hs st x e askable)) c.reply.ensures.ok c.reply.ensures.fault)
    (λ expression. target_told (g.L.Link.faults now.talk.memory.below.below.below.link) (g.L.Link.faults mid.talk.memory.below.below.below.link) (g.L.Link.faults new.talk.memory.below.below.below.link) mid.broken now.mode mid.mode new.mode c.inquire-said.result c.reply.result link c.inquire-said.ensures.mode (c.inquire-said.ensures.evaluated b hs st x e expression) c.reply.ensures.ok c.reply.ensures.fault)

pub returns-in_default-command-clause-stays : goal.returns-in_default-command-clause-stays
returns-in_default-command-clause-stays g c = λ b hs st x q is m.
    let now = c.args.self.now in
    let mid = c.inquire-said.new.self in
    let new = c.reply.new.self in
    let cmd = c.args.command.now in
    let d = c.in_default-command in
    let P = LeavesIfAny (Some cmd) (Ok c.reply.result) in
    let e = ap (λ s. refused_by_state s cmd) x.state ∙ sym c.in_default.ensures in
    let o = g.L.Link.world mid.talk.memory.below.below.below.link in
    let goes = unended mid.mode cmd q (subst (λ (z : Mode). refused_by_state (state_of z) cmd ≡ None) (sym c.inquire-said.ensures.mode) (sym c.in_default.ensures)) in
    let again = answer_again cmd (λ Q. StandAgain Q b g.L.Link.conduct o mid.first mid.second st) (λ Q R to s. again_as Q R to b g.L.Link.conduct o mid.first mid.second st s) mid.broken mid.mode new.mode (m ∙ sym c.inquire-said.ensures.mode) goes c.reply.result
    c.inquire-said.result (λ u. c.inquire-said.ensures.stays b hs st x e (is_inquired cmd d.not-Continue d.not-Step d.not-Turns q) u) (λ expression. c.inquire-said.ensures.leaves b hs st x e expression) c.reply.ensures.ok c.reply.ensures.fault is in
    represents_again P b g.L.Link.conduct (g.L.Link.world new.talk.memory.below.below.below.link) new.first new.second new.mode new.limit st (x.state ∙ ap (λ z. state_of z) (sym m)) (x.limit_is ∙ sym (c.reply.ensures.limit ∙ c.inquire-said.ensures.limit))
    (subst (λ z. StandAgain P b g.L.Link.conduct (g.L.Link.world z.memory.below.below.below.link) new.first new.second st) (sym c.reply.ensures.talk)
    (subst (λ z. StandAgain P b g.L.Link.conduct o z new.second st) (sym c.reply.ensures.first) (subst (λ z. StandAgain P b g.L.Link.conduct o mid.first z st) (sym c.reply.ensures.second) again)))

-- ---- what the writes leave, and what ends the session

pub returns-in-Some-clause-leads : goal.returns-in-Some-clause-leads
returns-in-Some-clause-leads g c = g.met.O.Sink.stays c.args.out.now

pub returns-in-Turns-clause-leads : goal.returns-in-Turns-clause-leads
returns-in-Turns-clause-leads g c = g.met.O.Sink.stays c.args.out.now

pub returns-in_default-command-clause-leads : goal.returns-in_default-command-clause-leads
returns-in_default-command-clause-leads g c = g.met.O.Sink.stays c.args.out.now

pub returns-in-Some-clause-ends : goal.returns-in-Some-clause-ends
returns-in-Some-clause-ends g c = λ is.
    let u = reason_of c.in-Some.why in
    let said : Replies (refusal_reply u) c.answer.result = search rules in
    absurd (answers_else (refusal_reply u) (Ok c.answer.result) said (refusal_else u) is)

pub returns-in-Continue-clause-ends : goal.returns-in-Continue-clause-ends
returns-in-Continue-clause-ends g c = λ is.
    let now = c.args.self.now in
    let new = c.resume.new.self in
    resume_ends (c.resume.new.out ≡ c.args.out.now) ByContinue now.mode new.mode now.first new.first now.second new.second now.broken c.resume.result c.resume.ensures.resumes is

pub returns-in-Step-clause-ends : goal.returns-in-Step-clause-ends
returns-in-Step-clause-ends g c = λ is.
    let now = c.args.self.now in
    let new = c.resume-in-Step.new.self in
    resume_ends (c.resume-in-Step.new.out ≡ c.args.out.now) ByStep now.mode new.mode now.first new.first now.second new.second now.broken c.resume-in-Step.result c.resume-in-Step.ensures.resumes is

pub returns-in-Turns-clause-ends : goal.returns-in-Turns-clause-ends
returns-in-Turns-clause-ends g c = λ is.
    elim c.set_limit.ensures [
      | inl h ↦ absurd (lines_else (limit_reply c.in-Turns.limit) (Ok c.set_limit.result) (ap said_so h.0) (limit_else c.in-Turns.limit) is)
      | inr h ↦ absurd (none_else c.set_limit.result h.0 is)
    ]

pub returns-in_default-command-clause-ends : goal.returns-in_default-command-clause-ends
returns-in_default-command-clause-ends g c = λ is.
    let mid = c.inquire-said.new.self in
    said_ends c.args.command.now mid.broken mid.mode c.reply.new.self.mode c.inquire-said.result c.reply.result c.inquire-said.ensures.word c.reply.ensures.ok c.reply.ensures.fault is
