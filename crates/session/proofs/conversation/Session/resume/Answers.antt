use Rattle.session.specs.declared.line.Line.{Line}
use Rattle.std.proofs.Common.{rules, ◌≡◌, ℕ, List, Ok, Err, inl, inr, ap, subst, sym, refl, ◌∙◌}
use Rattle.ldb_edge.specs.Count.{Rose}
use Rattle.claims.specs.Resumes.{state_after}
use Rattle.session.specs.declared.answers.Answer.TheVariants.{Lines, NoMemory}
use Rattle.resuming.specs.Runs.{CountsRun}
use Rattle.session.specs.Counted.{CountsAnswer, CountsFault}
use Rattle.session.specs.Wanting.{WithTable, StandAgain}
use Rattle.session.proofs.Wanting.{represents_again}
use Rattle.session.proofs.Looked.{undone_as}
use Rattle.session.proofs.Tallying.{answer_is, fault_counts, talk_ends}
use Rattle.session.specs.Answered.{state_of, resume_of}
use Rattle.resuming.specs.declared.fault.RunFault.{RunFault}
use Rattle.session.specs.Meant.{AnswersAs, ResumesAs, ResumesAll}
use Rattle.session.specs.Resuming.{goes_on, event_on}
use Rattle.session.proofs.Telling.{told_line, faulted}
use Rattle.session.proofs.Answering.{troubled, left_so, may_run, may_also_run, ran, rose_from, run_failed, broken_off, cut}
use Rattle.session.proofs.conversation.Session.resume.Goals as goal

pub returns-in-Err-clause-resumes : goal.returns-in-Err-clause-resumes
returns-in-Err-clause-resumes g c =
    inr (elim (faulted c.in-Err.fault _ _ _ _ c.reply.ensures.fault) [
      | inl h ↦ inl (record { mode = h.0 ∙ c.in-Err.ensures.mode; kept = search rules; still = search rules; trouble = h.1 }, refl)
      | inr h ↦ inr (h.0, inl (ap (λ a. Ok a) h.1 ∙ ap (λ t. Ok (Lines t)) c.in-Err.ensures.broken))
    ])

pub returns-in-Err-clause-meant : goal.returns-in-Err-clause-meant
returns-in-Err-clause-meant g c = λ b hs st steady x may.
    let now = c.args.self.now in
    let ready = c.ready.new.self in
    let Says = ResumesAs b (resume_of c.args.how) st in
    let world = g.L.Link.world ready.talk.memory.below.below.below.link in
    let state = x.state ∙ ap (λ m. state_of m) (sym c.in-Err.ensures.mode) in
    let reply = c.reply.new.self in
    let out = g.O.Sink.taken c.args.out.now in
    let faults = g.L.Link.faults now.talk.memory.below.below.below.link in
    let later = g.L.Link.faults ready.talk.memory.below.below.below.link in
    let t = troubled b g.L.Link.conduct world ready.first ready.second now.limit st Says out out refl x.limit_is {A = ℕ} (λ n. ⊥) c.in-Err.fault ready.broken ready.mode reply.mode faults later c.reply.result state (c.in-Err.ensures.meant b hs st x may) c.reply.ensures.fault in
    left_so b g.L.Link.conduct reply.mode st out out Says faults now.broken (Ok c.reply.result) world (g.L.Link.world reply.talk.memory.below.below.below.link) ready.first reply.first ready.second reply.second now.limit reply.limit later (g.L.Link.faults reply.talk.memory.below.below.below.link)
    (ap (λ o. g.L.Link.world o.memory.below.below.below.link) c.reply.ensures.talk) c.reply.ensures.first c.reply.ensures.second (c.reply.ensures.limit ∙ c.in-Err.ensures.limit)
    (ap (λ o. g.L.Link.faults o.memory.below.below.below.link) c.reply.ensures.talk)
    (subst (λ (z : List ℕ). AnswersAs b g.L.Link.conduct world ready.first ready.second reply.mode now.limit st out out Says faults later z (Ok c.reply.result)) c.in-Err.ensures.broken t)

pub returns-in-Ok-run-clause-resumes : goal.returns-in-Ok-run-clause-resumes
returns-in-Ok-run-clause-resumes g c =
    let before = c.ready.new.self in
    let after = c.run.new.self in
    let event = c.in-Ok-run.event in
    let all = event_on before.first event in
    let behind = c.in-Ok-run.ensures.behind in
    let mode = c.in-Ok-run.ensures.mode ∙ c.in-Ok.ensures.mode in
    let how = c.began.ensures ∙ ap (λ m. goes_on (state_of m) (resume_of c.args.how)) mode in
    inl (record {
      first = before.first;
      second = before.second;
      ready = c.in-Ok.ensures.ready;
      all = all;
      behind = behind;
      line = ap (λ t. Ok (Lines t)) (told_line event before.first after.first before.second after.second c.in-Ok.line _ behind c.in-Ok.ensures.room c.event_reply.ensures);
      state = c.mode_after-self.ensures before.first.inquiry.core.store ∙ ap (λ r. state_after r all) how;
    })

pub returns-in-Ok-run-clause-meant : goal.returns-in-Ok-run-clause-meant
returns-in-Ok-run-clause-meant g c = λ b hs st steady x may.
    let now = c.args.self.now in
    let before = c.ready.new.self in
    let after = c.run.new.self in
    let event = c.in-Ok-run.event in
    let all = event_on before.first event in
    let mode = c.in-Ok-run.ensures.mode ∙ c.in-Ok.ensures.mode in
    let how = c.began.ensures ∙ ap (λ m. goes_on (state_of m) (resume_of c.args.how)) mode in
    let o = g.L.Link.world now.talk.memory.below.below.below.link in
    let o1 = g.L.Link.world before.talk.memory.below.below.below.link in
    let o2 = g.L.Link.world after.talk.memory.below.below.below.link in
    let p = c.in-Ok.ensures.meant b hs st x may in
    let still = c.in-Ok.ensures.still in
    let m = may_run b g.L.Link.conduct steady (resume_of c.args.how) o o1 o2 now.first before.first after.first now.second before.second after.second now.mode now.limit hs st x p still.0 in
    let n = may_also_run b g.L.Link.conduct steady (resume_of c.args.how) o o1 o2 now.first before.first after.first now.second before.second after.second now.mode now.limit hs st x p still.1 in
    inr (ran b g.L.Link.conduct steady (resume_of c.args.how) o o1 o2 now.first before.first after.first now.second before.second after.second now.mode now.limit hs st x p all _ _ before.limit after.limit _ _ _ _ c.in-Ok.ensures.limit c.in-Ok-run.ensures.limit
    (c.in-Ok-run.ensures.meant b p.hosts steady p.there m n)
    (told_line event before.first after.first before.second after.second c.in-Ok.line _ c.in-Ok-run.ensures.behind c.in-Ok.ensures.room c.event_reply.ensures)
    (c.mode_after-self.ensures before.first.inquiry.core.store ∙ ap (λ r. state_after r all) how))

pub returns-clause-meant : goal.returns-clause-meant
returns-clause-meant g c = λ b hs st steady x may.
    let now = c.args.self.now in
    let before = c.ready.new.self in
    let after = c.run.new.self in
    let last = c.break_off.new.self in
    let o = g.L.Link.world now.talk.memory.below.below.below.link in
    let o1 = g.L.Link.world before.talk.memory.below.below.below.link in
    let o2 = g.L.Link.world after.talk.memory.below.below.below.link in
    let f = g.L.Link.faults now.talk.memory.below.below.below.link in
    let f1 = g.L.Link.faults before.talk.memory.below.below.below.link in
    let f2 = g.L.Link.faults after.talk.memory.below.below.below.link in
    let p = c.in-Ok.ensures.meant b hs st x may in
    let still = c.in-Ok.ensures.still in
    let m = may_run b g.L.Link.conduct steady (resume_of c.args.how) o o1 o2 now.first before.first after.first now.second before.second after.second now.mode now.limit hs st x p still.0 in
    let n = may_also_run b g.L.Link.conduct steady (resume_of c.args.how) o o1 o2 now.first before.first after.first now.second before.second after.second now.mode now.limit hs st x p still.1 in
    let rose = run_failed b g.L.Link.conduct o2 before.first after.first before.second after.second p.hosts before.limit f1 f2 (g.O.Sink.taken c.args.out.now) (g.O.Sink.taken c.run.new.out) c.in-Err-Talk.field-0 c.in-Err-Talk.field-0-0 c.in-Err-Talk.field-0-is (c.in-Err-Talk.ensures.meant b p.hosts steady p.there m n) in
    broken_off b g.L.Link.conduct (g.L.Link.world last.talk.memory.below.below.below.link) last.first last.second last.mode last.limit st (g.O.Sink.taken c.args.out.now) (g.O.Sink.taken c.run.new.out) (ResumesAs b (resume_of c.args.how) st) f (g.L.Link.faults last.talk.memory.below.below.below.link) c.break_off.result now.broken after.broken c.break_off.ensures.some
    (subst (λ v. Rose f v) (ap (λ t. g.L.Link.faults t.memory.below.below.below.link) (sym c.break_off.ensures.talk)) (rose_from f f1 f2 c.in-Ok.ensures.faults rose), c.break_off.ensures.mode, c.in-Err-Talk.ensures.broken ∙ c.in-Ok.ensures.broken)

pub returns-in-Err-Output-clause-meant : goal.returns-in-Err-Output-clause-meant
returns-in-Err-Output-clause-meant g c = λ b hs st steady x may.
    let now = c.args.self.now in
    let before = c.ready.new.self in
    let after = c.run.new.self in
    let o = g.L.Link.world now.talk.memory.below.below.below.link in
    let o1 = g.L.Link.world before.talk.memory.below.below.below.link in
    let o2 = g.L.Link.world after.talk.memory.below.below.below.link in
    let f1 = g.L.Link.faults before.talk.memory.below.below.below.link in
    let f2 = g.L.Link.faults after.talk.memory.below.below.below.link in
    let p = c.in-Ok.ensures.meant b hs st x may in
    let still = c.in-Ok.ensures.still in
    let m = may_run b g.L.Link.conduct steady (resume_of c.args.how) o o1 o2 now.first before.first after.first now.second before.second after.second now.mode now.limit hs st x p still.0 in
    let n = may_also_run b g.L.Link.conduct steady (resume_of c.args.how) o o1 o2 now.first before.first after.first now.second before.second after.second now.mode now.limit hs st x p still.1 in
    let front = subst (λ (y : RunFault). ResumesAll b g.L.Link.conduct o2 before.first after.first before.second after.second p.hosts before.limit f1 f2 (g.O.Sink.taken c.args.out.now) (g.O.Sink.taken c.run.new.out) (Err y)) c.in-Err-Output.field-0-is
    (c.in-Err-Output.ensures.meant b p.hosts steady p.there m n) in
    cut b g.L.Link.conduct steady (resume_of c.args.how) o o1 o2 now.first before.first after.first now.second before.second after.second now.mode now.limit hs st x p before.limit _ _ c.in-Ok.ensures.limit front

pub returns-in-Err-clause-count : goal.returns-in-Err-clause-count
returns-in-Err-clause-count g c =
    let now = c.args.self.now in
    let ready = c.ready.new.self in
    let reply = c.reply.new.self in
    subst (λ (z : List ℕ). CountsAnswer (g.L.Link.faults now.talk.memory.below.below.below.link) (g.L.Link.faults reply.talk.memory.below.below.below.link) z reply.mode (Ok c.reply.result)) c.in-Err.ensures.broken
    (fault_counts (g.L.Link.faults now.talk.memory.below.below.below.link) (g.L.Link.faults reply.talk.memory.below.below.below.link) ready.broken reply.mode ready.mode c.in-Err.fault c.reply.result
    (subst (λ (n : ℕ). CountsFault (g.L.Link.faults now.talk.memory.below.below.below.link) n c.in-Err.fault) (ap (λ t. g.L.Link.faults t.memory.below.below.below.link) (sym c.reply.ensures.talk)) c.in-Err.ensures.count) c.reply.ensures.fault)

pub returns-in-Ok-run-clause-count : goal.returns-in-Ok-run-clause-count
returns-in-Ok-run-clause-count g c = inl (c.in-Ok-run.ensures.cause.0 ∙ c.in-Ok.ensures.count)

pub returns-in-Err-Output-clause-count : goal.returns-in-Err-Output-clause-count
returns-in-Err-Output-clause-count g c =
    (subst (λ (y : RunFault). CountsRun {A = Unit {0}} (g.L.Link.faults c.ready.new.self.talk.memory.below.below.below.link) (g.L.Link.faults c.run.new.self.talk.memory.below.below.below.link) (g.O.Sink.faults c.args.out.now) (g.O.Sink.faults c.run.new.out) (Err y)) c.in-Err-Output.field-0-is c.in-Err-Output.ensures.cause).0 ∙ c.in-Ok.ensures.count

pub returns-clause-count : goal.returns-clause-count
returns-clause-count g c =
    let now = c.args.self.now in
    let before = c.ready.new.self in
    let after = c.run.new.self in
    let last = c.break_off.new.self in
    let cause = subst (λ (y : RunFault). CountsRun {A = Unit {0}} (g.L.Link.faults before.talk.memory.below.below.below.link) (g.L.Link.faults after.talk.memory.below.below.below.link) (g.O.Sink.faults c.args.out.now) (g.O.Sink.faults c.run.new.out) (Err y)) c.in-Err-Talk.field-0-is c.in-Err-Talk.ensures.cause in
    subst (λ (n : ℕ). CountsAnswer (g.L.Link.faults now.talk.memory.below.below.below.link) n now.broken last.mode (Ok c.break_off.result)) (ap (λ t. g.L.Link.faults t.memory.below.below.below.link) (sym c.break_off.ensures.talk))
    (talk_ends (g.L.Link.faults now.talk.memory.below.below.below.link) (g.L.Link.faults before.talk.memory.below.below.below.link) (g.L.Link.faults after.talk.memory.below.below.below.link) (g.O.Sink.faults c.args.out.now) (g.O.Sink.faults c.run.new.out) now.broken last.mode c.break_off.result c.in-Err-Talk.field-0-0 c.in-Ok.ensures.count cause c.break_off.ensures.mode
    (c.break_off.ensures.some ∙ ap (λ t. Lines t) (c.in-Err-Talk.ensures.broken ∙ c.in-Ok.ensures.broken)))

pub returns-in-Err-clause-stays : goal.returns-in-Err-clause-stays
returns-in-Err-clause-stays g c = λ b hs st x may is.
    let now = c.args.self.now in
    let ready = c.ready.new.self in
    let reply = c.reply.new.self in
    let none = c.reply.ensures.no_memory (answer_is c.reply.result NoMemory is) in
    let again = c.in-Err.ensures.stays b hs st x may (undone_as (List ℕ) Line c.in-Err.fault none.0) in
    represents_again WithTable b g.L.Link.conduct (g.L.Link.world reply.talk.memory.below.below.below.link) reply.first reply.second reply.mode reply.limit st (x.state ∙ ap (λ m. state_of m) (sym (none.1 ∙ c.in-Err.ensures.mode))) (x.limit_is ∙ sym (c.reply.ensures.limit ∙ c.in-Err.ensures.limit))
    (subst (λ z. StandAgain WithTable b g.L.Link.conduct (g.L.Link.world z.memory.below.below.below.link) reply.first reply.second st) (sym c.reply.ensures.talk)
    (subst (λ z. StandAgain WithTable b g.L.Link.conduct (g.L.Link.world ready.talk.memory.below.below.below.link) z reply.second st) (sym c.reply.ensures.first) (subst (λ z. StandAgain WithTable b g.L.Link.conduct (g.L.Link.world ready.talk.memory.below.below.below.link) ready.first z st) (sym c.reply.ensures.second) again)))

pub returns-in-Err-clause-leads : goal.returns-in-Err-clause-leads
returns-in-Err-clause-leads g c = g.met.O.Sink.stays c.args.out.now
