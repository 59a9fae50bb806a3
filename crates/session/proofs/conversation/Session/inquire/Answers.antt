use Rattle.std.proofs.Common.{rules, ◌≡◌, sym, subst, ℕ, List, None, IfOk, Some, Ok}
use Rattle.machine_state.specs.State.{Behaviour}
use Rattle.c_session.specs.declared.command.Command.{Command}
use Rattle.c_session.specs.declared.command.Command.TheVariants as command
use Rattle.claims.specs.Side.{SessionState}
use Rattle.claims.specs.Outcome.{DoneOnBoth, AnswersCommand, refused_by_state}
use Rattle.side_meaning.specs.Sessions.{SidesStand}
use Rattle.session.specs.Meant.{Hosts, AreThere, sides_of, ComesTo, SaidAll, NotAll, IsExpression}
use Rattle.session.specs.Wanting.{WithTable, WithNumbers, Leaves, LeavesIfAny, StandAgain}
use Rattle.session.specs.Kept.{SaysDone}
use Rattle.session.proofs.Counting.{counts_on}
use Rattle.session.proofs.Ending.{regs_else}
use Rattle.session.proofs.Wanting.{stands_same, same_leaves, again_as, table_leaves, numbers_leave, leaves_if_any, numbers_leave_if_any}
use Rattle.session.proofs.Looked.{well_on, undone_as, undone_regs, unit_well, on_ok}
use Rattle.session.proofs.Tallying.{alone_still, inquired_or, text_inquiry, expression_still, expression_look, expression_query}
use Rattle.session.specs.declared.answers.Answer.TheVariants as answer
use Rattle.session.proofs.AskingOne.{inquiry_answers, inquiry_for, asked_still, regs_by, said_since, regs_since}
use Rattle.session.proofs.conversation.Session.inquire.Goals as goal

pub returns-in-Regs-clause-meant : goal.returns-in-Regs-clause-meant
returns-in-Regs-clause-meant g c = λ (b : Behaviour) (hs : Hosts) (st : SessionState) x e askable.
    let now = c.args.self.now in
    let mid = c.settle.new.self in
    let new = c.registers.new.self in
    let is : c.args.command.now ≡ command.Regs = c.in-Regs.is in
    let Stand = λ (s : _). (hs' : Hosts) × AreThere b g.L.Link.conduct (g.L.Link.world s.talk.memory.below.below.below.link) s.first s.second hs' × SidesStand (sides_of s.first s.second hs') st in
    let here : Stand mid = regs_by now.mode st.state x.state (subst (λ (d : Command). refused_by_state st.state d ≡ None) is e)
    (λ still. let y = c.in-Ok.ensures.meant b hs st x still in (y.hosts, y.there, y.ready.sides))
    (λ how same. subst Stand (sym (c.in-Ok.ensures.running how same)) (hs, x.there, x.sides)) in
    let f = g.L.Link.faults now.talk.memory.below.below.below.link in
    let f1 = g.L.Link.faults mid.talk.memory.below.below.below.link in
    let f2 = g.L.Link.faults new.talk.memory.below.below.below.link in
    let o = g.L.Link.world new.talk.memory.below.below.below.link in
    subst (λ (d : Command). ComesTo f f2 (λ text. SaidAll b g.L.Link.conduct o new.first new.second st (AnswersCommand b st d) text) (NotAll b g.L.Link.conduct o new.first new.second st (AnswersCommand b st d)) c.registers.result) (sym is)
    (regs_since b g.L.Link.conduct o new.first new.second st f f1 f2 here.0
    (subst (λ (z : _). SidesStand (sides_of z new.second here.0) st) (sym c.registers.ensures.first) (subst (λ (z : _). SidesStand (sides_of mid.first z here.0) st) (sym c.registers.ensures.second) here.2))
    c.in-Ok.ensures.faults c.registers.result (c.registers.ensures.meant b here.0 st here.1 here.2))

pub returns-in_default : goal.returns-in_default
returns-in_default g c = record {
  mode = search rules;
  limit = search rules;
  kept = search rules;
  query = search rules;
  word = c.ask.ensures.word;
  meant = λ (b : Behaviour) (hs : Hosts) (st : SessionState) x e askable.
      let now = c.args.self.now in
      let mid = c.settle.new.self in
      let new = c.ask.new.self in
      let cmd = c.args.command.now in
      let inquiry = inquiry_for cmd askable c.in_default.not-Regs in
      let y = c.in-Ok.ensures.meant b hs st x (asked_still st.state cmd inquiry e) in
      let f = g.L.Link.faults now.talk.memory.below.below.below.link in
      let f1 = g.L.Link.faults mid.talk.memory.below.below.below.link in
      let f2 = g.L.Link.faults new.talk.memory.below.below.below.link in
      said_since b g.L.Link.conduct (g.L.Link.world new.talk.memory.below.below.below.link) new.first new.second st f f1 f2 (DoneOnBoth st cmd) (AnswersCommand b st cmd)
      (inquiry_answers b st cmd inquiry) c.in-Ok.ensures.faults c.ask.result
      (c.ask.ensures.meant b y.hosts st y.there y.ready inquiry);
  stays = λ (b : Behaviour) (hs : Hosts) (st : SessionState) x e inquired is.
      let cmd = c.args.command.now in
      let new = c.ask.new.self in
      let o = g.L.Link.world new.talk.memory.below.below.below.link in
      inquired_or cmd inquired c.in_default.not-Regs (λ text. c.in_default.not-Assign text)
      (λ alone.
      let y = c.in-Ok.ensures.meant b hs st x (alone_still st.state cmd alone e) in
      again_as WithTable (Leaves cmd) (table_leaves cmd) b g.L.Link.conduct o new.first new.second st (c.ask.ensures.stays b y.hosts st y.there y.ready alone is))
      (λ text.
      let y = c.in-Ok.ensures.meant b hs st x (asked_still st.state cmd (text_inquiry cmd text) e) in
      again_as WithNumbers (Leaves cmd) (numbers_leave cmd text) b g.L.Link.conduct o new.first new.second st (c.ask.ensures.stores b y.hosts st y.there y.ready text is));
  leaves = λ (b : Behaviour) (hs : Hosts) (st : SessionState) x e expression.
      let cmd = c.args.command.now in
      let new = c.ask.new.self in
      let o = g.L.Link.world new.talk.memory.below.below.below.link in
      let y = c.in-Ok.ensures.meant b hs st x (expression_still st.state cmd expression e) in
      on_ok (StandAgain WithTable b g.L.Link.conduct o new.first new.second st) (λ text. StandAgain (LeavesIfAny (Some cmd) (Ok (answer.Lines text))) b g.L.Link.conduct o new.first new.second st) c.ask.result
      (λ text s. again_as WithTable (LeavesIfAny (Some cmd) (Ok (answer.Lines text))) (λ a a' h. leaves_if_any cmd (Ok (answer.Lines text)) a a' (table_leaves cmd a a' h)) b g.L.Link.conduct o new.first new.second st s)
      (c.ask.ensures.leaves b y.hosts st y.there y.ready (expression_look cmd expression c.in_default.not-Assign) (expression_query cmd expression));
  evaluated = λ (b : Behaviour) (hs : Hosts) (st : SessionState) x e expression.
      let cmd = c.args.command.now in
      let y = c.in-Ok.ensures.meant b hs st x (expression_still st.state cmd expression e) in
      well_on (g.L.Link.faults c.args.self.now.talk.memory.below.below.below.link) (g.L.Link.faults c.settle.new.self.talk.memory.below.below.below.link) (g.L.Link.faults c.ask.new.self.talk.memory.below.below.below.link) (Unit {0}) c.ask.result c.in-Ok.ensures.count
      (c.ask.ensures.looked b y.hosts y.there (expression_look cmd expression c.in_default.not-Assign));
  count = counts_on (g.L.Link.faults c.args.self.now.talk.memory.below.below.below.link) (g.L.Link.faults c.settle.new.self.talk.memory.below.below.below.link) (g.L.Link.faults c.ask.new.self.talk.memory.below.below.below.link) c.ask.result c.in-Ok.ensures.count c.ask.ensures.count;
  raw = search rules;
  broken = search rules;
}

pub returns-in-Regs-clause-stays : goal.returns-in-Regs-clause-stays
returns-in-Regs-clause-stays g c = λ (b : Behaviour) (hs : Hosts) (st : SessionState) x e runs u.
    let now = c.args.self.now in
    let mid = c.settle.new.self in
    let new = c.registers.new.self in
    let is : c.args.command.now ≡ command.Regs = c.in-Regs.is in
    let Stand = λ (s : _). (hs' : Hosts) × AreThere b g.L.Link.conduct (g.L.Link.world s.talk.memory.below.below.below.link) s.first s.second hs' × SidesStand (sides_of s.first s.second hs') st in
    let here : Stand mid = regs_by now.mode st.state x.state (subst (λ (d : Command). refused_by_state st.state d ≡ None) is e)
    (λ still. let y = c.in-Ok.ensures.meant b hs st x still in (y.hosts, y.there, y.ready.sides))
    (λ how same. subst Stand (sym (c.in-Ok.ensures.running how same)) (hs, x.there, x.sides)) in
    let none = undone_regs (g.L.Link.faults mid.talk.memory.below.below.below.link) (g.L.Link.faults new.talk.memory.below.below.below.link) _ c.registers.result (c.registers.ensures.meant b here.0 st here.1 here.2) u in
    stands_same (Leaves c.args.command.now) (same_leaves c.args.command.now) b g.L.Link.conduct (g.L.Link.world new.talk.memory.below.below.below.link) new.first new.second here.0 st (c.registers.ensures.stays b here.0 st here.1 here.2 none)
    (subst (λ (z : _). SidesStand (sides_of z new.second here.0) st) (sym c.registers.ensures.first) (subst (λ (z : _). SidesStand (sides_of mid.first z here.0) st) (sym c.registers.ensures.second) here.2))

pub returns-in-Regs-clause-evaluated : goal.returns-in-Regs-clause-evaluated
returns-in-Regs-clause-evaluated g c = λ b hs st x e expression. absurd (subst IsExpression c.in-Regs.is expression)

pub returns-in-Regs-clause-count : goal.returns-in-Regs-clause-count
returns-in-Regs-clause-count g c = counts_on (g.L.Link.faults c.args.self.now.talk.memory.below.below.below.link) (g.L.Link.faults c.settle.new.self.talk.memory.below.below.below.link) (g.L.Link.faults c.registers.new.self.talk.memory.below.below.below.link) c.registers.result c.in-Ok.ensures.count c.registers.ensures.count

pub returns-in-Assign-clause-stays : goal.returns-in-Assign-clause-stays
returns-in-Assign-clause-stays g c = λ (b : Behaviour) (hs : Hosts) (st : SessionState) x e inquired u.
    let cmd = c.args.command.now in
    let new = c.assign.new.self in
    let y = c.in-Ok.ensures.meant b hs st x (expression_still st.state cmd (subst IsExpression (sym c.in-Assign.is) tt) e) in
    again_as WithTable (Leaves cmd) (table_leaves cmd) b g.L.Link.conduct (g.L.Link.world new.talk.memory.below.below.below.link) new.first new.second st (c.assign.ensures.stays b y.hosts st y.there y.ready u)

pub returns-in-Assign-clause-evaluated : goal.returns-in-Assign-clause-evaluated
returns-in-Assign-clause-evaluated g c = λ (b : Behaviour) (hs : Hosts) (st : SessionState) x e expression.
    let y = c.in-Ok.ensures.meant b hs st x (expression_still st.state c.args.command.now expression e) in
    well_on (g.L.Link.faults c.args.self.now.talk.memory.below.below.below.link) (g.L.Link.faults c.settle.new.self.talk.memory.below.below.below.link) (g.L.Link.faults c.assign.new.self.talk.memory.below.below.below.link) (Unit {0}) c.assign.result c.in-Ok.ensures.count (c.assign.ensures.evaluated b y.hosts y.there)

pub returns-in-Assign-clause-count : goal.returns-in-Assign-clause-count
returns-in-Assign-clause-count g c = counts_on (g.L.Link.faults c.args.self.now.talk.memory.below.below.below.link) (g.L.Link.faults c.settle.new.self.talk.memory.below.below.below.link) (g.L.Link.faults c.assign.new.self.talk.memory.below.below.below.link) c.assign.result c.in-Ok.ensures.count c.assign.ensures.count

pub returns-in-Err-clause-stays : goal.returns-in-Err-clause-stays
returns-in-Err-clause-stays g c = λ b hs st x e runs u. absurd (c.in-Err.ensures.whole (undone_as (List ℕ) (Unit {0}) c.in-Err.fault u))

pub returns-in-Err-clause-evaluated : goal.returns-in-Err-clause-evaluated
returns-in-Err-clause-evaluated g c = λ b hs st x e expression. unit_well (Unit {0}) (g.L.Link.faults c.args.self.now.talk.memory.below.below.below.link) (g.L.Link.faults c.settle.new.self.talk.memory.below.below.below.link) c.in-Err.fault (c.in-Err.ensures.talks b hs x.there)

-- ---- what it says

pub returns-in-Regs-clause-word : goal.returns-in-Regs-clause-word
returns-in-Regs-clause-word g c = subst (λ (d : Command). IfOk c.registers.result (λ text. SaysDone d text)) (sym c.in-Regs.is) (regs_else c.registers.result c.registers.ensures.word)

pub returns-in-Assign-clause-word : goal.returns-in-Assign-clause-word
returns-in-Assign-clause-word g c = subst (λ (d : Command). IfOk c.assign.result (λ text. SaysDone d text)) (sym c.in-Assign.is) c.assign.ensures.word

pub returns-in-Assign-clause-leaves : goal.returns-in-Assign-clause-leaves
returns-in-Assign-clause-leaves g c = λ (b : Behaviour) (hs : Hosts) (st : SessionState) x e expression.
    let cmd = c.args.command.now in
    let new = c.assign.new.self in
    let o = g.L.Link.world new.talk.memory.below.below.below.link in
    let y = c.in-Ok.ensures.meant b hs st x (expression_still st.state cmd expression e) in
    on_ok (StandAgain WithNumbers b g.L.Link.conduct o new.first new.second st) (λ text. StandAgain (LeavesIfAny (Some cmd) (Ok (answer.Lines text))) b g.L.Link.conduct o new.first new.second st) c.assign.result
    (λ text s. again_as WithNumbers (LeavesIfAny (Some cmd) (Ok (answer.Lines text))) (numbers_leave_if_any cmd c.in-Assign.text text c.in-Assign.is) b g.L.Link.conduct o new.first new.second st s)
    (c.assign.ensures.leaves b y.hosts st y.there y.ready)

pub returns-in-Regs-clause-leaves : goal.returns-in-Regs-clause-leaves
returns-in-Regs-clause-leaves g c = λ b hs st x e expression. absurd (subst IsExpression c.in-Regs.is expression)
