use Rattle.std.proofs.Common.{rules, ◌≡◌, ◌≢◌, ◌∙◌, ap, sym, subst, refl, inl, [], ◌∷◌, Bool, if◌then◌else◌, Option, Some, None, Ok}
use Rattle.machine_state.specs.State.{Behaviour}
use Rattle.c_session.specs.declared.command.Command.{Command}
use Rattle.c_session.specs.Commands.{BadLine, refusal_text}
use Rattle.cmd_lang.specs.Commands.{read_of}
use Rattle.cmd_lang.specs.Words.{is_empty}
use Rattle.claims.specs.Side.{SessionState}
use Rattle.c_session.specs.declared.command.Command.TheVariants.{Continue, Step, Quit}
use Rattle.claims.specs.Outcome.{refused_by_state}
use Rattle.session.specs.Answered.{state_of, refusal_reply, line_reply, Replies}
use Rattle.session.specs.Kept.{IsQuery}
use Rattle.session.specs.Meant.{Hosts, AnswersAs, MeantAnswers, IsSaidIfAny}
use Rattle.session.specs.declared.answers.Answer.TheVariants.{NoMemory}
use Rattle.session.specs.Wanting.{LeavesIfAny, LeavesTarget, RepresentsAgain}
use Rattle.session.proofs.Tallying.{same_counts}
use Rattle.session.proofs.Wanting.{represents_same, same_leaves_if_any}
use Rattle.session.proofs.Answering.{refuses}
use Rattle.session.proofs.Ending.{answers_else, line_else}
use Rattle.session.proofs.conversation.Session.command.Goals as goal

pub returns-in-Ok : goal.returns-in-Ok
returns-in-Ok g c = record {
  quit = search rules;
  quits = search rules;
  output = c.obey.ensures.output;
  turns = search rules;
  line = search rules;
  blank = search rules;
  refused = search rules;
  no_memory = c.obey.ensures.no_memory;
  query = λ d h q. (let same : c.in-Ok.command ≡ d = cc (c.in-Ok.ensures.ok, h) in c.obey.ensures.query (subst (λ (x : Command). IsQuery x) (sym same) q));
  undone = λ d h n m told. (let same : c.in-Ok.command ≡ d = cc (c.in-Ok.ensures.ok, h) in let no : c.in-Ok.command ≢ Quit = search rules in c.obey.ensures.undone (λ e. n (sym same ∙ e)) (λ e. m (sym same ∙ e)) no told);
  out_fault = search rules;
  limit = search rules;
  asked = λ d h n m. (let same : c.in-Ok.command ≡ d = cc (c.in-Ok.ensures.ok, h) in c.obey.ensures.asked (λ e. n (sym same ∙ e)) (λ e. m (sym same ∙ e)));
  continues = λ h n. (let same : c.in-Ok.command ≡ Continue = cc (c.in-Ok.ensures.ok, h) in c.obey.ensures.continues same (ap (λ d. refused_by_state (state_of c.args.self.now.mode) d) same ∙ n));
  steps = λ h n. (let same : c.in-Ok.command ≡ Step = cc (c.in-Ok.ensures.ok, h) in c.obey.ensures.steps same (ap (λ d. refused_by_state (state_of c.args.self.now.mode) d) same ∙ n));
  meant = λ (b : Behaviour) (hs : Hosts) (st : SessionState) steady x blank said.
      let now = c.args.self.now in
      let new = c.obey.new.self in
      let ok : read_of now.raw c.args.line.now ≡ Some c.in-Ok.command = c.in-Ok.ensures.ok in
      let no : c.in-Ok.command ≢ Quit = search rules in
      subst (λ (r : Option Command). AnswersAs b g.L.Link.conduct (g.L.Link.world new.talk.memory.below.below.below.link) new.first new.second new.mode new.limit st (g.O.Sink.taken c.args.out.now) (g.O.Sink.taken c.obey.new.out) (MeantAnswers b st r)
      (g.L.Link.faults now.talk.memory.below.below.below.link) (g.L.Link.faults new.talk.memory.below.below.below.link) now.broken c.obey.result) (sym ok)
      (c.obey.ensures.meant b hs st steady x (subst (λ (r : Option Command). IsSaidIfAny r) ok said) no);
  stays = λ (b : Behaviour) (hs : Hosts) (st : SessionState) x is m.
      let now = c.args.self.now in
      let new = c.obey.new.self in
      let ok : read_of now.raw c.args.line.now ≡ Some c.in-Ok.command = c.in-Ok.ensures.ok in
      let no : c.in-Ok.command ≢ Quit = search rules in
      subst (λ (r : Option Command). RepresentsAgain (LeavesIfAny r c.obey.result) b g.L.Link.conduct (g.L.Link.world new.talk.memory.below.below.below.link) new.first new.second new.mode new.limit st) (sym ok) (c.obey.ensures.stays b hs st x no (subst (λ (r : Option Command). LeavesTarget r c.obey.result) ok is) m);
  target = λ (b : Behaviour) (hs : Hosts) (st : SessionState) d x h n m.
      let same : c.in-Ok.command ≡ d = cc (c.in-Ok.ensures.ok, h) in
      let no : c.in-Ok.command ≢ Quit = search rules in
      c.obey.ensures.target b hs st x (λ e. n (sym same ∙ e)) (λ e. m (sym same ∙ e)) no;
  count = c.obey.ensures.count;
  broken = c.obey.ensures.broken;
  raw = c.obey.ensures.raw;
  ends = c.obey.ensures.ends;
  leads = c.obey.ensures.leads;
}

pub returns-in-Err-Line-clause-meant : goal.returns-in-Err-Line-clause-meant
returns-in-Err-Line-clause-meant g c = λ (b : Behaviour) (hs : Hosts) (st : SessionState) steady x blank said.
    let now = c.args.self.now in
    let out = g.O.Sink.taken c.args.out.now in
    let f = g.L.Link.faults now.talk.memory.below.below.below.link in
    let none : read_of now.raw c.args.line.now ≡ None = search rules in
    refuses b g.L.Link.conduct (g.L.Link.world now.talk.memory.below.below.below.link) now.first now.second now.mode now.limit hs st out out refl (MeantAnswers b st (read_of now.raw c.args.line.now)) BadLine f f now.broken (Ok c.malformed.result) x
    (subst (λ (r : Option Command). MeantAnswers b st r (refusal_text BadLine ∷ []) st) (sym none) (inl (refl, refl)))
    (subst (λ (e : Bool). Replies (if e then [] else refusal_reply BadLine) c.malformed.result) blank c.malformed.ensures.reply)

pub returns-in-Err-Line-clause-count : goal.returns-in-Err-Line-clause-count
returns-in-Err-Line-clause-count g c = same_counts (g.L.Link.faults c.args.self.now.talk.memory.below.below.below.link) (g.L.Link.faults c.args.self.now.talk.memory.below.below.below.link) c.args.self.now.broken c.args.self.now.mode c.malformed.result refl

pub returns-in-Err-Line-clause-stays : goal.returns-in-Err-Line-clause-stays
returns-in-Err-Line-clause-stays g c = λ b hs st x is m.
    let now = c.args.self.now in
    represents_same (LeavesIfAny (read_of now.raw c.args.line.now) (Ok c.malformed.result)) (λ a. same_leaves_if_any (read_of now.raw c.args.line.now) (Ok c.malformed.result) a) b g.L.Link.conduct (g.L.Link.world now.talk.memory.below.below.below.link) now.first now.second now.mode now.limit hs st x

pub returns-in-Err-NoMemory-clause-stays : goal.returns-in-Err-NoMemory-clause-stays
returns-in-Err-NoMemory-clause-stays g c = λ b hs st x is m.
    let now = c.args.self.now in
    represents_same (LeavesIfAny (read_of now.raw c.args.line.now) (Ok NoMemory)) (λ a. same_leaves_if_any (read_of now.raw c.args.line.now) (Ok NoMemory) a) b g.L.Link.conduct (g.L.Link.world now.talk.memory.below.below.below.link) now.first now.second now.mode now.limit hs st x

-- ---- what the writes leave, and what ends the session

pub returns-in-Err-Line-clause-leads : goal.returns-in-Err-Line-clause-leads
returns-in-Err-Line-clause-leads g c = g.met.O.Sink.stays c.args.out.now

pub returns-in-Err-NoMemory-clause-leads : goal.returns-in-Err-NoMemory-clause-leads
returns-in-Err-NoMemory-clause-leads g c = g.met.O.Sink.stays c.args.out.now

pub returns-in-Ok-Quit-clause-leads : goal.returns-in-Ok-Quit-clause-leads
returns-in-Ok-Quit-clause-leads g c = g.met.O.Sink.stays c.args.out.now

pub returns-in-Err-Line-clause-ends : goal.returns-in-Err-Line-clause-ends
returns-in-Err-Line-clause-ends g c = λ is.
    absurd (answers_else (line_reply c.args.line.now) (Ok c.malformed.result) c.malformed.ensures.reply (line_else (is_empty c.args.line.now)) is)
