-- What a session answers, by what the parts of a command come to.
use Rattle.std.proofs.Common.{◌≡◌, ◌≢◌, ◌∙◌, refl, sym, ap, subst, inl, inr, ℕ, ◌≤◌, List, [], ◌∷◌, ◌++◌, codes, decimal, Option, Some, None, Result, Ok, Err, IfOk, IfErr, append-nil, append_assoc, arith}
use Rattle.ldb_edge.specs.Count.{Rose}
use Rattle.ldb_edge.specs.Known.{known_and}
use Rattle.machine_state.specs.State.{Behaviour}
use Rattle.nub_wire.specs.Nub.{Host}
use Rattle.nub_wire.specs.Delivery.{Conduct, World}
use Rattle.resuming.proofs.Taken.{known_none}
use Rattle.resuming.specs.Runs.{TakesFront}
use Rattle.resuming.specs.declared.fault.RunFault.{RunFault}
use Rattle.resuming.specs.declared.fault.RunFault.TheVariants.{Talk}
use Rattle.wire_talk.specs.declared.fault.TalkFault.{TalkFault}
use Rattle.wire_talk.specs.declared.fault.TalkFault.TheVariants as talk
use Rattle.ps_step.specs.Errors.{error_text}
use Rattle.abs_mem.specs.declared.memory.MemFault.TheVariants.{Outside, LinkFault, BadReply}
use Rattle.debug_side.specs.declared.event.Event.{Event}
use Rattle.debug_side.specs.declared.point.MachineKind.{MachineKind}
use Rattle.debug_side.specs.Told.{MayRun, its_output}
use Rattle.debug_side.proofs.Undoing.{all_undone}
use Rattle.debug_side.proofs.Replanted.{replanted}
use Rattle.c_session.specs.declared.command.Command.{Command}
use Rattle.c_session.specs.declared.command.Command.TheVariants as command
use Rattle.c_session.specs.Commands.{Resume, ByStep, ByContinue, Refusal, refusal_text}
use Rattle.table_asks.specs.declared.fault.AskFault.{AskFault}
use Rattle.table_asks.specs.declared.fault.AskFault.TheVariants.{Refused, Raised, Spent, NoMemory, Broken}
use Rattle.asking.specs.Refusals.{refusal_of}
use Rattle.asking.specs.Lines.{BeginsWith}
use Rattle.asking_meaning.specs.Meant.{joined}
use Rattle.claims.specs.Side.{SideEvent, SideState, SessionState, State, Fresh, Stopped, Running, Ended}
use Rattle.claims.specs.Lines.{Reply, event_text, trouble_reply}
use Rattle.claims.specs.Resumes.{state_after}
use Rattle.claims.specs.Outcome as outcome
use Rattle.claims.specs.Outcome.{refused_by_state, AnswersCommand}
use Rattle.dialect_model.specs.TableUse.{Kind}
use Rattle.dialect_model.specs.TableUse.{Refused as RefusedFor}
use Rattle.side_meaning.specs.Standing.{Debugged}
use Rattle.side_meaning.specs.Resuming.{IsFit}
use Rattle.side_meaning.specs.Sessions as sides
use Rattle.side_meaning.specs.Sessions.{BothSides, IfSecond, StandsIn, SidesStand, Prepared, PreparedIn, SecondPrepared, ArePrepared, AreResumed, AreFit, IsAnswered}
use Rattle.side_meaning.proofs.Behind.{they_may_run}
use Rattle.side_meaning.proofs.Telling.{memories}
use Rattle.side_meaning.proofs.Sessions.{resumes_answered}
use Rattle.side_meaning.proofs.Starting.{limit as limit_stands}
use Rattle.session.specs.declared.answers.Answer.{Answer}
use Rattle.session.specs.declared.answers.Answer.TheVariants as answer
use Rattle.session.specs.declared.modes.Mode.{Mode}
use Rattle.session.specs.declared.sides.SideRecord.{SideRecord}
use Rattle.session.specs.Answered as session
use Rattle.session.specs.Answered.{state_of, refusal_reply, limit_reply, error_reply, spent_reply, IsTrouble}
use Rattle.session.specs.declared.answers.End.{End}
use Rattle.session.specs.declared.answers.End.TheVariants as end
use Rattle.session.specs.Events.{event_line}
use Rattle.session.specs.Kept.{AnswersFault, IsBrokenOff, IsUndone, IsQuery, TellsTrouble, SaysDone}
use Rattle.session.specs.Resuming.{StandsStill, OnSecond, goes_on}
use Rattle.session.specs.Meant.{debugged, kind_of, other_kind, second_of, sides_of, IsThere, IsSecond, Hosts, AreThere, AreSteady, Represents, ComesTo, AllPrepared, AllResumed, ResumesAll, MayAlsoRun, SaidAll, NotAll, PutInPart, Answered, AnswersAs, MeantAnswers, ResumesAs, IsSaid, IsAskable, IsResumable}
use Rattle.session.proofs.Behind.{event_of_all, sides_behind, are_resumed}

-- ---- replies

refusal_line : (u : Refusal) → refusal_reply u ≡ joined (trouble_reply (RefusedFor u))
refusal_line u = sym (append-nil (refusal_reply u))

error_line : (e : _) → error_reply e ≡ joined (trouble_reply (Kind e))
error_line e = sym (append_assoc (codes "psfault ") (error_text e) (codes "\n")) ∙ sym (append-nil ((codes "psfault " ++ error_text e) ++ codes "\n"))

pub rose_from : (l m n : ℕ) → l ≤ m → Rose m n → Rose l n
rose_from l m n h r = record { no_fall = omega (arith, h, r.no_fall); higher = omega (arith, h, r.higher) }

module _ (b : Behaviour) (c : Conduct) (o : Option World) (first : SideRecord) (second : Option SideRecord) (limit : ℕ) (st : SessionState) (Says : Reply → SessionState → Type 0) (taken taken' : Option (List ℕ)) (none : taken' ≡ taken) (limit_is : st.limit ≡ limit) where
  -- what is said of all sides is the answer, where nothing was put
  pub said : (mode : Mode) (text : List ℕ) → st.state ≡ state_of mode → SaidAll b c o first second st Says text → Answered b c o first second mode limit st taken taken' Says text
  said mode text state s = record {
    reply = s.reply;
    after = s.after;
    hosts = s.hosts;
    output = [];
    says = s.says;
    text_is = s.text_is;
    represents = record { there = s.there; sides = s.sides; state = s.state ∙ state; limit_is = s.limit ∙ limit_is };
    written = s.written ∙ sym (append-nil st.written);
    put = none ∙ known_none taken;
  }

  by_text : (mode : Mode) (text t : List ℕ) → st.state ≡ state_of mode → text ≡ t → SaidAll b c o first second st Says t → Answered b c o first second mode limit st taken taken' Says text
  by_text mode text t state e s = said mode text state (subst (SaidAll b c o first second st Says) (sym e) s)

  text_same : (text t : List ℕ) → answer.Lines text ≡ answer.Lines t → text ≡ t
  text_same text t e = cc

  -- so is the reply of a trouble
  pub troubled : {A : Type 0} (Done : A → Type 0) (fault : AskFault) (broken : List ℕ) (old new : Mode) (f f' : ℕ) (a : Answer) → st.state ≡ state_of old → ComesTo f f' Done (NotAll b c o first second st Says) (Err fault) → AnswersFault broken old new fault a
      → AnswersAs b c o first second new limit st taken taken' Says f f' broken (Ok a)
  troubled Done (Refused cause) broken old new f f' (answer.Lines text) state n h = inr (by_text new text _ (state ∙ ap state_of (sym h.0)) (h.1 ∙ refusal_line (refusal_of cause)) n)
  troubled Done (Raised e) broken old new f f' (answer.Lines text) state n h = inr (by_text new text _ (state ∙ ap state_of (sym h.0)) (h.1 ∙ error_line e) n)
  troubled Done Spent broken old new f f' (answer.Lines text) state n h = inr (by_text new text _ (state ∙ ap state_of (sym h.0)) h.1 n)
  troubled Done NoMemory broken old new f f' (answer.Lines text) state n h = absurd h.1
  troubled Done (Broken LinkFault) broken old new f f' (answer.Lines text) state n h = inl (n, h.0, text_same text broken h.1)
  troubled Done (Broken (BadReply frame)) broken old new f f' (answer.Lines text) state n h = absurd n
  troubled Done (Broken (Outside p)) broken old new f f' (answer.Lines text) state n h = absurd n
  troubled Done (Refused cause) broken old new f f' answer.NoMemory state n h = tt
  troubled Done (Raised e) broken old new f f' answer.NoMemory state n h = tt
  troubled Done Spent broken old new f f' answer.NoMemory state n h = tt
  troubled Done NoMemory broken old new f f' answer.NoMemory state n h = tt
  troubled Done (Broken fault) broken old new f f' answer.NoMemory state n h = tt

  -- what was said, or a trouble
  pub replied : {T : Type 0} (of : T → List ℕ) (it : Result T AskFault) (broken : List ℕ) (old new : Mode) (f f' : ℕ) (a : Answer) → st.state ≡ state_of old → ComesTo f f' (λ t. SaidAll b c o first second st Says (of t)) (NotAll b c o first second st Says) it
      → IfOk it (λ t. (a ≡ answer.Lines (of t)) × (new ≡ old)) → IfErr it (λ fault. AnswersFault broken old new fault a) → AnswersAs b c o first second new limit st taken taken' Says f f' broken (Ok a)
  replied of (Ok t) broken old new f f' a state n h k =
      subst (λ (z : Answer). AnswersAs b c o first second new limit st taken taken' Says f f' broken (Ok z)) (sym h.0) (inr (said new (of t) (state ∙ ap state_of (sym h.1)) n))
  replied of (Err fault) broken old new f f' a state n h k = troubled (λ t. SaidAll b c o first second st Says (of t)) fault broken old new f f' a state n k

-- ---- sides that are prepared

-- the nub and the target stay
abbrev SameNub : (d d' : Debugged) → Type 0
SameNub d d' = (d'.host.nub ≡ d.host.nub) × (d'.host.machine.target ≡ d.host.machine.target)

same_is : (d d' : Debugged) → d' ≡ d → SameNub d d'
same_is d d' e = (ap (λ (z : Debugged). z.host.nub) e, ap (λ (z : Debugged). z.host.machine.target) e)

same_prepared : (how : Resume) (d d' : Debugged) (a : SideState) → Prepared how d d' a → SameNub d d'
same_prepared ByContinue d d' a g = (ap (λ (h : Host). h.nub) g.host, ap (λ (h : Host). h.machine.target) g.host)
same_prepared ByStep d d' a (u, inl g) = (ap (λ (h : Host). h.nub) g.host, ap (λ (h : Host). h.machine.target) g.host)
same_prepared ByStep d d' a (u, inr f) = same_is d d' f.same

same_nub : (state : State) (how : Resume) (d d' : Debugged) (a : SideState) → PreparedIn state how d d' a → SameNub d d'
same_nub Fresh how d d' a g = same_prepared how d d' a g
same_nub Stopped how d d' a g = same_prepared how d d' a g
same_nub (Running began) how d d' a g = same_is d d' g
same_nub Ended how d d' a g = absurd g

may_still : (k : Option Event) (h h' : Host) → h'.nub ≡ h.nub → MayRun k h → MayRun k h'
may_still None h h' e m = ap (λ n. n.ended) e ∙ m
may_still (Some k) h h' e m = tt

module _ (b : Behaviour) (c : Conduct) (state : State) (how : Resume) where
  module _ (o o' : Option World) (side side' : SideRecord) (h h' : Host) (beside beside' : Option Host) (a : SideState) (x : IsThere b c o side h beside) (x' : IsThere b c o' side' h' beside') (g : PreparedIn state how (debugged side h) (debugged side' h') a) where
    side_fits : IsFit (kind_of side') (debugged side h)
    side_fits = record {
      context = x'.context;
      target = x'.target ∙ (same_nub state how (debugged side h) (debugged side' h') a g).1;
      memory = memories b c side.which o h beside x.stands;
    }

    side_runs : StandsIn state (debugged side h) a → StandsStill side side' → MayRun side'.row.kept h'
    side_runs s still =
        subst (λ (k : Option Event). MayRun k h') (sym still.0)
        (may_still side.row.kept h h' (same_nub state how (debugged side h) (debugged side' h') a g).0 (they_may_run (debugged side h) a s.stands))

  module _ (o o' : Option World) (one one' : Host) (first' : SideRecord) where
    second_fits : (s s' : Option SideRecord) (h h' : Option Host) (oa : Option SideState) → sides.OnSecond (IsSecond b c o one) s h → sides.OnSecond (IsSecond b c o' one') s' h'
        → SecondPrepared state how (second_of s h) (second_of s' h') oa → IfSecond (IsFit (other_kind first' s')) (second_of s h)
    second_fits None s' h h' oa x x' g = tt
    second_fits (Some s) s' None h' oa x x' g = absurd x
    second_fits (Some s) None (Some h) h' oa x x' g = absurd g
    second_fits (Some s) (Some s') (Some h) None oa x x' g = absurd x'
    second_fits (Some s) (Some s') (Some h) (Some h') None x x' g = absurd g
    second_fits (Some s) (Some s') (Some h) (Some h') (Some a) x x' g = side_fits o o' s s' h h' (Some one) (Some one') a x.1 x'.1 g

    second_runs : (s s' : Option SideRecord) (h h' : Option Host) (oa : Option SideState) → sides.OnSecond (IsSecond b c o one) s h → sides.OnSecond (IsSecond b c o' one') s' h'
        → SecondPrepared state how (second_of s h) (second_of s' h') oa → sides.OnSecond (StandsIn state) (second_of s h) oa → OnSecond StandsStill s s' → MayAlsoRun s' h'
    second_runs s None h None oa x x' g i still = tt
    second_runs s None h (Some h') oa x x' g i still = absurd x'
    second_runs s (Some s') h None oa x x' g i still = absurd x'
    second_runs None (Some s') h (Some h') oa x x' g i still = absurd still
    second_runs (Some s) (Some s') None (Some h') oa x x' g i still = absurd x
    second_runs (Some s) (Some s') (Some h) (Some h') None x x' g i still = absurd g
    second_runs (Some s) (Some s') (Some h) (Some h') (Some a) x x' g i still = side_runs o o' s s' h h' (Some one) (Some one') a x.1 x'.1 g i still

-- ---- a resume

-- the command that began it, in both
same_began : (state : State) (how : Resume) → sides.goes_on state how ≡ goes_on state how
same_began Fresh how = refl
same_began Stopped how = refl
same_began (Running began) how = refl
same_began Ended how = refl

module _ (b : Behaviour) (c : Conduct) (steady : AreSteady b) (how : Resume) (o o1 o2 : Option World) (first one first' : SideRecord) (second two second' : Option SideRecord) (mode : Mode) (limit : ℕ) (hs : Hosts) (st : SessionState)
    (x : Represents b c o first second mode limit hs st) (p : AllPrepared b c o1 first one second two hs st how) where
  pub may_run : StandsStill first one → MayRun one.row.kept p.hosts.first
  may_run still = side_runs b c st.state how o o1 first one hs.first p.hosts.first hs.second p.hosts.second st.first x.there.first_there p.there.first_there p.prepared.first x.sides.first still

  pub may_also_run : OnSecond StandsStill second two → MayAlsoRun two p.hosts.second
  may_also_run still =
      second_runs b c st.state how o o1 hs.first p.hosts.first one second two hs.second p.hosts.second st.second x.there.second_there p.there.second_there p.prepared.second x.sides.second still

  fits : AreFit (kind_of one) (other_kind one two) (sides_of first second hs)
  fits = (
    side_fits b c st.state how o o1 first one hs.first p.hosts.first hs.second p.hosts.second st.first x.there.first_there p.there.first_there p.prepared.first,
    second_fits b c st.state how o o1 hs.first p.hosts.first one second two hs.second p.hosts.second st.second x.there.second_there p.there.second_there p.prepared.second,
  )

  -- the event's line is the answer
  pub ran : (all : SideEvent) (text : List ℕ) (mode' : Mode) (most limit' : ℕ) (f f' : ℕ) (taken taken' : Option (List ℕ)) → most ≡ limit → limit' ≡ most → AllResumed b c o2 one first' two second' p.hosts most f f' taken taken' all
      → text ≡ event_line all → state_of mode' ≡ state_after (goes_on (state_of mode) how) all → Answered b c o2 first' second' mode' limit' st taken taken' (ResumesAs b how st) text
  ran all text mode' most limit' f f' taken taken' same same' r line state =
      let e : most ≡ st.limit = same ∙ sym x.limit_is in
      let kind : MachineKind = kind_of one in
      let other : MachineKind = other_kind one two in
      let s1 : BothSides = sides_of one two p.hosts in
      let s2 : BothSides = sides_of first' second' r.hosts in
      let output : List ℕ = its_output b kind one.row st.limit p.hosts.first in
      let g : AreResumed b kind other st.limit all s1 s2 = subst (λ (n : ℕ). AreResumed b kind other n all s1 s2) e r.resumed in
      let q : (st' : SessionState) × IsAnswered b how all output s2 st st' =
      resumes_answered (λ (target : _) (ps kept : _) (b d : _) m h. all_undone target b d ps kept m h) (λ (target : _) (ps kept : _) (b d : _) (r : _) m e h t. replanted target b d ps kept r m e h t)
      b kind other how all (sides_of first second hs) s1 s2 st steady.runs fits x.sides p.prepared g in
      record {
        reply = event_text all ∷ [];
        after = q.0;
        hosts = r.hosts;
        output = output;
        says = q.1.answers;
        text_is = line ∙ sym (append-nil (event_line all));
        represents = record {
          there = r.there;
          sides = q.1.sides;
          state = q.1.state ∙ (ap (λ (z : Resume). state_after z all) (same_began st.state how) ∙ (ap (λ (z : State). state_after (goes_on z how) all) x.state ∙ sym state));
          limit_is = q.1.limit ∙ sym (same' ∙ e);
        };
        written = q.1.written;
        put = r.put ∙ ap (λ (n : ℕ). known_and taken (its_output b kind one.row n p.hosts.first)) e;
      }

  -- where its output failed, the answer is that of the sides as the resume would leave them
  pub cut : (most : ℕ) (taken taken' : Option (List ℕ)) → most ≡ limit → TakesFront taken taken' (its_output b (kind_of one) one.row most p.hosts.first) → PutInPart st taken taken' (ResumesAs b how st)
  cut most taken taken' same f =
      let e : most ≡ st.limit = same ∙ sym x.limit_is in
      let kind : MachineKind = kind_of one in
      let other : MachineKind = other_kind one two in
      let s1 : BothSides = sides_of one two p.hosts in
      let all : SideEvent = event_of_all b kind other st.limit s1 in
      let output : List ℕ = its_output b kind one.row st.limit p.hosts.first in
      let q : (st' : SessionState) × IsAnswered b how all output (sides_behind b kind other st.limit s1) st st' =
      resumes_answered (λ (target : _) (ps kept : _) (b d : _) m h. all_undone target b d ps kept m h) (λ (target : _) (ps kept : _) (b d : _) (r : _) m e h t. replanted target b d ps kept r m e h t)
      b kind other how all (sides_of first second hs) s1 (sides_behind b kind other st.limit s1) st steady.runs fits x.sides p.prepared (are_resumed b kind other st.limit s1) in
      record {
        reply = event_text all ∷ [];
        after = q.0;
        output = output;
        says = q.1.answers;
        written = q.1.written;
        front = subst (λ (n : ℕ). TakesFront taken taken' (its_output b kind one.row n p.hosts.first)) e f;
      }

-- ---- a command

module _ (b : Behaviour) (c : Conduct) (o : Option World) (first : SideRecord) (second : Option SideRecord) (mode : Mode) (limit : ℕ) (hs : Hosts) (st : SessionState) (taken taken' : Option (List ℕ)) (none : taken' ≡ taken) (Says : Reply → SessionState → Type 0) where
  -- lines for which nothing but the limit is changed
  pub says_lines : (text : List ℕ) (lines : Reply) (n : ℕ) → Represents b c o first second mode n hs (record st { limit = n }) → Says lines (record st { limit = n }) → text ≡ joined lines → Answered b c o first second mode n st taken taken' Says text
  says_lines text lines n x says is = record {
    reply = lines;
    after = record st { limit = n };
    hosts = hs;
    output = [];
    says = says;
    text_is = is;
    represents = x;
    written = sym (append-nil st.written);
    put = none ∙ known_none taken;
  }

  -- a refusal
  pub refuses : (u : Refusal) (f f' : ℕ) (broken : List ℕ) (r : Result Answer End) → Represents b c o first second mode limit hs st → Says (refusal_text u ∷ []) st → session.Answers (refusal_reply u) r → AnswersAs b c o first second mode limit st taken taken' Says f f' broken r
  refuses u f f' broken (Ok (answer.Lines text)) x says h = inr (record {
    reply = refusal_text u ∷ [];
    after = st;
    hosts = hs;
    output = [];
    says = says;
    text_is = h ∙ refusal_line u;
    represents = x;
    written = sym (append-nil st.written);
    put = none ∙ known_none taken;
  })
  refuses u f f' broken (Ok answer.NoMemory) x says h = tt
  refuses u f f' broken (Err e) x says h = absurd h

module _ (b : Behaviour) (c : Conduct) (o : Option World) (first : SideRecord) (second : Option SideRecord) (mode : Mode) (limit : ℕ) (st : SessionState) (taken taken' : Option (List ℕ)) (Says Says' : Reply → SessionState → Type 0) (to : (reply : Reply) (st' : SessionState) → Says reply st' → Says' reply st') (f f' : ℕ) (broken : List ℕ) where
  -- the same answer, where it is said of more
  pub answers_to : (r : Result Answer End) → AnswersAs b c o first second mode limit st taken taken' Says f f' broken r → AnswersAs b c o first second mode limit st taken taken' Says' f f' broken r
  answers_to (Ok (answer.Lines text)) (inl h) = inl h
  answers_to (Ok (answer.Lines text)) (inr h) = inr (record {
    reply = h.reply;
    after = h.after;
    hosts = h.hosts;
    output = h.output;
    says = to h.reply h.after h.says;
    text_is = h.text_is;
    represents = h.represents;
    written = h.written;
    put = h.put;
  })
  answers_to (Ok answer.NoMemory) h = tt
  answers_to (Err end.Quit) h = tt
  answers_to (Err end.OutFault) h = record { reply = h.reply; after = h.after; output = h.output; says = to h.reply h.after h.says; written = h.written; front = h.front }

-- the answer to a command, by its refusal
abbrev CommandAnswers : Behaviour → SessionState → Command → Option Refusal → Reply → SessionState → Type 0
CommandAnswers b st c (Some u) reply st' = outcome.Says st (refusal_text u ∷ []) st reply st'
CommandAnswers b st c None reply st' = AnswersCommand b st c reply st'

module _ (b : Behaviour) (st : SessionState) (c : Command) where
  pub unrefused : refused_by_state st.state c ≡ None → (reply : Reply) (st' : SessionState) → AnswersCommand b st c reply st' → MeantAnswers b st (Some c) reply st'
  unrefused e reply st' h = subst (λ (r : Option Refusal). CommandAnswers b st c r reply st') (sym e) h

  pub refused : (u : Refusal) → refused_by_state st.state c ≡ Some u → MeantAnswers b st (Some c) (refusal_text u ∷ []) st
  refused u e = subst (λ (r : Option Refusal). CommandAnswers b st c r (refusal_text u ∷ []) st) (sym e) (inl (refl, refl))

pub continue_resumes : (s : State) → refused_by_state s command.Continue ≡ None → IsResumable s
continue_resumes Fresh e = tt
continue_resumes Stopped e = tt
continue_resumes (Running how) e = tt
continue_resumes Ended e = cc

pub step_resumes : (s : State) → refused_by_state s command.Step ≡ None → IsResumable s
step_resumes Fresh e = tt
step_resumes Stopped e = tt
step_resumes (Running how) e = tt
step_resumes Ended e = cc

pub askable : (c : Command) → IsSaid c → c ≢ command.Continue → c ≢ command.Step → ((n : ℕ) → c ≢ command.Turns n) → c ≢ command.Quit → IsAskable c
askable command.Continue h n s t q = absurd (n refl)
askable command.Step h n s t q = absurd (s refl)
askable (command.Turns k) h n s t q = absurd (t k refl)
askable command.Quit h n s t q = absurd (q refl)
askable command.Regs h n s t q = h
askable (command.Break spot) h n s t q = h
askable (command.Clear spot) h n s t q = h
askable command.Frames h n s t q = h
askable (command.Frame k) h n s t q = h
askable (command.Print name) h n s t q = h
askable (command.Eval text) h n s t q = absurd h
askable (command.Assign text) h n s t q = absurd h
askable (command.Code text) h n s t q = absurd h
askable (command.Ps text) h n s t q = h

-- ---- a command that isn't done

abbrev first_byte : List ℕ → ℕ
first_byte [] = 0
first_byte (x ∷ xs) = x

-- the reply of a trouble begins with `r` or `p`
no_trouble : (text : List ℕ) → first_byte text ≢ 114 → first_byte text ≢ 112 → IsTrouble (answer.Lines text) → ⊥
no_trouble text r p (inl w) = r (ap first_byte w.1)
no_trouble text r p (inr (inl w)) = p (ap first_byte w.1)
no_trouble text r p (inr (inr e)) = p (ap first_byte e)

done_by : (n : ℕ) (text bytes : List ℕ) → BeginsWith bytes text → ((rest : List ℕ) → first_byte (bytes ++ rest) ≡ n) → n ≢ 114 → n ≢ 112 → IsTrouble (answer.Lines text) → ⊥
done_by n text bytes w first r p = let e : first_byte text ≡ n = ap first_byte w.1 ∙ first w.0 in no_trouble text (λ h. r (sym e ∙ h)) (λ h. p (sym e ∙ h))

module _ (P : Type 0) (text : List ℕ) (told : IsTrouble (answer.Lines text)) where
  -- a command that says that it is done tells no trouble
  done_or_query : (c : Command) → c ≢ command.Continue → c ≢ command.Step → c ≢ command.Quit → SaysDone c text → (IsQuery c → P) → P
  done_or_query (command.Break spot) n s q w asks = absurd (done_by 98 text (codes "break ") w (λ rest. refl) (λ e. absurd (omega (arith, e))) (λ e. absurd (omega (arith, e))) told)
  done_or_query (command.Clear spot) n s q w asks = absurd (done_by 99 text (codes "clear ") w (λ rest. refl) (λ e. absurd (omega (arith, e))) (λ e. absurd (omega (arith, e))) told)
  done_or_query (command.Frame k) n s q w asks = absurd (done_by 102 text (codes "frame ") w (λ rest. refl) (λ e. absurd (omega (arith, e))) (λ e. absurd (omega (arith, e))) told)
  done_or_query command.Continue n s q w asks = absurd (n refl)
  done_or_query command.Step n s q w asks = absurd (s refl)
  done_or_query command.Quit n s q w asks = absurd (q refl)
  done_or_query (command.Turns k) n s q w asks = asks tt
  done_or_query command.Frames n s q w asks = asks tt
  done_or_query (command.Print name) n s q w asks = asks tt
  done_or_query (command.Eval e) n s q w asks = asks tt
  done_or_query (command.Assign e) n s q w asks = asks tt
  done_or_query command.Regs n s q w asks = asks tt
  done_or_query (command.Code e) n s q w asks = asks tt
  done_or_query (command.Ps t) n s q w asks = asks tt

module _ (P : Type 0) (c : Command) (broken : List ℕ) (old new : Mode) (a : Answer) (asks : IsQuery c → P) (tells : TellsTrouble broken (Ok a)) where
  -- one that tells a trouble over a link that goes on leaves what an undone one leaves
  pub undone_leaves : (said : Result (List ℕ) AskFault) → c ≢ command.Continue → c ≢ command.Step → c ≢ command.Quit → IfOk said (λ text. SaysDone c text) → IfOk said (λ text. (a ≡ answer.Lines text) × (new ≡ old)) → IfErr said (λ fault. AnswersFault broken old new fault a) → (IsUndone said → P) → P
  undone_leaves (Ok text) n s q w ok err leaves = done_or_query P text (subst IsTrouble ok.0 tells.0) c n s q w asks
  undone_leaves (Err (Refused cause)) n s q w ok err leaves = leaves tt
  undone_leaves (Err (Raised e)) n s q w ok err leaves = leaves tt
  undone_leaves (Err Spent) n s q w ok err leaves = leaves tt
  undone_leaves (Err NoMemory) n s q w ok err leaves = leaves tt
  undone_leaves (Err (Broken f)) n s q w ok err leaves = absurd (tells.1 (ap (λ (z : Answer). Ok z) err.1))

pub limit_line : (n : ℕ) → limit_reply n ≡ joined ((codes "limit " ++ decimal n) ∷ [])
limit_line n = sym (append_assoc (codes "limit ") (decimal n) (codes "\n")) ∙ sym (append-nil ((codes "limit " ++ decimal n) ++ codes "\n"))

-- a new limit
pub new_limit : (b : Behaviour) (c : Conduct) (o : Option World) (first : SideRecord) (second : Option SideRecord) (mode : Mode) (limit n : ℕ) (hs : Hosts) (st : SessionState) → Represents b c o first second mode limit hs st → Represents b c o first second mode n hs (record st { limit = n })
new_limit b c o first second mode limit n hs st x = record { there = x.there; sides = limit_stands (sides_of first second hs) st n x.sides; state = x.state; limit_is = refl }

-- ---- behind a call that leaves the sides

module _ (b : Behaviour) (c : Conduct) (mode : Mode) (st : SessionState) (taken taken' : Option (List ℕ)) (Says : Reply → SessionState → Type 0) (f : ℕ) (broken : List ℕ) (r : Result Answer End) where
  pub left_so : (o o' : Option World) (first first' : SideRecord) (second second' : Option SideRecord) (limit limit' g g' : ℕ) → o' ≡ o → first' ≡ first → second' ≡ second → limit' ≡ limit → g' ≡ g
      → AnswersAs b c o first second mode limit st taken taken' Says f g broken r → AnswersAs b c o' first' second' mode limit' st taken taken' Says f g' broken r
  left_so o o' first first' second second' limit limit' g g' e1 e2 e3 e4 e5 h =
      subst (λ (z : Option World). AnswersAs b c z first' second' mode limit' st taken taken' Says f g' broken r) (sym e1)
      (subst (λ (z : SideRecord). AnswersAs b c o z second' mode limit' st taken taken' Says f g' broken r) (sym e2)
      (subst (λ (z : Option SideRecord). AnswersAs b c o first z mode limit' st taken taken' Says f g' broken r) (sym e3)
      (subst (λ (z : ℕ). AnswersAs b c o first second mode z st taken taken' Says f g' broken r) (sym e4)
      (subst (λ (z : ℕ). AnswersAs b c o first second mode limit st taken taken' Says f z broken r) (sym e5) h))))

-- ---- a link that failed in a run

failed_by : (b : Behaviour) (c : Conduct) (o : Option World) (one one' : SideRecord) (two two' : Option SideRecord) (hs : Hosts) (limit f f' : ℕ) (taken taken' : Option (List ℕ)) (x : TalkFault) → ResumesAll b c o one one' two two' hs limit f f' taken taken' (Err (Talk x)) → Rose f f'
failed_by b c o one one' two two' hs limit f f' taken taken' talk.LinkFault h = h
failed_by b c o one one' two two' hs limit f f' taken taken' (talk.BadReply frame) h = absurd h

pub run_failed : (b : Behaviour) (c : Conduct) (o : Option World) (one one' : SideRecord) (two two' : Option SideRecord) (hs : Hosts) (limit f f' : ℕ) (taken taken' : Option (List ℕ)) (y : RunFault) (x : TalkFault) → y ≡ Talk x
    → ResumesAll b c o one one' two two' hs limit f f' taken taken' (Err y) → Rose f f'
run_failed b c o one one' two two' hs limit f f' taken taken' y x is h =
    failed_by b c o one one' two two' hs limit f f' taken taken' x (subst (λ (v : RunFault). ResumesAll b c o one one' two two' hs limit f f' taken taken' (Err v)) is h)

pub broken_off : (b : Behaviour) (c : Conduct) (o : Option World) (first : SideRecord) (second : Option SideRecord) (mode : Mode) (limit : ℕ) (st : SessionState) (taken taken' : Option (List ℕ)) (Says : Reply → SessionState → Type 0) (f g : ℕ) (a : Answer) (broken text : List ℕ)
    → a ≡ answer.Lines text → IsBrokenOff f g broken mode text → AnswersAs b c o first second mode limit st taken taken' Says f g broken (Ok a)
broken_off b c o first second mode limit st taken taken' Says f g a broken text e h = subst (λ (z : Answer). AnswersAs b c o first second mode limit st taken taken' Says f g broken (Ok z)) (sym e) (inl h)
