-- The count of the link's faults behind whole commands, and what a session without memory stands for.
use Rattle.std.proofs.Common.{◌≡◌, ◌≢◌, ◌⊎◌, ◌∙◌, refl, sym, ap, subst, inl, inr, ℕ, List, Option, Some, None, Result, Ok, Err, IfOk, IfErr, OnOk}
use Rattle.ldb_edge.specs.Count.{Rose}
use Rattle.machine_state.specs.State.{Behaviour}
use Rattle.nub_wire.specs.declared.link.Side.TheVariants.{First, Second}
use Rattle.nub_wire.specs.Nub.{Host}
use Rattle.nub_wire.specs.Delivery.{Conduct, World}
use Rattle.abs_mem.specs.declared.memory.MemFault.{MemFault}
use Rattle.abs_mem.specs.declared.memory.MemFault.TheVariants.{Outside, LinkFault, BadReply}
use Rattle.wire_talk.specs.declared.fault.TalkFault.{TalkFault}
use Rattle.wire_talk.specs.declared.fault.TalkFault.TheVariants as talk
use Rattle.resuming.specs.declared.fault.RunFault.{RunFault}
use Rattle.resuming.specs.declared.fault.RunFault.TheVariants as run
use Rattle.resuming.specs.Runs.{CountsRun}
use Rattle.table_asks.specs.declared.fault.AskFault.{AskFault}
use Rattle.table_asks.specs.declared.fault.AskFault.TheVariants.{Refused, Raised, Spent, NoMemory, Broken}
use Rattle.table_asks.specs.Faults.{IsUnbroken}
use Rattle.c_session.specs.declared.command.Command.{Command}
use Rattle.c_session.specs.declared.command.Command.TheVariants as command
use Rattle.c_session.specs.Commands.{Resume}
use Rattle.claims.specs.Side.{SideState, SessionState, State, Fresh, Stopped, Running, Ended, Troubled}
use Rattle.claims.specs.Outcome.{refused_by_state}
use Rattle.side_meaning.specs.Stepping.{IsSettled}
use Rattle.side_meaning.specs.Sessions.{OnSecond, SidesStand, IsStill}
use Rattle.session.specs.declared.answers.Answer.{Answer}
use Rattle.session.specs.declared.answers.Answer.TheVariants as answer
use Rattle.session.specs.declared.answers.End.{End}
use Rattle.session.specs.declared.answers.End.TheVariants as end
use Rattle.session.specs.declared.modes.Mode.{Mode}
use Rattle.session.specs.declared.modes.Mode.TheVariants as mode
use Rattle.session.specs.declared.sides.SideRecord.{SideRecord}
use Rattle.session.specs.Answered.{state_of}
use Rattle.session.specs.Kept.{AnswersFault, IsBrokenOff, IsQuery, IsUndone}
use Rattle.session.specs.Counted.{CountsFault, CountsAsk, CountsTalk, CountsAnswer}
use Rattle.session.specs.Meant.{debugged, IsThere, Hosts, second_of, sides_of, AreThere, ComesTo, TalksWell, Settled, AllPrepared, AllCleared, IsInquiry, IsAskable, IsExpression, IsLook}
use Rattle.session.specs.Wanting.{IsAskedAlone, IsInquired, IsText, WithTable, Leaves, LeavesIfAny, LeavesTarget, StandAgain}
use Rattle.session.proofs.AskingOne.{asked_still}
use Rattle.session.proofs.Beside.{second_beside, first_beside}
use Rattle.session.proofs.Counting.{fault_on}
use Rattle.session.proofs.Looked.{undone_as}
use Rattle.session.proofs.Readying.{TakesAway, second_stays}
use Rattle.session.proofs.Wanting.{Change, TablesStay, leaves_if_any, unprepared}

-- ---- answers

abbrev pub said_ok : Answer → Result Answer End
said_ok a = Ok a

pub answer_is : (a b : Answer) → said_ok a ≡ Ok b → a ≡ b
answer_is a b e = cc

module _ (f f' : ℕ) (broken : List ℕ) (new : Mode) where
  -- nothing was asked of the link
  pub same_counts : (a : Answer) → f' ≡ f → CountsAnswer f f' broken new (Ok a)
  same_counts (answer.Lines text) e = inl e
  same_counts answer.NoMemory e = e

  pub fault_counts : (old : Mode) (fault : AskFault) (a : Answer) → CountsFault f f' fault → AnswersFault broken old new fault a → CountsAnswer f f' broken new (Ok a)
  fault_counts old (Refused cause) a k w = same_counts a k
  fault_counts old (Raised e) a k w = same_counts a k
  fault_counts old Spent a k w = same_counts a k
  fault_counts old NoMemory (answer.Lines text) k w = absurd w.1
  fault_counts old NoMemory answer.NoMemory k w = k
  fault_counts old (Broken LinkFault) (answer.Lines text) k w = inr (k, w.0, lines_are text broken w.1)
    where
      lines : List ℕ → Answer
      lines t = answer.Lines t

      lines_are : (t u : List ℕ) → lines t ≡ answer.Lines u → t ≡ u
      lines_are t u e = cc
  fault_counts old (Broken LinkFault) answer.NoMemory k w = absurd (let e = w.1 in cc)
  fault_counts old (Broken (BadReply frame)) a k w = same_counts a k
  fault_counts old (Broken (Outside p)) a k w = absurd k

  pub said_counts : (old : Mode) (said : Result (List ℕ) AskFault) (a : Answer) → CountsAsk f f' said → IfErr said (λ (fault : AskFault). AnswersFault broken old new fault a) → CountsAnswer f f' broken new (Ok a)
  said_counts old (Ok text) a k w = same_counts a k
  said_counts old (Err fault) a k w = fault_counts old fault a k w

-- the session ended since the talk of a resume failed
pub talk_ends : (f f1 f2 out out' : ℕ) (broken : List ℕ) (new : Mode) (a : Answer) (e : TalkFault) → f1 ≡ f → CountsRun {A = Unit {0}} f1 f2 out out' (Err (run.Talk e)) → new ≡ mode.Ended → a ≡ answer.Lines broken → CountsAnswer f f2 broken new (Ok a)
talk_ends f f1 f2 out out' broken new a talk.LinkFault same k ends is = subst (λ (z : Answer). CountsAnswer f f2 broken new (Ok z)) (sym is) (inr (subst (λ n. Rose n f2) same k.0, ends, refl))
talk_ends f f1 f2 out out' broken new a (talk.BadReply frame) same k ends is = same_counts f f2 broken new a (k.0 ∙ same)

-- the second one's talk
pub second_cause : (f f1 f2 x y out out' : ℕ) (e : TalkFault) → f1 ≡ f → out' ≡ out → CountsRun {A = Unit {0}} f1 f2 x y (Err (run.Talk e)) → CountsRun {A = Unit {0}} f f2 out out' (Err (run.Talk e))
second_cause f f1 f2 x y out out' talk.LinkFault e same k = (subst (λ n. Rose n f2) e k.0, same)
second_cause f f1 f2 x y out out' (talk.BadReply frame) e same k = (k.0 ∙ e, same)

-- ---- before a resume

abbrev pub unit_ok : Result (Unit {0}) AskFault
unit_ok = Ok tt

-- what was taken away, and why memory is wanting
pub left_wants : (A : Type 0) (taken : Result (Unit {0}) AskFault) (fault why : AskFault) → OnOk taken (why ≡ fault) → IfErr taken (λ (x : AskFault). why ≡ x) → (IsUndone taken → ⊥) → IsUndone {A = A} (Err why) → (taken ≡ unit_ok) × IsUndone {A = A} (Err fault)
left_wants A (Ok tt) fault why ok err whole is = (refl, subst (λ (z : AskFault). IsUndone {A = A} (Err z)) ok is)
left_wants A (Err e) fault why ok err whole is = absurd (whole (undone_as A (Unit {0}) e (subst (λ (z : AskFault). IsUndone {A = A} (Err z)) err is)))

pub left_counts : (f f1 f2 f3 : ℕ) (taken : Result (Unit {0}) AskFault) (fault why : AskFault) → OnOk taken (why ≡ fault) → IfErr taken (λ (x : AskFault). why ≡ x) → f1 ≡ f → CountsFault f1 f2 fault → IsUnbroken fault → CountsAsk f2 f3 taken → CountsFault f f3 why
left_counts f f1 f2 f3 taken fault why ok err e k u m =
    let same : f2 ≡ f1 = same_by fault k u in
    by taken ok err m (same ∙ e)
  where
    same_by : (x : AskFault) → CountsFault f1 f2 x → IsUnbroken x → f2 ≡ f1
    same_by (Refused cause) k u = k
    same_by (Raised x) k u = k
    same_by Spent k u = k
    same_by NoMemory k u = k
    same_by (Broken x) k u = absurd u

    still : (x : AskFault) → IsUnbroken x → f3 ≡ f → CountsFault f f3 x
    still (Refused cause) u e = e
    still (Raised x) u e = e
    still Spent u e = e
    still NoMemory u e = e
    still (Broken x) u e = absurd u

    by : (t : Result (Unit {0}) AskFault) → OnOk t (why ≡ fault) → IfErr t (λ (x : AskFault). why ≡ x) → CountsAsk f2 f3 t → f2 ≡ f → CountsFault f f3 why
    by (Ok x) ok err m same = subst (λ (z : AskFault). CountsFault f f3 z) (sym ok) (still fault u (m ∙ same))
    by (Err x) ok err m same = subst (λ (z : AskFault). CountsFault f f3 z) (sym err) (fault_on f f2 f3 x same m)

-- memory was wanting for a line
pub wanted_counts : (f f1 f2 : ℕ) (taken : Result (Unit {0}) AskFault) (why : AskFault) → f1 ≡ f → OnOk taken (why ≡ NoMemory) → IfErr taken (λ (x : AskFault). why ≡ x) → CountsAsk f1 f2 taken → CountsFault f f2 why
wanted_counts f f1 f2 (Ok x) why same ok err k = subst (λ (z : AskFault). CountsFault f f2 z) (sym ok) (k ∙ same)
wanted_counts f f1 f2 (Err x) why same ok err k = subst (λ (z : AskFault). CountsFault f f2 z) (sym err) (fault_on f f1 f2 x same k)

-- ---- words of a step that are taken away

module _ (b : Behaviour) (c : Conduct) (o o1 : Option World) (f f1 : ℕ) (first first' : SideRecord) (which : first'.which ≡ first.which) (m1 : TakesAway b c o o1 f f1 first first' (Ok tt)) where
  pub clear_none : (second : Option SideRecord) → second ≡ None → (hs : Hosts) → AreThere b c o first second hs → AllCleared b c o1 first first' second second hs
  clear_none second none hs there =
      let s = m1 hs.first hs.second there.first_there in
      record {
        hosts = record { first = s.host; second = hs.second };
        there = record { first_is = which ∙ there.first_is; first_there = s.there; second_there = second_stays b c o o1 first' hs.first s.host second hs.second there.second_there (which ∙ there.first_is) s.there };
        first_settled = s.settled;
        second_settled = subst (λ (z : Option SideRecord). OnSecond IsSettled (second_of z hs.second) (second_of z hs.second)) (sym none) tt;
      }

  module _ (o2 : Option World) (f2 : ℕ) (second second' : SideRecord) (second_which : second'.which ≡ second.which) where
    clear_two : (h : Host) (x : Option Host) → AreThere b c o first (Some second) (record { first = h; second = x }) → TakesAway b c o1 o2 f1 f2 second second' (Ok tt) → AllCleared b c o2 first first' (Some second) (Some second') (record { first = h; second = x })
    clear_two h None there m2 = absurd there.second_there
    clear_two h (Some g) there m2 =
        let s = m1 h (Some g) there.first_there in
        let t = m2 g (Some s.host) (second_beside b c o o1 first' second g s.host (Some h) there.second_there.0 there.second_there.1 (which ∙ there.first_is) s.there) in
        record {
          hosts = record { first = s.host; second = Some t.host };
          there = record {
            first_is = which ∙ there.first_is;
            first_there = first_beside b c o1 o2 first' second' s.host t.host (Some g) (which ∙ there.first_is) s.there (second_which ∙ there.second_there.0) t.there;
            second_there = (second_which ∙ there.second_there.0, t.there);
          };
          first_settled = s.settled;
          second_settled = t.settled;
        }

    pub clear_some : (all : Option SideRecord) → all ≡ Some second → (hs : Hosts) → AreThere b c o first all hs → (r : Result (Unit {0}) AskFault) → TakesAway b c o1 o2 f1 f2 second second' r → OnOk r (AllCleared b c o2 first first' all (Some second') hs)
    clear_some all e hs there (Err x) m2 = tt
    clear_some all e hs there (Ok tt) m2 =
        subst (λ (z : Option SideRecord). AllCleared b c o2 first first' z (Some second') hs) (sym e)
        (clear_two hs.first hs.second (subst (λ (z : Option SideRecord). AreThere b c o first z hs) e there) m2)

-- ---- a line for which there is no memory

module _ (b : Behaviour) (c : Conduct) (st : SessionState) (still : IsStill st.state) where
  pub unready : (how : Resume) (o o1 o2 : Option World) (first first' first'' : SideRecord) (second second' second'' : Option SideRecord) (hs : Hosts) → AreThere b c o first second hs → SidesStand (sides_of first second hs) st → (p : AllPrepared b c o1 first first' second second' hs st how)
      → TablesStay how first first' second second'
      → (r : Result (Unit {0}) AskFault) → r ≡ unit_ok → OnOk r (AllCleared b c o2 first' first'' second' second'' p.hosts) → StandAgain WithTable b c o2 first'' second'' st
  unready how o o1 o2 first first' first'' second second' second'' hs there sides p stay r is cleared =
      unprepared b c st still how o o1 o2 first first' first'' second second' second'' hs there sides p stay (subst (λ (z : Result (Unit {0}) AskFault). OnOk z (AllCleared b c o2 first' first'' second' second'' p.hosts)) is cleared)

-- ---- whole commands

-- a command that asks where the session stands, or was never resumed
pub expression_still : (s : State) (c : Command) → IsExpression c → refused_by_state s c ≡ None → IsStill s
expression_still Fresh c p e = tt
expression_still Stopped c p e = tt
expression_still (Running how) (command.Eval text) p e = cc
expression_still (Running how) (command.Assign text) p e = cc
expression_still (Running how) (command.Code text) p e = cc
expression_still Ended (command.Eval text) p e = cc
expression_still Ended (command.Assign text) p e = cc
expression_still Ended (command.Code text) p e = cc
expression_still (Running how) (command.Break spot) p e = absurd p
expression_still (Running how) (command.Clear spot) p e = absurd p
expression_still (Running how) command.Frames p e = absurd p
expression_still (Running how) (command.Frame k) p e = absurd p
expression_still (Running how) command.Regs p e = absurd p
expression_still (Running how) command.Continue p e = absurd p
expression_still (Running how) command.Step p e = absurd p
expression_still (Running how) (command.Turns k) p e = absurd p
expression_still (Running how) command.Quit p e = absurd p
expression_still (Running how) (command.Print name) p e = absurd p
expression_still (Running how) (command.Ps text) p e = absurd p
expression_still Ended (command.Break spot) p e = absurd p
expression_still Ended (command.Clear spot) p e = absurd p
expression_still Ended command.Frames p e = absurd p
expression_still Ended (command.Frame k) p e = absurd p
expression_still Ended command.Regs p e = absurd p
expression_still Ended command.Continue p e = absurd p
expression_still Ended command.Step p e = absurd p
expression_still Ended (command.Turns k) p e = absurd p
expression_still Ended command.Quit p e = absurd p
expression_still Ended (command.Print name) p e = absurd p
expression_still Ended (command.Ps text) p e = absurd p

-- one that is asked alone is meant, or has an expression
meant_or : {P : Type 0} (c : Command) → IsAskedAlone c → (IsInquiry c → P) → (IsExpression c → P) → P
meant_or (command.Eval text) h meant expr = expr tt
meant_or (command.Code text) h meant expr = expr tt
meant_or (command.Break spot) h meant expr = meant tt
meant_or (command.Clear spot) h meant expr = meant tt
meant_or command.Frames h meant expr = meant tt
meant_or (command.Frame n) h meant expr = meant tt
meant_or (command.Print name) h meant expr = meant tt
meant_or c h meant expr = absurd h

pub alone_still : (s : State) (c : Command) → IsAskedAlone c → refused_by_state s c ≡ None → IsStill s
alone_still s c h e = meant_or c h (λ meant. asked_still s c meant e) (λ expr. expression_still s c expr e)

-- what the sides are asked, but for registers and assignments
pub inquired_or : {P : Type 0} (c : Command) → IsInquired c → c ≢ command.Regs → ((text : List ℕ) → c ≢ command.Assign text) → (IsAskedAlone c → P) → (IsText c → P) → P
inquired_or command.Regs h n m alone is_text = absurd (n refl)
inquired_or (command.Assign text) h n m alone is_text = absurd (m text refl)
inquired_or (command.Ps text) h n m alone is_text = is_text tt
inquired_or c h n m alone is_text = alone h

pub text_inquiry : (c : Command) → IsText c → IsInquiry c
text_inquiry (command.Ps text) h = tt
text_inquiry c h = absurd h

pub expression_look : (c : Command) → IsExpression c → ((text : List ℕ) → c ≢ command.Assign text) → IsLook c
expression_look (command.Eval text) h n = tt
expression_look (command.Code text) h n = tt
expression_look (command.Assign text) h n = absurd (n _ refl)
expression_look c h n = absurd h

pub expression_query : (c : Command) → IsExpression c → IsQuery c
expression_query (command.Eval text) h = tt
expression_query (command.Code text) h = tt
expression_query (command.Assign text) h = tt
expression_query c h = absurd h

-- lines that leave the target are those of an expression
lines_of : (c : Command) (text : List ℕ) → LeavesTarget (Some c) (Ok (answer.Lines text)) → IsExpression c
lines_of (command.Eval text) l h = tt
lines_of (command.Code text) l h = tt
lines_of (command.Assign text) l h = tt
lines_of c l h = absurd h

pub only_wants : (c : Command) (r : Result Answer End) → (IsExpression c → ⊥) → LeavesTarget (Some c) r → r ≡ Ok answer.NoMemory
only_wants c (Ok answer.NoMemory) n h = refl
only_wants c (Ok (answer.Lines text)) n h = absurd (n (lines_of c text h))
only_wants c (Err e) n h = absurd (no_end c e h)
  where
    no_end : (d : Command) (e : End) → LeavesTarget (Some d) (Err e) → ⊥
    no_end d e h = h

-- what a command leaves that is answered, whose session goes on
module _ (c : Command) (S : Change → Type 0) (weaken : (P Q : Change) → ((a a' : SideState) → P a a' → Q a a') → S P → S Q) (broken : List ℕ) (mid new : Mode) (same : new ≡ mid) (goes : mid ≢ mode.Ended) (a : Answer) where
  undone_again : S (Leaves c) → S (LeavesIfAny (Some c) (Ok a))
  undone_again s = weaken (Leaves c) (LeavesIfAny (Some c) (Ok a)) (leaves_if_any c (Ok a)) s

  pub answer_again : (said : Result (List ℕ) AskFault) → (IsUndone said → S (Leaves c)) → (IsExpression c → IfOk said (λ (text : List ℕ). S (LeavesIfAny (Some c) (Ok (answer.Lines text))))) → IfOk said (λ text. (a ≡ answer.Lines text) × (new ≡ mid))
      → IfErr said (λ (fault : AskFault). AnswersFault broken mid new fault a) → LeavesTarget (Some c) (Ok a) → S (LeavesIfAny (Some c) (Ok a))
  answer_again (Ok text) undone leaves ok err h =
      subst (λ (z : Answer). S (LeavesIfAny (Some c) (Ok z))) (sym ok.0) (leaves (lines_of c text (subst (λ (z : Answer). LeavesTarget (Some c) (Ok z)) ok.0 h)))
  answer_again (Err (Refused cause)) undone leaves ok err h = undone_again (undone tt)
  answer_again (Err (Raised e)) undone leaves ok err h = undone_again (undone tt)
  answer_again (Err Spent) undone leaves ok err h = undone_again (undone tt)
  answer_again (Err NoMemory) undone leaves ok err h = undone_again (undone tt)
  answer_again (Err (Broken x)) undone leaves ok err h = absurd (goes (sym same ∙ err.0))

pub unended : (m : Mode) (c : Command) → c ≢ command.Quit → refused_by_state (state_of m) c ≡ None → m ≢ mode.Ended
unended m c q e is = ended c q (subst (λ (z : Mode). refused_by_state (state_of z) c ≡ None) is e)
  where
    ended : (d : Command) → d ≢ command.Quit → refused_by_state Ended d ≡ None → ⊥
    ended command.Quit q e = q refl
    ended d q e = cc

pub is_inquired : (c : Command) → c ≢ command.Continue → c ≢ command.Step → ((n : ℕ) → c ≢ command.Turns n) → c ≢ command.Quit → IsInquired c
is_inquired command.Continue n m k q = absurd (n refl)
is_inquired command.Step n m k q = absurd (m refl)
is_inquired (command.Turns t) n m k q = absurd (k t refl)
is_inquired command.Quit n m k q = absurd (q refl)
is_inquired (command.Break spot) n m k q = tt
is_inquired (command.Clear spot) n m k q = tt
is_inquired command.Frames n m k q = tt
is_inquired (command.Frame t) n m k q = tt
is_inquired command.Regs n m k q = tt
is_inquired (command.Print name) n m k q = tt
is_inquired (command.Eval text) n m k q = tt
is_inquired (command.Assign text) n m k q = tt
is_inquired (command.Code text) n m k q = tt
is_inquired (command.Ps text) n m k q = tt

-- a command that asks is one whose answers are meant, or has an expression
pub asks_or : {P : Type 0} (c : Command) → c ≢ command.Continue → c ≢ command.Step → ((n : ℕ) → c ≢ command.Turns n) → c ≢ command.Quit → (IsAskable c → P) → (IsExpression c → P) → P
asks_or command.Continue n m k q meant expr = absurd (n refl)
asks_or command.Step n m k q meant expr = absurd (m refl)
asks_or (command.Turns t) n m k q meant expr = absurd (k t refl)
asks_or command.Quit n m k q meant expr = absurd (q refl)
asks_or (command.Eval text) n m k q meant expr = expr tt
asks_or (command.Assign text) n m k q meant expr = expr tt
asks_or (command.Code text) n m k q meant expr = expr tt
asks_or (command.Break spot) n m k q meant expr = meant tt
asks_or (command.Clear spot) n m k q meant expr = meant tt
asks_or command.Frames n m k q meant expr = meant tt
asks_or (command.Frame t) n m k q meant expr = meant tt
asks_or command.Regs n m k q meant expr = meant tt
asks_or (command.Print name) n m k q meant expr = meant tt
asks_or (command.Ps text) n m k q meant expr = meant tt

-- what is meant goes well
pub comes_well : (f f' : ℕ) (D : List ℕ → Type 0) (N : Troubled → Type 0) (r : Result (List ℕ) AskFault) → ComesTo f f' D N r → TalksWell f f' (Unit {0}) r
comes_well f f' D N (Ok text) d = tt
comes_well f f' D N (Err (Refused cause)) d = tt
comes_well f f' D N (Err (Raised e)) d = tt
comes_well f f' D N (Err Spent) d = tt
comes_well f f' D N (Err NoMemory) d = tt
comes_well f f' D N (Err (Broken LinkFault)) d = d
comes_well f f' D N (Err (Broken (BadReply frame))) d = d
comes_well f f' D N (Err (Broken (Outside p))) d = d

-- the session's state stays, or the link failed
pub target_told : (f f1 f2 : ℕ) (broken : List ℕ) (old mid new : Mode) (said : Result (List ℕ) AskFault) (a : Answer) → f2 ≡ f1 → mid ≡ old → TalksWell f f1 (Unit {0}) said → IfOk said (λ text. (a ≡ answer.Lines text) × (new ≡ mid))
    → IfErr said (λ (fault : AskFault). AnswersFault broken mid new fault a) → (new ≡ old) ⊎ Rose f f2
target_told f f1 f2 broken old mid new (Ok text) a e m well ok err = inl (ok.1 ∙ m)
target_told f f1 f2 broken old mid new (Err (Refused cause)) a e m well ok err = inl (err.0 ∙ m)
target_told f f1 f2 broken old mid new (Err (Raised x)) a e m well ok err = inl (err.0 ∙ m)
target_told f f1 f2 broken old mid new (Err Spent) a e m well ok err = inl (err.0 ∙ m)
target_told f f1 f2 broken old mid new (Err NoMemory) a e m well ok err = inl (err.0 ∙ m)
target_told f f1 f2 broken old mid new (Err (Broken LinkFault)) a e m well ok err = inr (subst (λ n. Rose f n) (sym e) well)
target_told f f1 f2 broken old mid new (Err (Broken (BadReply frame))) a e m well ok err = absurd well
target_told f f1 f2 broken old mid new (Err (Broken (Outside p))) a e m well ok err = absurd well
