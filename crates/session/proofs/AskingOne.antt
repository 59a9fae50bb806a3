-- A command that is asked of one side.
use Rattle.std.proofs.Common.{◌≡◌, ◌≢◌, ◌≤◌, inl, refl, sym, subst, ℕ, List, [], Option, Some, None, Result, Ok, Err}
use Rattle.machine_state.specs.State.{Behaviour}
use Rattle.nub_wire.specs.declared.link.Side.TheVariants.{First}
use Rattle.nub_wire.specs.Nub.{Host}
use Rattle.nub_wire.specs.Delivery.{Conduct, World}
use Rattle.abs_mem.specs.declared.memory.MemFault.TheVariants.{Outside, LinkFault, BadReply}
use Rattle.table_asks.specs.declared.fault.AskFault.{AskFault}
use Rattle.table_asks.specs.declared.fault.AskFault.TheVariants.{Refused, Raised, Spent, NoMemory, Broken}
use Rattle.dialect_model.specs.TableUse.{Kind}
use Rattle.dialect_model.specs.TableUse.{Refused as RefusedFor, Spent as StepsSpent}
use Rattle.c_session.specs.declared.command.Command.{Command}
use Rattle.c_session.specs.declared.command.Command.TheVariants as command
use Rattle.asking.specs.Refusals.{refusal_of}
use Rattle.asking_meaning.specs.Meant.{joined}
use Rattle.c_session.specs.Commands.{Refusal}
use Rattle.claims.specs.Side.{SideState, SessionState, State, Fresh, Stopped, Running, Ended, Change, Troubled}
use Rattle.claims.specs.Lines.{Reply, trouble_reply}
use Rattle.claims.specs.Outcome.{DoneOnBoth, FirstDone, SecondUndone, AnswersCommand, refused_by_state, all_regs}
use Rattle.side_meaning.specs.Sessions.{OnSecond, StandsIn, SidesStand, SecondAsked, IsStill}
use Rattle.side_meaning.specs.Stepping.{IsReady}
use Rattle.side_meaning.proofs.Starting.{asks_stand, no_words}
use Rattle.session.specs.declared.modes.How.{How}
use Rattle.session.specs.declared.modes.Mode.{Mode}
use Rattle.session.specs.declared.modes.Mode.TheVariants as mode
use Rattle.session.specs.declared.sides.SideRecord.{SideRecord}
use Rattle.session.specs.Answered.{state_of}
use Rattle.session.proofs.Regs.{rose_since}
use Rattle.session.specs.Meant.{debugged, sides_of, Hosts, IsSecond, IsThere, AreThere, AreReadyFor, ComesTo, IsInquiry, IsAskable, AskedOne, SaidOne, NotOne, SaidAll, NotAll}

-- what a command comes to on a side
abbrev pub AsksSide : Behaviour → Conduct → (o o' : Option World) → (faults faults' : ℕ) → (side side' : SideRecord) → Command → Result (List ℕ) AskFault → Type 0
AsksSide b c o o' f f' side side' now result =
    (h : Host) (beside : Option Host) (a : SideState) → IsThere b c o side h beside → IsReady (debugged side h) a → a.step_words ≡ [] → IsInquiry now
    → ComesTo f f' (λ (text : List ℕ). SaidOne b c o' side side' h beside now a text) (NotOne b c o' side side' h beside now a) result

-- where there is no second side, there is none on the other side either
none_beside : {A B : Type 0} (P : A → B → Type 0) (y : Option B) → OnSecond P None y → y ≡ None
none_beside P None h = refl
none_beside P (Some y) h = absurd h

no_second : (x y : Option SideState) → x ≡ None → y ≡ None → SecondAsked None None x y
no_second None None e f = tt
no_second None (Some y) e f = cc
no_second (Some x) y e f = cc

on_none : {A B : Type 0} (P Q : A → B → Type 0) (y : Option B) → OnSecond P None y → OnSecond Q None y
on_none P Q None h = tt
on_none P Q (Some y) h = h

nothing_undone : (e : Troubled) (c : Command) → IsInquiry c → SecondUndone e c None e None
nothing_undone e (command.Break spot) p = (refl, refl)
nothing_undone e (command.Clear spot) p = (refl, refl)
nothing_undone e command.Frames p = (refl, refl)
nothing_undone e (command.Frame n) p = (refl, refl)
nothing_undone e command.Continue p = absurd p
nothing_undone e command.Step p = absurd p
nothing_undone e (command.Turns n) p = absurd p
nothing_undone e command.Quit p = absurd p
nothing_undone e command.Regs p = absurd p
nothing_undone e (command.Print name) p = (refl, refl)
nothing_undone e (command.Eval text) p = absurd p
nothing_undone e (command.Assign text) p = absurd p
nothing_undone e (command.Code text) p = absurd p
nothing_undone e (command.Ps text) p = (refl, refl)

-- such a command is answered by what is done on the sides
pub inquiry_answers : (b : Behaviour) (st : SessionState) (c : Command) → IsInquiry c → (reply : Reply) (st' : SessionState) → DoneOnBoth st c reply st' → AnswersCommand b st c reply st'
inquiry_answers b st (command.Break spot) p reply st' h = h
inquiry_answers b st (command.Clear spot) p reply st' h = h
inquiry_answers b st command.Frames p reply st' h = h
inquiry_answers b st (command.Frame n) p reply st' h = h
inquiry_answers b st command.Continue p reply st' h = absurd p
inquiry_answers b st command.Step p reply st' h = absurd p
inquiry_answers b st (command.Turns n) p reply st' h = absurd p
inquiry_answers b st command.Quit p reply st' h = absurd p
inquiry_answers b st command.Regs p reply st' h = absurd p
inquiry_answers b st (command.Print name) p reply st' h = h
inquiry_answers b st (command.Eval text) p reply st' h = absurd p
inquiry_answers b st (command.Assign text) p reply st' h = absurd p
inquiry_answers b st (command.Code text) p reply st' h = absurd p
inquiry_answers b st (command.Ps text) p reply st' h = h

module _ (b : Behaviour) (c : Conduct) (o o' : Option World) (side side' : SideRecord) (hs : Hosts) (st : SessionState) (now : Command) (inquiry : IsInquiry now) (there : AreThere b c o side None hs) (ready : AreReadyFor side None hs st) (which : side'.which ≡ side.which) where
  alone : st.second ≡ None
  alone = none_beside (StandsIn st.state) st.second ready.sides.second

  abbrev left_by : (r : Result Change Troubled) → AskedOne b c o' side side' hs.first hs.second now st.first r → SessionState
  left_by r x = record st { first = x.after; second = None }

  abbrev hosts_by : (r : Result Change Troubled) → AskedOne b c o' side side' hs.first hs.second now st.first r → Hosts
  hosts_by r x = record { first = x.host; second = hs.second }

  there_then : (r : Result Change Troubled) (x : AskedOne b c o' side side' hs.first hs.second now st.first r) → AreThere b c o' side' None (hosts_by r x)
  there_then r x = record {
    first_is = subst (λ (w : _). w ≡ First) (sym which) there.first_is;
    first_there = x.there;
    second_there = on_none (IsSecond b c o hs.first) (IsSecond b c o' x.host) hs.second there.second_there;
  }

  sides_then : (r : Result Change Troubled) (x : AskedOne b c o' side side' hs.first hs.second now st.first r) → SidesStand (sides_of side' None (hosts_by r x)) (left_by r x)
  sides_then r x =
      (asks_stand (sides_of side None hs) (sides_of side' None (hosts_by r x)) st (left_by r x) ready.still ready.sides ready.ready refl x.alike (no_second st.second None alone refl)).0

  done_then : (change : Change) (x : AskedOne b c o' side side' hs.first hs.second now st.first (Ok change)) → DoneOnBoth st now change.lines (left_by (Ok change) x)
  done_then change x = (Ok change, x.after, x.one, subst (λ (y : Option SideState). FirstDone st now change x.after y change.lines (left_by (Ok change) x)) (sym alone) (refl, refl))

  undone_then : (e : Troubled) (x : AskedOne b c o' side side' hs.first hs.second now st.first (Err e)) → DoneOnBoth st now (trouble_reply e) (left_by (Err e) x)
  undone_then e x = (Err e, x.after, x.one, (e, None, subst (λ (y : Option SideState). SecondUndone e now y e None) (sym alone) (nothing_undone e now inquiry), refl, refl))

  said : (text : List ℕ) → SaidOne b c o' side side' hs.first hs.second now st.first text → SaidAll b c o' side' None st (DoneOnBoth st now) text
  said text y = record {
    reply = y.change.lines;
    after = left_by (Ok y.change) y.asked;
    hosts = hosts_by (Ok y.change) y.asked;
    says = done_then y.change y.asked;
    text_is = y.text_is;
    there = there_then (Ok y.change) y.asked;
    sides = sides_then (Ok y.change) y.asked;
    state = refl;
    limit = refl;
    written = refl;
  }

  not_said : (e : Troubled) → NotOne b c o' side side' hs.first hs.second now st.first e → NotAll b c o' side' None st (DoneOnBoth st now) e
  not_said e x = record {
    reply = trouble_reply e;
    after = left_by (Err e) x;
    hosts = hosts_by (Err e) x;
    says = undone_then e x;
    text_is = refl;
    there = there_then (Err e) x;
    sides = sides_then (Err e) x;
    state = refl;
    limit = refl;
    written = refl;
  }

  pub asked_one : (f f' : ℕ) (result : Result (List ℕ) AskFault) → ComesTo f f' (λ text. SaidOne b c o' side side' hs.first hs.second now st.first text) (NotOne b c o' side side' hs.first hs.second now st.first) result
      → ComesTo f f' (λ text. SaidAll b c o' side' None st (DoneOnBoth st now) text) (NotAll b c o' side' None st (DoneOnBoth st now)) result
  asked_one f f' (Ok text) y = said text y
  asked_one f f' (Err (Refused cause)) y = not_said (RefusedFor (refusal_of cause)) y
  asked_one f f' (Err (Raised e)) y = not_said (Kind e) y
  asked_one f f' (Err Spent) y = not_said StepsSpent y
  asked_one f f' (Err NoMemory) y = tt
  asked_one f f' (Err (Broken LinkFault)) y = y
  asked_one f f' (Err (Broken (BadReply frame))) y = y
  asked_one f f' (Err (Broken (Outside p))) y = y

-- so it is of a session that has no second side
pub asked_alone : (b : Behaviour) (c : Conduct) (o o' : Option World) (side side' : SideRecord) (second : Option SideRecord) (hs : Hosts) (st : SessionState) (now : Command) → second ≡ None → AreThere b c o side second hs → AreReadyFor side second hs st → IsInquiry now
    → side'.which ≡ side.which → (f f' : ℕ) (result : Result (List ℕ) AskFault) → AsksSide b c o o' f f' side side' now result
    → ComesTo f f' (λ text. SaidAll b c o' side' second st (DoneOnBoth st now) text) (NotAll b c o' side' second st (DoneOnBoth st now)) result
asked_alone b c o o' side side' None hs st now e there ready inquiry which f f' result tells =
    asked_one b c o o' side side' hs st now inquiry there ready which f f' result
    (tells hs.first hs.second st.first there.first_there ready.ready.0 (no_words st.state (debugged side hs.first) st.first ready.still ready.sides.first) inquiry)
asked_alone b c o o' side side' (Some x) hs st now e there ready inquiry which f f' result tells = cc

-- ---- behind words of a step that were taken away

pub inquiry_for : (c : Command) → IsAskable c → c ≢ command.Regs → IsInquiry c
inquiry_for command.Regs h n = absurd (n refl)
inquiry_for (command.Break spot) h n = h
inquiry_for (command.Clear spot) h n = h
inquiry_for command.Frames h n = h
inquiry_for (command.Frame k) h n = h
inquiry_for command.Continue h n = absurd h
inquiry_for command.Step h n = absurd h
inquiry_for (command.Turns k) h n = absurd h
inquiry_for command.Quit h n = absurd h
inquiry_for (command.Print name) h n = h
inquiry_for (command.Eval text) h n = absurd h
inquiry_for (command.Assign text) h n = absurd h
inquiry_for (command.Code text) h n = absurd h
inquiry_for (command.Ps text) h n = h

-- it comes where the session stands, or was never resumed
pub asked_still : (s : State) (c : Command) → IsInquiry c → refused_by_state s c ≡ None → IsStill s
asked_still Fresh c p e = tt
asked_still Stopped c p e = tt
asked_still (Running how) (command.Break spot) p e = cc
asked_still (Running how) (command.Clear spot) p e = cc
asked_still (Running how) command.Frames p e = cc
asked_still (Running how) (command.Frame k) p e = cc
asked_still (Running how) command.Regs p e = absurd p
asked_still (Running how) command.Continue p e = absurd p
asked_still (Running how) command.Step p e = absurd p
asked_still (Running how) (command.Turns k) p e = absurd p
asked_still (Running how) command.Quit p e = absurd p
asked_still (Running how) (command.Print name) p e = cc
asked_still (Running how) (command.Eval text) p e = absurd p
asked_still (Running how) (command.Assign text) p e = absurd p
asked_still (Running how) (command.Code text) p e = absurd p
asked_still (Running how) (command.Ps text) p e = cc
asked_still Ended (command.Break spot) p e = cc
asked_still Ended (command.Clear spot) p e = cc
asked_still Ended command.Frames p e = cc
asked_still Ended (command.Frame k) p e = cc
asked_still Ended command.Regs p e = absurd p
asked_still Ended command.Continue p e = absurd p
asked_still Ended command.Step p e = absurd p
asked_still Ended (command.Turns k) p e = absurd p
asked_still Ended command.Quit p e = absurd p
asked_still Ended (command.Print name) p e = cc
asked_still Ended (command.Eval text) p e = absurd p
asked_still Ended (command.Assign text) p e = absurd p
asked_still Ended (command.Code text) p e = absurd p
asked_still Ended (command.Ps text) p e = cc

-- `regs` comes there too, and while a resume is interrupted
pub regs_by : {P : Type 0} (m : Mode) (s : State) → s ≡ state_of m → refused_by_state s command.Regs ≡ None → (IsStill s → P) → ((how : How) → m ≡ mode.Running how → P) → P
regs_by mode.Fresh s e r still running = still (subst IsStill (sym e) tt)
regs_by mode.Stopped s e r still running = still (subst IsStill (sym e) tt)
regs_by (mode.Running how) s e r still running = running how refl
regs_by mode.Ended s e r still running = let h : refused_by_state Ended command.Regs ≡ None = subst (λ (x : State). refused_by_state x command.Regs ≡ None) e r in absurd (some_none h)
  where
    some_none : {u : Refusal} → Some u ≡ None → ⊥
    some_none h = cc

module _ (b : Behaviour) (c : Conduct) (o : Option World) (first : SideRecord) (second : Option SideRecord) (st : SessionState) (x y z : ℕ) where
  said_for : (P Q : Reply → SessionState → Type 0) → ((reply : Reply) (st' : SessionState) → P reply st' → Q reply st') → (text : List ℕ) → SaidAll b c o first second st P text → SaidAll b c o first second st Q text
  said_for P Q f text s = record { reply = s.reply; after = s.after; hosts = s.hosts; says = f s.reply s.after s.says; text_is = s.text_is; there = s.there; sides = s.sides; state = s.state; limit = s.limit; written = s.written }

  -- what is asked says this too, also since a time before
  pub said_since : (P Q : Reply → SessionState → Type 0) → ((reply : Reply) (st' : SessionState) → P reply st' → Q reply st') → x ≤ y → (r : Result (List ℕ) AskFault)
      → ComesTo y z (λ text. SaidAll b c o first second st P text) (NotAll b c o first second st P) r → ComesTo x z (λ text. SaidAll b c o first second st Q text) (NotAll b c o first second st Q) r
  said_since P Q f h (Ok text) w = said_for P Q f text w
  said_since P Q f h (Err (Refused cause)) w = said_for P Q f _ w
  said_since P Q f h (Err (Raised e)) w = said_for P Q f _ w
  said_since P Q f h (Err Spent) w = said_for P Q f _ w
  said_since P Q f h (Err NoMemory) w = w
  said_since P Q f h (Err (Broken LinkFault)) w = rose_since x y z h w
  said_since P Q f h (Err (Broken (BadReply frame))) w = w
  said_since P Q f h (Err (Broken (Outside p))) w = w

  -- `regs` of sides that stand for these
  regs_said : (hs : Hosts) → SidesStand (sides_of first second hs) st → (text : List ℕ) → AreThere b c o first second hs × (text ≡ joined (all_regs st)) → SaidAll b c o first second st (AnswersCommand b st command.Regs) text
  regs_said hs sides text w = record { reply = all_regs st; after = st; hosts = hs; says = inl (refl, refl); text_is = w.1; there = w.0; sides = sides; state = refl; limit = refl; written = refl }

  pub regs_since : (hs : Hosts) → SidesStand (sides_of first second hs) st → x ≤ y → (r : Result (List ℕ) AskFault) → ComesTo y z (λ text. AreThere b c o first second hs × (text ≡ joined (all_regs st))) (λ e. ⊥) r
      → ComesTo x z (λ text. SaidAll b c o first second st (AnswersCommand b st command.Regs) text) (NotAll b c o first second st (AnswersCommand b st command.Regs)) r
  regs_since hs sides h (Ok text) w = regs_said hs sides text w
  regs_since hs sides h (Err (Refused cause)) w = absurd w
  regs_since hs sides h (Err (Raised e)) w = absurd w
  regs_since hs sides h (Err Spent) w = absurd w
  regs_since hs sides h (Err NoMemory) w = w
  regs_since hs sides h (Err (Broken LinkFault)) w = rose_since x y z h w
  regs_since hs sides h (Err (Broken (BadReply frame))) w = w
  regs_since hs sides h (Err (Broken (Outside p))) w = w
