-- A command that is asked of both sides.
use Rattle.std.proofs.Common.{◌≡◌, ◌≢◌, ◌⊎◌, ◌∙◌, inl, inr, refl, sym, ap, subst, ℕ, ◌≤◌, List, [], length, drop, Option, Some, None, Result, Ok, Err}
use Rattle.machine_state.specs.State.{MachineState, Behaviour, order_of as machine_order}
use Rattle.nub_wire.specs.declared.link.Side.{Side}
use Rattle.nub_wire.specs.Rest.{other}
use Rattle.resuming.specs.Standing.{Stands}
use Rattle.nub_wire.specs.Nub.{Host}
use Rattle.nub_wire.specs.Delivery.{Conduct, World}
use Rattle.abs_mem.specs.declared.memory.MemFault.{MemFault}
use Rattle.abs_mem.specs.declared.memory.MemFault.TheVariants.{Outside, LinkFault, BadReply}
use Rattle.table_points.specs.Rows.{row_in}
use Rattle.debug_side.specs.Told.{with_regions}
use Rattle.table_asks.specs.declared.fault.AskFault.{AskFault}
use Rattle.table_asks.specs.declared.fault.AskFault.TheVariants.{Refused, Raised, Spent, NoMemory, Broken}
use Rattle.ps_step.specs.declared.machine.PsCore.{PsCore}
use Rattle.dialect_model.specs.Dial.{Dial, Target}
use Rattle.dialect_model.specs.TableUse.{Kind, Wanting}
use Rattle.dialect_model.specs.TableUse.{Refused as RefusedFor, Spent as StepsSpent}
use Rattle.c_session.specs.declared.command.Spot.{Spot}
use Rattle.c_session.specs.declared.command.Command.{Command}
use Rattle.c_session.specs.declared.command.Command.TheVariants as command
use Rattle.asking.specs.Refusals.{refusal_of}
use Rattle.asking_meaning.specs.Meant.{joined}
use Rattle.claims.specs.Side.{SideState, SessionState, Change, OnSide, Troubled}
use Rattle.claims.specs.Lines.{Reply, trouble_reply}
use Rattle.claims.specs.Breaks as side_breaks
use Rattle.claims.specs.Frames as side_frames
use Rattle.claims.specs.Printing as side_printing
use Rattle.claims.specs.Raw.{RunsPs, wants, not_begun, ended, wanting, wanting_at_end, with_run}
use Rattle.claims.specs.Outcome.{Comes, OneSide, DoneOnBoth, SecondDone, SecondUndone, told_of, undone_by}
use Rattle.side_meaning.specs.Standing.{Debugged}
use Rattle.side_meaning.specs.Stepping.{IsReady}
use Rattle.side_meaning.specs.Asking.{IsAsked}
use Rattle.side_meaning.proofs.Starting.{asks_stand, no_words}
use Rattle.session.specs.declared.sides.SideRecord.{SideRecord}
use Rattle.session.specs.Kept.{IsFailure, IsQuery, IsUndone}
use Rattle.session.specs.Wanting.{IsAskedAlone, IsText}
use Rattle.session.specs.Meant.{debugged, sides_of, Hosts, IsThere, AreThere, AreReadyFor, ComesTo, IsLook, SetsBreaks, IsBare, IsPlain, IsInquiry, AskedOne, SaidOne, NotOne, RanOne, SaidAll, NotAll}
use Rattle.session.specs.Undoing.{words_before, undone_host, IsGivenUp, ReadsBefore}
use Rattle.session.proofs.GivenUp.{undone_is as undone_host_is}
use Rattle.side_meaning.proofs.Telling.{memories}
use Rattle.abs_mem.specs.WireMeaning.{memory_of}
use Rattle.debug_side.specs.declared.there.WordThere.{WordThere}
use Rattle.table_points.specs.declared.row.Point.{Point}
use Rattle.session.specs.Turned.{byte_of, order_of}
use Rattle.session.proofs.Regs.{rose_since}
use Rattle.session.proofs.Asking.{none_mapped}
use Rattle.session.proofs.AskingOne.{AsksSide}
use Rattle.session.proofs.Beside.{stands_beside, second_beside, first_beside}
use Rattle.session.proofs.Readying.{hosts}

-- ---- a side of which nothing is asked

pub asked_none : (d : Debugged) (a : SideState) → IsReady d a → a.step_words ≡ [] → IsAsked d d a a
asked_none d a r none = record {
  words = none_mapped (row_in d.table) d.row.step_words.items (sym r.planted.words ∙ none);
  table = r.stands.table;
  frame = r.stands.frame;
  breaks = r.stands.alike.breaks;
  stands_at = refl;
  kept = refl;
  host = ap (λ (m : MachineState). with_regions d.host m.memory) (sym r.planted.machine);
  side = refl;
}

-- no text of PostScript
abbrev pub IsNoText : Command → Type 0
IsNoText c = (text : List ℕ) → c ≢ command.Ps text

plain_no_text : (c : Command) → IsPlain c → IsNoText c
plain_no_text c p text e = subst IsPlain e p

-- a command is a text, or none
text_or : {P : Type 0} (c : Command) → IsInquiry c → ((text : List ℕ) → c ≡ command.Ps text → P) → (IsNoText c → P) → P
text_or (command.Ps text) i is_so isnt = is_so text refl
text_or c i is_so isnt = isnt (plain_no_text c i)

pub breaks_or : {P : Type 0} (c : Command) → (SetsBreaks c → P) → ((SetsBreaks c → ⊥) → P) → P
breaks_or (command.Break spot) is_so isnt = is_so tt
breaks_or (command.Clear spot) is_so isnt = is_so tt
breaks_or c is_so isnt = isnt (λ h. h)

pub sets_bare : (c : Command) → SetsBreaks c → IsBare c
sets_bare (command.Break spot) s = tt
sets_bare (command.Clear spot) s = tt
sets_bare c s = absurd s

pub sets_no_text : (c : Command) → SetsBreaks c → IsNoText c
sets_no_text c s text e = subst SetsBreaks e s

pub sets_inquiry : (c : Command) → SetsBreaks c → IsInquiry c
sets_inquiry (command.Break spot) s = tt
sets_inquiry (command.Clear spot) s = tt
sets_inquiry c s = absurd s

abbrev unsaid : AskFault → Result (List ℕ) AskFault
unsaid f = Err f

pub unsaid_is : (f e : AskFault) → unsaid f ≡ Err e → f ≡ e
unsaid_is f e h = cc

pub unwanted : (f : AskFault) → unsaid f ≡ Err NoMemory → IsFailure f
unwanted f e = let is : f ≡ NoMemory = cc in subst IsFailure (sym is) tt

pub failure_or : {P : Type 0} (f : AskFault) → (IsFailure f → P) → ((IsFailure f → ⊥) → P) → P
failure_or (Refused cause) is_so isnt = isnt (λ h. h)
failure_or (Raised e) is_so isnt = isnt (λ h. h)
failure_or Spent is_so isnt = isnt (λ h. h)
failure_or NoMemory is_so isnt = is_so tt
failure_or (Broken f) is_so isnt = is_so tt

-- one that is asked alone sets breakpoints, or stores nothing
pub alone_or : {P : Type 0} (c : Command) → IsAskedAlone c → (SetsBreaks c → P) → ((SetsBreaks c → ⊥) → IsLook c → P) → P
alone_or (command.Break spot) r sets looks = sets tt
alone_or (command.Clear spot) r sets looks = sets tt
alone_or command.Frames r sets looks = looks (λ h. h) tt
alone_or (command.Frame n) r sets looks = looks (λ h. h) tt
alone_or (command.Print name) r sets looks = looks (λ h. h) tt
alone_or (command.Eval text) r sets looks = looks (λ h. h) tt
alone_or (command.Code text) r sets looks = looks (λ h. h) tt
alone_or c r sets looks = absurd r

pub alone_no_text : (c : Command) → IsAskedAlone c → IsNoText c
alone_no_text c r text e = subst IsAskedAlone e r

-- a text sets none, and is a query
pub text_sets : (c : Command) → IsText c → SetsBreaks c → ⊥
text_sets (command.Ps text) t s = s
text_sets c t s = t

pub text_query : (c : Command) → IsText c → IsQuery c
text_query (command.Ps text) t = tt
text_query c t = absurd t

pub look_no_text : (c : Command) → IsLook c → IsNoText c
look_no_text c l text e = subst IsLook e l

pub look_sets : (c : Command) → IsLook c → SetsBreaks c → ⊥
look_sets (command.Break spot) l s = l
look_sets (command.Clear spot) l s = l
look_sets c l s = s

pub not_sets : (c : Command) → ((spot : Spot) → c ≢ command.Break spot) → ((spot : Spot) → c ≢ command.Clear spot) → SetsBreaks c → ⊥
not_sets (command.Break spot) n m s = n spot refl
not_sets (command.Clear spot) n m s = m spot refl
not_sets c n m s = s

abbrev some_side : SideState → Option SideState
some_side x = Some x

second_left : (e : Troubled) (c : Command) → IsInquiry c → IsNoText c → (b : SideState) → SecondUndone e c (Some b) e (Some b)
second_left e (command.Break spot) p apart b = (refl, inl refl)
second_left e (command.Clear spot) p apart b = (refl, inl refl)
second_left e command.Frames p apart b = (refl, inl refl)
second_left e (command.Frame n) p apart b = (refl, inl refl)
second_left e (command.Ps text) p apart b = absurd (apart text refl)
second_left e command.Continue p apart b = absurd p
second_left e command.Step p apart b = absurd p
second_left e (command.Turns n) p apart b = absurd p
second_left e command.Quit p apart b = absurd p
second_left e command.Regs p apart b = absurd p
second_left e (command.Print name) p apart b = (refl, inl refl)
second_left e (command.Eval text) p apart b = absurd p
second_left e (command.Assign text) p apart b = absurd p
second_left e (command.Code text) p apart b = absurd p

-- where memory was found on the second side, the first one's trouble is told
told_same : (e : Troubled) (r : Result Change Troubled) → r ≢ Err Wanting → told_of e r ≡ e
told_same e (Ok x) n = refl
told_same e (Err (RefusedFor u)) n = refl
told_same e (Err (Kind x)) n = refl
told_same e (Err StepsSpent) n = refl
told_same e (Err Wanting) n = absurd (n refl)

-- ---- a side that doesn't do it

units_run : (m : OnSide Change) (a x : SideState) (e : Troubled) → Comes m a (Err e) x → record a { table = x.table } ≡ x
units_run m a x e c = ap (λ (z : SideState). record a { table = z.table }) c.leaves ∙ sym c.leaves

-- a text that was run, and what it stored
run_same : (text : List ℕ) (a : SideState) (d : Dial) (c : PsCore) (o : Option Target) → undone_by (command.Ps text) a (with_run a (record d { target = o }) c) ≡ with_run a (record d { target = o }) c
run_same text a d c None = refl
run_same text a d c (Some t) = refl

text_same : (text : List ℕ) (a x : SideState) (r : Result Change Troubled) → RunsPs a text r x → undone_by (command.Ps text) a x ≡ x
text_same text a _ _ wants = refl
text_same text a _ _ (not_begun w) = refl
text_same text a _ _ (ended {d = d} {c = c} w runs) = run_same text a d c d.target
text_same text a _ _ (wanting {d = d} {c = c} w less runs) = run_same text a d c d.target
text_same text a _ _ (wanting_at_end {d = d} {c = c} w runs) = run_same text a d c d.target

undone_is : (c : Command) → IsInquiry c → (a x : SideState) (e : Troubled) → OneSide c a (Err e) x → undone_by c a x ≡ x
undone_is (command.Break spot) p a x e w = units_run (side_breaks.breaking a spot) a x e w
undone_is (command.Clear spot) p a x e w = units_run (side_breaks.clearing a spot) a x e w
undone_is command.Frames p a x e w = units_run (side_frames.listing a) a x e w
undone_is (command.Frame n) p a x e w = units_run (side_frames.choosing a n) a x e w
undone_is (command.Ps text) p a x e w = text_same text a x (Err e) w
undone_is command.Continue p a x e w = absurd p
undone_is command.Step p a x e w = absurd p
undone_is (command.Turns n) p a x e w = absurd p
undone_is command.Quit p a x e w = absurd p
undone_is command.Regs p a x e w = absurd p
undone_is (command.Print name) p a x e w = units_run (side_printing.printing a name) a x e w
undone_is (command.Eval text) p a x e w = absurd p
undone_is (command.Assign text) p a x e w = absurd p
undone_is (command.Code text) p a x e w = absurd p

-- ---- both

-- neither the link failed nor was memory wanting
abbrev pub IsAnswer : Result (List ℕ) AskFault → Type 0
IsAnswer (Ok text) = Unit {0}
IsAnswer (Err (Refused cause)) = Unit {0}
IsAnswer (Err (Raised e)) = Unit {0}
IsAnswer (Err Spent) = Unit {0}
IsAnswer (Err NoMemory) = ⊥
IsAnswer (Err (Broken f)) = ⊥

-- a link that fails later has not failed before
broken_since : (f f1 f2 : ℕ) (D D' : List ℕ → Type 0) (N N' : Troubled → Type 0) (fault : MemFault) → f ≤ f1 → ComesTo f1 f2 D N (Err (Broken fault)) → ComesTo f f2 D' N' (Err (Broken fault))
broken_since f f1 f2 D D' N N' LinkFault le w = rose_since f f1 f2 le w
broken_since f f1 f2 D D' N N' (BadReply frame) le w = w
broken_since f f1 f2 D D' N N' (Outside p) le w = w

gives_up : (f f2 f3 : ℕ) (D : List ℕ → Type 0) (N : Troubled → Type 0) (Done : Type 0) (fault : AskFault) → f ≤ f2 → IsGivenUp f2 f3 Done fault → ComesTo f f3 D N (Err fault)
gives_up f f2 f3 D N Done NoMemory le w = tt
gives_up f f2 f3 D N Done (Broken LinkFault) le w = rose_since f f2 f3 le w
gives_up f f2 f3 D N Done (Broken (BadReply frame)) le w = absurd w
gives_up f f2 f3 D N Done (Broken (Outside p)) le w = absurd w
gives_up f f2 f3 D N Done (Refused cause) le w = absurd w
gives_up f f2 f3 D N Done (Raised e) le w = absurd w
gives_up f f2 f3 D N Done Spent le w = absurd w

module _ (b : Behaviour) (c : Conduct) (o o1 : Option World) (first first' second : SideRecord) (which : first'.which ≡ first.which) (now : Command) (inquiry : IsInquiry now) where
  module _ (g h : Host) (st : SessionState) (s : SideState) (there : AreThere b c o first (Some second) (hosts g (Some h))) (ready : AreReadyFor first (Some second) (hosts g (Some h)) (record st { second = Some s })) where
    abbrev two : SessionState
    two = record st { second = Some s }

    none : st.first.step_words ≡ []
    none = no_words st.state (debugged first g) st.first ready.still ready.sides.first

    second_none : s.step_words ≡ []
    second_none = no_words st.state (debugged second h) s ready.still ready.sides.second

    -- the first side was asked
    module _ (r : Result Change Troubled) (x : AskedOne b c o1 first first' g (Some h) now st.first r) where
      waits : IsThere b c o1 second h (Some x.host)
      waits = second_beside b c o o1 first' second h x.host (Some g) there.second_there.0 there.second_there.1 (which ∙ there.first_is) x.there

      abbrev after : SideState → SessionState
      after y = record st { first = x.after; second = Some y }

      said : (o2 : Option World) (second' : SideRecord) (k : Host) (y : SideState) (reply : Reply) (text : List ℕ) → second'.which ≡ second.which → IsThere b c o2 second' k (Some x.host) → IsThere b c o2 first' x.host (Some k)
          → IsAsked (debugged second h) (debugged second' k) s y → DoneOnBoth two now reply (after y) → text ≡ joined reply → SaidAll b c o2 first' (Some second') two (DoneOnBoth two now) text
      said o2 second' k y reply text e w v alike says is = record {
        reply = reply;
        after = after y;
        hosts = hosts x.host (Some k);
        says = says;
        text_is = is;
        there = record { first_is = which ∙ there.first_is; first_there = v; second_there = (e ∙ there.second_there.0, w) };
        sides = (asks_stand (sides_of first (Some second) (hosts g (Some h))) (sides_of first' (Some second') (hosts x.host (Some k))) two (after y) ready.still ready.sides ready.ready refl x.alike alike).0;
        state = refl;
        limit = refl;
        written = refl;
      }

    -- it isn't done there, and nothing is asked of the second side
    first_not : IsNoText now → (e : Troubled) → NotOne b c o1 first first' g (Some h) now st.first e → NotAll b c o1 first' (Some second) two (DoneOnBoth two now) e
    first_not apart e x =
        said (Err e) x o1 second h s (trouble_reply e) (joined (trouble_reply e)) refl (waits (Err e) x) x.there (asked_none (debugged second h) s ready.ready.1 second_none)
        (Err e, x.after, x.one, (e, Some s, second_left e now inquiry apart s, refl, refl)) refl

    first_undone_by : IsNoText now → (f f1 : ℕ) (fault : AskFault) → ComesTo f f1 (λ (text : List ℕ). SaidOne b c o1 first first' g (Some h) now st.first text) (NotOne b c o1 first first' g (Some h) now st.first) (Err fault)
        → ComesTo f f1 (λ (text : List ℕ). SaidAll b c o1 first' (Some second) two (DoneOnBoth two now) text) (NotAll b c o1 first' (Some second) two (DoneOnBoth two now)) (Err fault)
    first_undone_by apart f f1 (Refused cause) w = first_not apart (RefusedFor (refusal_of cause)) w
    first_undone_by apart f f1 (Raised e) w = first_not apart (Kind e) w
    first_undone_by apart f f1 Spent w = first_not apart StepsSpent w
    first_undone_by apart f f1 NoMemory w = w
    first_undone_by apart f f1 (Broken LinkFault) w = w
    first_undone_by apart f f1 (Broken (BadReply frame)) w = w
    first_undone_by apart f f1 (Broken (Outside p)) w = w

    -- why it isn't done is a failure: nothing is said of the sides
    failed_by : (f f1 : ℕ) (D : List ℕ → Type 0) (N : Troubled → Type 0) (fault : AskFault) → IsFailure fault → ComesTo f f1 (λ (text : List ℕ). SaidOne b c o1 first first' g (Some h) now st.first text) (NotOne b c o1 first first' g (Some h) now st.first) (Err fault)
        → ComesTo f f1 D N (Err fault)
    failed_by f f1 D N (Refused cause) is w = absurd is
    failed_by f f1 D N (Raised e) is w = absurd is
    failed_by f f1 D N Spent is w = absurd is
    failed_by f f1 D N NoMemory is w = tt
    failed_by f f1 D N (Broken LinkFault) is w = w
    failed_by f f1 D N (Broken (BadReply frame)) is w = w
    failed_by f f1 D N (Broken (Outside p)) is w = w

    -- a text that ended in a trouble there ran on the second side too
    module _ (o2 : Option World) (second' : SideRecord) (second_which : second'.which ≡ second.which) (text : List ℕ) (is : now ≡ command.Ps text) (f f1 f2 : ℕ) (le : f ≤ f1) where
      abbrev Undone : Troubled → SideState → Type 0
      Undone e y = SecondUndone e (command.Ps text) (Some s) e (Some y)

      text_not : (e : Troubled) (x : NotOne b c o1 first first' g (Some h) now st.first e) → RanOne b c o2 second second' h (Some x.host) (command.Ps text) s → NotAll b c o2 first' (Some second') two (DoneOnBoth two now) e
      text_not e x y =
          let stays : IsThere b c o2 first' x.host (Some y.asked.host) = first_beside b c o1 o2 first' second' x.host y.asked.host (Some h) (which ∙ there.first_is) x.there (second_which ∙ there.second_there.0) y.asked.there in
          let undone : Undone e y.asked.after = (y.result, y.asked.after, y.asked.one, sym (told_same e y.result y.found_memory), ap some_side (sym (text_same text s y.asked.after y.result y.asked.one))) in
          said (Err e) x o2 second' y.asked.host y.asked.after (trouble_reply e) (joined (trouble_reply e)) second_which y.asked.there stays y.asked.alike
          (Err e, x.after, x.one, (e, Some y.asked.after, subst (λ (z : Command). SecondUndone e z (Some s) e (Some y.asked.after)) (sym is) undone, refl, refl)) refl

      abbrev RanBehind : (fault answer : AskFault) → Type 0
      RanBehind fault answer = (beside : Option Host) → IsThere b c o1 second h beside → ((answer ≡ fault) × RanOne b c o2 second second' h beside (command.Ps text) s) ⊎ IsGivenUp f1 f2 (Unit {0}) answer

      abbrev Outcome : AskFault → Type 0
      Outcome answer = ComesTo f f2 (λ (u : List ℕ). SaidAll b c o2 first' (Some second') two (DoneOnBoth two now) u) (NotAll b c o2 first' (Some second') two (DoneOnBoth two now)) (Err answer)

      text_by : (e : Troubled) (x : NotOne b c o1 first first' g (Some h) now st.first e) (fault answer : AskFault) → (NotAll b c o2 first' (Some second') two (DoneOnBoth two now) e → Outcome fault)
          → ((answer ≡ fault) × RanOne b c o2 second second' h (Some x.host) (command.Ps text) s) ⊎ IsGivenUp f1 f2 (Unit {0}) answer → Outcome answer
      text_by e x fault answer to (inl y) = subst Outcome (sym y.0) (to (text_not e x y.1))
      text_by e x fault answer to (inr y) = gives_up f f1 f2 (λ (u : List ℕ). SaidAll b c o2 first' (Some second') two (DoneOnBoth two now) u) (NotAll b c o2 first' (Some second') two (DoneOnBoth two now)) (Unit {0}) answer le y

      text_undone_by : (fault answer : AskFault) → (IsFailure fault → ⊥)
          → ComesTo f f1 (λ (text : List ℕ). SaidOne b c o1 first first' g (Some h) now st.first text) (NotOne b c o1 first first' g (Some h) now st.first) (Err fault) → RanBehind fault answer → Outcome answer
      text_undone_by (Refused cause) answer n w ran = let e = RefusedFor (refusal_of cause) in text_by e w (Refused cause) answer (λ z. z) (ran (Some w.host) (waits (Err e) w))
      text_undone_by (Raised x) answer n w ran = text_by (Kind x) w (Raised x) answer (λ z. z) (ran (Some w.host) (waits (Err (Kind x)) w))
      text_undone_by Spent answer n w ran = text_by StepsSpent w Spent answer (λ z. z) (ran (Some w.host) (waits (Err StepsSpent) w))
      text_undone_by NoMemory answer n w ran = absurd (n tt)
      text_undone_by (Broken x) answer n w ran = absurd (n tt)

    -- it is done there
    module _ (o2 : Option World) (second' : SideRecord) (second_which : second'.which ≡ second.which) (text : List ℕ) (x : SaidOne b c o1 first first' g (Some h) now st.first text) where
      abbrev host1 : Host
      host1 = x.asked.host

      module _ (r : Result Change Troubled) (y : AskedOne b c o2 second second' h (Some host1) now s r) where
        first_stays : IsThere b c o2 first' host1 (Some y.host)
        first_stays = first_beside b c o1 o2 first' second' host1 y.host (Some h) (which ∙ there.first_is) x.asked.there (second_which ∙ there.second_there.0) y.there

        both : SecondDone two now x.change x.asked.after s r y.after x.change.lines (after (Ok x.change) x.asked y.after) → SaidAll b c o2 first' (Some second') two (DoneOnBoth two now) text
        both says =
            said (Ok x.change) x.asked o2 second' y.host y.after x.change.lines text second_which y.there first_stays y.alike
            (Ok x.change, x.asked.after, x.asked.one, (r, y.after, y.one, says)) x.text_is

      second_not : (e : Troubled) (y : AskedOne b c o2 second second' h (Some host1) now s (Err e)) → record two { first = x.asked.after; second = Some y.after } ≡ record two { first = x.asked.after; second = Some (undone_by now s y.after) }
      second_not e y = ap (λ (z : SideState). record two { first = x.asked.after; second = Some z }) (sym (undone_is now inquiry s y.after e y.one))

      second_told_by : (f f1 : ℕ) (r : Result (List ℕ) AskFault) → IsAnswer r → ComesTo f f1 (λ (t : List ℕ). SaidOne b c o2 second second' h (Some host1) now s t) (NotOne b c o2 second second' h (Some host1) now s) r
          → SaidAll b c o2 first' (Some second') two (DoneOnBoth two now) text
      second_told_by f f1 (Ok other) is y = both (Ok y.change) y.asked (refl, refl)
      second_told_by f f1 (Err (Refused cause)) is y = both (Err (RefusedFor (refusal_of cause))) y (refl, second_not (RefusedFor (refusal_of cause)) y)
      second_told_by f f1 (Err (Raised e)) is y = both (Err (Kind e)) y (refl, second_not (Kind e) y)
      second_told_by f f1 (Err Spent) is y = both (Err StepsSpent) y (refl, second_not StepsSpent y)
      second_told_by f f1 (Err NoMemory) is y = absurd is
      second_told_by f f1 (Err (Broken fault)) is y = absurd is

  -- what holds of two sides that are there holds of the session
  two_sides : (P : SessionState → Type 0) (hs : Hosts) (st : SessionState) → AreThere b c o first (Some second) hs → AreReadyFor first (Some second) hs st
      → ((h : Host) (s : SideState) → AreThere b c o first (Some second) (hosts hs.first (Some h)) → AreReadyFor first (Some second) (hosts hs.first (Some h)) (record st { second = Some s }) → P (record st { second = Some s })) → P st
  two_sides P hs st there ready holds = by hs.second st.second there ready
    where
      by : (x : Option Host) (y : Option SideState) → AreThere b c o first (Some second) (hosts hs.first x) → AreReadyFor first (Some second) (hosts hs.first x) (record st { second = y }) → P (record st { second = y })
      by (Some h) (Some s) t r = holds h s t r
      by (Some h) None t r = absurd r.ready.1
      by None y t r = absurd t.second_there

  -- the first side doesn't do it
  first_undone : IsNoText now → (hs : Hosts) (st : SessionState) (f f1 : ℕ) (fault : AskFault) → AreThere b c o first (Some second) hs → AreReadyFor first (Some second) hs st → AsksSide b c o o1 f f1 first first' now (Err fault)
      → ComesTo f f1 (λ (text : List ℕ). SaidAll b c o1 first' (Some second) st (DoneOnBoth st now) text) (NotAll b c o1 first' (Some second) st (DoneOnBoth st now)) (Err fault)
  first_undone apart hs st f f1 fault there ready asks =
      two_sides (λ (z : SessionState). ComesTo f f1 (λ (text : List ℕ). SaidAll b c o1 first' (Some second) z (DoneOnBoth z now) text) (NotAll b c o1 first' (Some second) z (DoneOnBoth z now)) (Err fault)) hs st there ready
      (λ h s t r. first_undone_by hs.first h st s t r apart f f1 fault (asks hs.first (Some h) st.first t.first_there r.ready.0 (none hs.first h st s t r) inquiry))

  -- where nothing is asked of the second side
  left_undone : (hs : Hosts) (st : SessionState) (f f1 g : ℕ) (p : Option World) (other : SideRecord) (fault answer : AskFault) → AreThere b c o first (Some second) hs → AreReadyFor first (Some second) hs st → AsksSide b c o o1 f f1 first first' now (Err fault)
      → IsNoText now → answer ≡ fault → other ≡ second → p ≡ o1 → g ≡ f1 → ComesTo f g (λ (text : List ℕ). SaidAll b c p first' (Some other) st (DoneOnBoth st now) text) (NotAll b c p first' (Some other) st (DoneOnBoth st now)) (Err answer)
  left_undone hs st f f1 g p other fault answer there ready asks apart e1 e2 e3 e4 =
      subst (λ (z : AskFault). ComesTo f g (λ (text : List ℕ). SaidAll b c p first' (Some other) st (DoneOnBoth st now) text) (NotAll b c p first' (Some other) st (DoneOnBoth st now)) (Err z)) (sym e1)
      (subst (λ (z : SideRecord). ComesTo f g (λ (text : List ℕ). SaidAll b c p first' (Some z) st (DoneOnBoth st now) text) (NotAll b c p first' (Some z) st (DoneOnBoth st now)) (Err fault)) (sym e2)
      (subst (λ (z : Option World). ComesTo f g (λ (text : List ℕ). SaidAll b c z first' (Some second) st (DoneOnBoth st now) text) (NotAll b c z first' (Some second) st (DoneOnBoth st now)) (Err fault)) (sym e3)
      (subst (λ (z : ℕ). ComesTo f z (λ (text : List ℕ). SaidAll b c o1 first' (Some second) st (DoneOnBoth st now) text) (NotAll b c o1 first' (Some second) st (DoneOnBoth st now)) (Err fault)) (sym e4)
      (first_undone apart hs st f f1 fault there ready asks))))

  -- the link failed, or memory was wanting
  left_failed : (hs : Hosts) (st : SessionState) (f f1 g : ℕ) (D : List ℕ → Type 0) (N : Troubled → Type 0) (fault answer : AskFault) → AreThere b c o first (Some second) hs → AreReadyFor first (Some second) hs st → AsksSide b c o o1 f f1 first first' now (Err fault)
      → IsFailure fault → answer ≡ fault → g ≡ f1 → ComesTo f g D N (Err answer)
  left_failed hs st f f1 g D N fault answer there ready asks failed e1 e2 =
      subst (λ (z : AskFault). ComesTo f g D N (Err z)) (sym e1)
      (subst (λ (z : ℕ). ComesTo f z D N (Err fault)) (sym e2)
      (two_sides (λ (z : SessionState). ComesTo f f1 D N (Err fault)) hs st there ready
      (λ h s t r. failed_by hs.first h st s t r f f1 D N fault failed (asks hs.first (Some h) st.first t.first_there r.ready.0 (none hs.first h st s t r) inquiry))))

  -- so it is where a text ran on the second side, or nothing is asked of that one
  pub undone_both : (hs : Hosts) (st : SessionState) (f f1 f2 : ℕ) (o2 : Option World) (second' : SideRecord) (fault answer : AskFault) → AreThere b c o first (Some second) hs → AreReadyFor first (Some second) hs st → AsksSide b c o o1 f f1 first first' now (Err fault)
      → ((IsFailure fault → ⊥) → f ≤ f1) → second'.which ≡ second.which → (IsNoText now → (answer ≡ fault) × (second' ≡ second) × (o2 ≡ o1) × (f2 ≡ f1)) → (IsFailure fault → (answer ≡ fault) × (f2 ≡ f1))
      → ((text : List ℕ) (h : Host) (beside : Option Host) (a : SideState) → now ≡ command.Ps text → (IsFailure fault → ⊥) → IsThere b c o1 second h beside → IsReady (debugged second h) a → a.step_words ≡ []
      → ((answer ≡ fault) × RanOne b c o2 second second' h beside (command.Ps text) a) ⊎ IsGivenUp f1 f2 (Unit {0}) answer)
      → ComesTo f f2 (λ (u : List ℕ). SaidAll b c o2 first' (Some second') st (DoneOnBoth st now) u) (NotAll b c o2 first' (Some second') st (DoneOnBoth st now)) (Err answer)
  undone_both hs st f f1 f2 o2 second' fault answer there ready asks le e2 left failed ran =
      failure_or fault
      (λ is. left_failed hs st f f1 f2 (λ (u : List ℕ). SaidAll b c o2 first' (Some second') st (DoneOnBoth st now) u) (NotAll b c o2 first' (Some second') st (DoneOnBoth st now)) fault answer there ready asks is (failed is).0 (failed is).1)
      (λ n.
      text_or now inquiry
      (λ text is.
      two_sides (λ (z : SessionState). ComesTo f f2 (λ (u : List ℕ). SaidAll b c o2 first' (Some second') z (DoneOnBoth z now) u) (NotAll b c o2 first' (Some second') z (DoneOnBoth z now)) (Err answer)) hs st there ready
      (λ h s t r.
      text_undone_by hs.first h st s t r o2 second' e2 text is f f1 f2 (le n) fault answer n (asks hs.first (Some h) st.first t.first_there r.ready.0 (none hs.first h st s t r) inquiry)
      (λ beside x. ran text h beside s is n x r.ready.1 (second_none hs.first h st s t r))))
      (λ apart. let w = left apart in left_undone hs st f f1 f2 o2 second' fault answer there ready asks apart w.0 w.1 w.2 w.3))

  -- the first side does it
  module _ (hs : Hosts) (st : SessionState) (there : AreThere b c o first (Some second) hs) (ready : AreReadyFor first (Some second) hs st) (f f1 : ℕ) (text : List ℕ) (asks : AsksSide b c o o1 f f1 first first' now (Ok text)) where
    -- and the second one answers
    pub second_told : (o2 : Option World) (f2 : ℕ) (second' : SideRecord) (r : Result (List ℕ) AskFault) → second'.which ≡ second.which → IsAnswer r → AsksSide b c o1 o2 f1 f2 second second' now r
        → SaidAll b c o2 first' (Some second') st (DoneOnBoth st now) text
    second_told o2 f2 second' r second_which is more =
        two_sides (λ (z : SessionState). SaidAll b c o2 first' (Some second') z (DoneOnBoth z now) text) hs st there ready
        (λ h s t r'.
        let x = asks hs.first (Some h) st.first t.first_there r'.ready.0 (none hs.first h st s t r') inquiry in
        second_told_by hs.first h st s t r' o2 second' second_which text x f1 f2 r is (more h (Some x.asked.host) s (waits hs.first h st s t r' (Ok x.change) x.asked) r'.ready.1 (second_none hs.first h st s t r') inquiry))

    -- or its link fails
    pub second_failed : (o2 : Option World) (f2 : ℕ) (second' : SideRecord) (y : AskFault) (fault : MemFault) (D : List ℕ → Type 0) (N : Troubled → Type 0) → y ≡ Broken fault → f ≤ f1 → AsksSide b c o1 o2 f1 f2 second second' now (Err y) → ComesTo f f2 D N (Err (Broken fault))
    second_failed o2 f2 second' y fault D N e le more =
        two_sides (λ (z : SessionState). ComesTo f f2 D N (Err (Broken fault))) hs st there ready
        (λ h s t r'.
        let x = asks hs.first (Some h) st.first t.first_there r'.ready.0 (none hs.first h st s t r') inquiry in
        let g : Host = x.asked.host in
        broken_since f f1 f2 (λ (u : List ℕ). SaidOne b c o2 second second' h (Some g) now s u) D (NotOne b c o2 second second' h (Some g) now s) N fault le
        (subst (λ (z : AskFault). ComesTo f1 f2 (λ (u : List ℕ). SaidOne b c o2 second second' h (Some g) now s u) (NotOne b c o2 second second' h (Some g) now s) (Err z)) e
        (more h (Some g) s (waits hs.first h st s t r' (Ok x.change) x.asked) r'.ready.1 (second_none hs.first h st s t r') inquiry)))

    -- or it has no memory for it: the first one is undone
    second_wants : (P : Type 0) (o2 : Option World) → ((h : Host) (beside : Option Host) → IsThere b c o1 second h beside → Stands b c second.which o2 h beside)
        → ((h : Host) (x : SaidOne b c o1 first first' hs.first (Some h) now st.first text) → IsReady (debugged first hs.first) st.first → Stands b c first'.which o2 x.asked.host (Some h) → P) → P
    second_wants P o2 rests then =
        two_sides (λ (z : SessionState). P) hs st there ready
        (λ h s t r'.
        let x = asks hs.first (Some h) st.first t.first_there r'.ready.0 (none hs.first h st s t r') inquiry in
        let y = rests h (Some x.asked.host) (waits hs.first h st s t r' (Ok x.change) x.asked) in
        let other_is : second.which ≡ other first'.which = t.second_there.0 ∙ ap other (sym (which ∙ t.first_is)) in
        then h x r'.ready.0 (stands_beside b c o1 o2 x.asked.host h (Some h) first'.which x.asked.there.stands (subst (λ (w : Side). Stands b c w o2 h (Some x.asked.host)) other_is y)))

    -- a link that failed is told
    pub second_wanted : (o2 : Option World) (f2 f3 : ℕ) (fault : AskFault) (D : List ℕ → Type 0) (N : Troubled → Type 0) (Done : Host → Option Host → Type 0) → (SetsBreaks now → f ≤ f2)
        → ((h : Host) (beside : Option Host) → IsThere b c o1 second h beside → SetsBreaks now → Stands b c second.which o2 h beside)
        → ((h : Host) (beside : Option Host) → Stands b c first'.which o2 h beside → order_of first'.machine ≡ machine_order h.machine → IsGivenUp f2 f3 (Done h beside) fault)
        → ((SetsBreaks now → ⊥) → fault ≡ NoMemory) → ComesTo f f3 D N (Err fault)
    second_wanted o2 f2 f3 fault D N Done le rests gives otherwise =
        breaks_or now
        (λ sets. second_wants (ComesTo f f3 D N (Err fault)) o2 (λ h beside x. rests h beside x sets) (λ h x r y. gives_up f f2 f3 D N (Done x.asked.host (Some h)) fault (le sets) (gives x.asked.host (Some h) y x.asked.there.order)))
        (λ n. subst (λ (z : AskFault). ComesTo f f3 D N (Err z)) (sym (otherwise n)) tt)

    -- and the first side is as it was
    pub first_back : SetsBreaks now → (o2 o3 : Option World) (f2 f3 : ℕ) (fault : AskFault) (before : List Point) (words : List WordThere)
        → ((h : Host) (beside : Option Host) → Stands b c first'.which o2 h beside → order_of first'.machine ≡ machine_order h.machine
        → IsGivenUp f2 f3 (Stands b c first'.which o3 (undone_host now (byte_of first'.machine) (drop (length before) first'.row.breaks.items) words h) beside) fault)
        → before ≡ first.row.breaks.items → words ≡ words_before now (memory_of hs.first.machine) first.row.breaks.items → fault ≡ NoMemory → (x : SaidOne b c o1 first first' hs.first hs.second now st.first text) → Stands b c first'.which o2 x.asked.host hs.second
        → Stands b c first.which o3 hs.first hs.second
    first_back sets o2 o3 f2 f3 fault before words gives same read is x y =
        let target : byte_of first'.machine ≡ hs.first.machine.target = x.asked.there.target ∙ ap (λ (k : Host). k.machine.target) x.asked.alike.host in
        let stands = subst (λ (z : AskFault). IsGivenUp f2 f3 (Stands b c first'.which o3 (undone_host now (byte_of first'.machine) (drop (length before) first'.row.breaks.items) words x.asked.host) hs.second) z) is (gives x.asked.host hs.second y x.asked.there.order) in
        let back =
        undone_host_is (debugged first hs.first) (debugged first' x.asked.host) st.first x.asked.after ready.ready.0.planted.machine ready.ready.0.stands.alike.breaks x.asked.alike (memories b c first.which o hs.first hs.second there.first_there.stands) now sets x.change words x.asked.one
        read in
        subst (λ (w : Side). Stands b c w o3 hs.first hs.second) which
        (subst (λ (k : Host). Stands b c first'.which o3 k hs.second) back
        (subst (λ (n : ℕ). Stands b c first'.which o3 (undone_host now n (drop (length first.row.breaks.items) first'.row.breaks.items) words x.asked.host) hs.second) target
        (subst (λ (ps : List Point). Stands b c first'.which o3 (undone_host now (byte_of first'.machine) (drop (length ps) first'.row.breaks.items) words x.asked.host) hs.second) same stands)))

-- ---- behind what was read of the first side

-- both are there still
pub still_there : (b : Behaviour) (c : Conduct) (o o' : Option World) (first second : SideRecord) (k : Host) (x : Option Host) → AreThere b c o first (Some second) (hosts k x) → Stands b c first.which o' k x → AreThere b c o' first (Some second) (hosts k x)
still_there b c o o' first second k None there s = absurd there.second_there
still_there b c o o' first second k (Some h) there s =
    let y : IsThere b c o' first k (Some h) = record { stands = s; context = there.first_there.context; target = there.first_there.target; order = there.first_there.order; names = there.first_there.names } in
    record {
      first_is = there.first_is;
      first_there = y;
      second_there = (there.second_there.0, second_beside b c o o' first second h k (Some k) there.second_there.0 there.second_there.1 there.first_is y);
    }

-- what wasn't read
pub read_failed : (f f1 : ℕ) (S : Type 0) (words : List WordThere) (D : List ℕ → Type 0) (N : Troubled → Type 0) (fault : AskFault) → ReadsBefore f f1 S words (Err fault) → ComesTo f f1 D N (Err fault)
read_failed f f1 S words D N NoMemory w = tt
read_failed f f1 S words D N (Broken LinkFault) w = w
read_failed f f1 S words D N (Broken (BadReply frame)) w = absurd w
read_failed f f1 S words D N (Broken (Outside p)) w = absurd w
read_failed f f1 S words D N (Refused cause) w = absurd w
read_failed f f1 S words D N (Raised e) w = absurd w
read_failed f f1 S words D N Spent w = absurd w

pub read_rests : (A : Type 0) (f f1 : ℕ) (S : Type 0) (words : List WordThere) (fault : AskFault) → IsUndone {A = A} (Err fault) → ReadsBefore f f1 S words (Err fault) → S
read_rests A f f1 S words NoMemory u w = w.1
read_rests A f f1 S words (Broken x) u w = absurd u
read_rests A f f1 S words (Refused cause) u w = absurd w
read_rests A f f1 S words (Raised e) u w = absurd w
read_rests A f f1 S words Spent u w = absurd w
