-- A resume message by message, over nubs that meet their definition.
use Rattle.std.proofs.Common.{◌≡◌, ◌≢◌, ◌∙◌, refl, sym, ap, subst, ℕ, ◌^◌, ◌<◌, Bool, true, false, if◌then◌else◌, List, [], ◌∷◌, ◌++◌, Option, Some, None, Result, Ok, Err, IfOk, append_assoc, append-nil}
use Rattle.ldb_edge.specs.Known.{known_and}
use Rattle.machine_state.specs.State.{Behaviour}
use Rattle.machine_state.specs.Runs.{run_of}
use Rattle.nub_wire.specs.declared.message.Msg.{Msg}
use Rattle.nub_wire.specs.declared.message.Msg.TheVariants as msg
use Rattle.nub_wire.specs.declared.message.Ending.{Ending}
use Rattle.nub_wire.specs.declared.message.Ending.TheVariants as ending
use Rattle.nub_wire.specs.declared.link.Side.{Side}
use Rattle.nub_wire.specs.Endings.{reply_of}
use Rattle.nub_wire.specs.Spelling.{frame_of, MsgFits}
use Rattle.nub_wire.specs.Nub.{Host, Replied, host, handled, served, resumed}
use Rattle.nub_wire.specs.Delivery.{Conduct, nubs_over, LinkSide, World, side_of, on_side, with_sent}
use Rattle.nub_wire.specs.Rest.{IsIdle, IsAtRest, other, KeepsOther}
use Rattle.nub_wire.specs.Fits.{TellsFitting}
use Rattle.nub_wire.specs.Resumes.{Whole, finish, Tells, AreTold, the_end, some_output, shut_by, run_from, after_run}
use Rattle.nub_wire.specs.Exchange.{Replies, later, got_on, Exchanged}
use Rattle.nub_wire.specs.Told.{took_by}
use Rattle.nub_wire.proofs.ResumesAreRuns.{resumes_are_runs}
use Rattle.nub_wire.proofs.ResumesEnd.{resumes_end}
use Rattle.nub_wire.proofs.NoBadReplies.{nubs_stay}
use Rattle.abs_mem.specs.WireMeaning.{IsBeside}
use Rattle.wire_talk.specs.declared.fault.TalkFault.{TalkFault}
use Rattle.wire_talk.specs.declared.fault.TalkFault.TheVariants as talk
use Rattle.wire_talk.specs.Resuming.{Resuming, resuming, BeginsTold, GoesOnBy, GoesOnTold, InResume, GoesOnOrEnds, NextOf, RunComes}
use Rattle.wire_talk.proofs.RunsCome.{resumption_law}
use Rattle.resuming.specs.declared.fault.RunFault.{RunFault}
use Rattle.resuming.specs.declared.fault.RunFault.TheVariants as fault
use Rattle.resuming.specs.Standing.{Stands}
use Rattle.resuming.specs.Runs.{TakesFront, RunTold}
use Rattle.resuming.proofs.Taken.{known_twice, known_none, none_taken, front_behind}

-- ---- endings

reply_one : (e f : Ending) → reply_of e ≡ reply_of f → e ≡ f
reply_one (ending.Stopped why pc) (ending.Stopped why' pc') h = cc
reply_one (ending.Exited status) (ending.Exited status') h = cc
reply_one (ending.Faulted kind pc) (ending.Faulted kind' pc') h = cc
reply_one ending.Turns ending.Turns h = refl
reply_one ending.Stack ending.Stack h = refl
reply_one _ _ h = cc

no_output : {A : Type 0} (e : Ending) (bytes : List ℕ) → reply_of e ≡ msg.Output bytes → A
no_output (ending.Stopped why pc) bytes h = cc
no_output (ending.Exited status) bytes h = cc
no_output (ending.Faulted kind pc) bytes h = cc
no_output ending.Turns bytes h = cc
no_output ending.Stack bytes h = cc

-- ---- the messages so far

-- Of the messages of a run these came, with this output, which was put; those are left.
pub record SoFar (b : Behaviour) (side : Side) (turns : ℕ) (s : LinkSide) (w : World) (printed : ℕ) (o : Option World) (taken taken' : Option (List ℕ)) : Type 0 where
  pub law : RunComes b side turns s w
  pub before : List Msg
  pub left : List Msg
  pub world : World
  pub told : o ≡ Some world
  pub whole : before ++ left ≡ law.messages
  pub inside : InResume (nubs_over b) side turns w before printed world
  pub gone : List ℕ
  pub rest : List ℕ
  pub will : AreTold left rest (run_from b turns s.host.machine).ending
  pub output : gone ++ rest ≡ (run_from b turns s.host.machine).output
  pub put : taken' ≡ known_and taken gone

-- the last message came, or one of output, which is to be put
pub data Came (b : Behaviour) (side : Side) (turns : ℕ) (s : LinkSide) (w : World) (printed : ℕ) (m : Msg) (o : Option World) (taken taken' : Option (List ℕ)) : Type 0 where
  ended : (u : World) → o ≡ Some u → m ≡ reply_of (run_from b turns s.host.machine).ending → Exchanged side (after_run (run_from b turns s.host.machine) s.host) w u
      → taken' ≡ known_and taken (run_from b turns s.host.machine).output → Came b side turns s w printed m o taken taken'
  went : (bytes : List ℕ) → m ≡ msg.Output bytes → ((more : Option (List ℕ)) → more ≡ known_and taken' bytes → SoFar b side turns s w printed o taken more)
      → ((more : Option (List ℕ)) → TakesFront taken' more bytes → TakesFront taken more (run_from b turns s.host.machine).output) → Came b side turns s w printed m o taken taken'

more_owed : (c : Conduct) (side : Side) (turns : ℕ) (w : World) (h : Host) (before : List Msg) (r : Resuming) (u : World) {ms : List Msg} {out : List ℕ} {e : Ending} → AreTold ms out e → GoesOnOrEnds c side turns w h before ms r u
    → (printed : ℕ) × (r ≡ resuming turns printed) × InResume c side turns w before printed u
more_owed c side turns w h before r u (the_end e) x = x
more_owed c side turns w h before r u (some_output bytes t) x = x

module _ (b : Behaviour) (side : Side) (turns : ℕ) (s : LinkSide) (w : World) where
  abbrev run : Whole
  run = run_from b turns s.host.machine

  abbrev behind : Host
  behind = after_run run s.host

  came_of : (law : RunComes b side turns s w) (before : List Msg) {left : List Msg} (v u : World) (o : Option World) (printed : ℕ) (r : Resuming) (m : Msg) (gone : List ℕ) {rest : List ℕ} {e : Ending} (taken taken' : Option (List ℕ))
      → AreTold left rest e → e ≡ run.ending → before ++ left ≡ law.messages → InResume (nubs_over b) side turns w before printed v → gone ++ rest ≡ run.output → taken' ≡ known_and taken gone
      → o ≡ Some u → MsgFits m → GoesOnBy (took_by side) (got_on (nubs_over b) side) (resuming turns printed) v (Ok m) r u → Came b side turns s w r.printed m o taken taken'
  came_of law before v u o printed r m gone taken taken' (the_end e) same whole inside output put told fits goes =
      let x : NextOf (nubs_over b) side turns w behind before (reply_of e) [] (Ok m) r u = law.comes before [] (reply_of e) printed r (Ok m) v u whole inside fits goes in
      ended u told (x.0 ∙ ap reply_of same) x.1 (put ∙ ap (known_and taken) (sym (append-nil gone) ∙ output))
  came_of law before v u o printed r m gone taken taken' (some_output {ms = ms} {rest = rest} {e = e} bytes t) same whole inside output put told fits goes =
      let x : NextOf (nubs_over b) side turns w behind before (msg.Output bytes) ms (Ok m) r u = law.comes before ms (msg.Output bytes) printed r (Ok m) v u whole inside fits goes in
      let y = more_owed (nubs_over b) side turns w behind (before ++ (msg.Output bytes ∷ [])) r u t x.1 in
      let count : r.printed ≡ y.0 = ap (λ (z : Resuming). z.printed) y.1 in
      let inside' : InResume (nubs_over b) side turns w (before ++ (msg.Output bytes ∷ [])) r.printed u =
      subst (λ (n : ℕ). InResume (nubs_over b) side turns w (before ++ (msg.Output bytes ∷ [])) n u) (sym count) y.2 in
      went bytes x.0
      (λ (more : Option (List ℕ)) (is : more ≡ known_and taken' bytes). record {
        law = law;
        before = before ++ (msg.Output bytes ∷ []);
        left = ms;
        world = u;
        told = told;
        whole = append_assoc before (msg.Output bytes ∷ []) ms ∙ whole;
        inside = inside';
        gone = gone ++ bytes;
        rest = rest;
        will = subst (AreTold ms rest) same t;
        output = append_assoc gone bytes rest ∙ output;
        put = is ∙ ap (λ (k : Option (List ℕ)). known_and k bytes) put ∙ known_twice taken gone bytes;
      })
      (λ (more : Option (List ℕ)) (f : TakesFront taken' more bytes). front_behind taken taken' more gone bytes rest run.output put output f)

  none_bad : (law : RunComes b side turns s w) (before : List Msg) {left : List Msg} (v u : World) (printed : ℕ) (r : Resuming) (f : _) {rest : List ℕ} {e : Ending}
      → AreTold left rest e → before ++ left ≡ law.messages → InResume (nubs_over b) side turns w before printed v
      → GoesOnBy (took_by side) (got_on (nubs_over b) side) (resuming turns printed) v (Err (talk.BadReply f)) r u → ⊥
  none_bad law before v u printed r f (the_end e) whole inside goes = law.comes before [] (reply_of e) printed r (Err (talk.BadReply f)) v u whole inside tt goes
  none_bad law before v u printed r f (some_output {ms = ms} bytes t) whole inside goes = law.comes before ms (msg.Output bytes) printed r (Err (talk.BadReply f)) v u whole inside tt goes

-- the resumption of so many turns, as the code has it
at_turns : (r : Resuming) (turns : ℕ) → r.turns ≡ turns → r ≡ resuming turns r.printed
at_turns r turns e = ap (λ (n : ℕ). resuming n r.printed) e

pub next_came : (b : Behaviour) (c : Conduct) (side : Side) (turns : ℕ) (s : LinkSide) (w : World) (r r' : Resuming) (m : Msg) (o o' : Option World) (taken taken' : Option (List ℕ)) → c ≡ nubs_over b → r.turns ≡ turns
    → SoFar b side turns s w r.printed o taken taken' → MsgFits m → ((v : World) → o ≡ Some v → GoesOnTold c side r v (Ok m) r' o') → Came b side turns s w r'.printed m o' taken taken'
next_came b c side turns s w r r' m o o' taken taken' conduct same x fits tell =
    let t = tell x.world x.told in
    let goes = subst (λ (k : Conduct). GoesOnBy (took_by side) (got_on k side) r x.world (Ok m) r' t.0) conduct t.2 in
    let goes' = subst (λ (q : Resuming). GoesOnBy (took_by side) (got_on (nubs_over b) side) q x.world (Ok m) r' t.0) (at_turns r turns same) goes in
    came_of b side turns s w x.law x.before x.world t.0 o' r.printed r' m x.gone taken taken' x.will refl x.whole x.inside x.output x.put t.1 fits goes'

-- ---- how it begins

abbrev opened : Behaviour → ℕ → Host → Host
opened b turns h = host (record h.nub { left = Some turns }) (b.restored h.machine)

opens : (b : Behaviour) (turns : ℕ) (e : Option Ending) (h : Host) → e ≡ None → resumed b turns e h ≡ (None, opened b turns h)
opens b turns None h e = refl
opens b turns (Some x) h e = cc

chosen : (x y : Bool) (p q r : Replied) → x ≡ false → y ≡ false → (if x then p else if y then q else r) ≡ r
chosen x y p q r e f = rw (e, f) refl

opens_run : (b : Behaviour) (turns : ℕ) (s : LinkSide) → IsAtRest s → s.host.nub.ended ≡ None → handled b (msg.Resume turns) s.host ≡ (None, opened b turns s.host)
unfolding handled served
opens_run b turns s rest none = chosen s.host.nub.blocked s.host.nub.killed _ _ _ rest.idle.takes rest.lives ∙ opens b turns s.host.nub.ended s.host none

-- what the nub and machine tell goes on to fit
stays_fitting : (b : Behaviour) (turns : ℕ) (s : LinkSide) → turns < 2 ^ 32 → IsAtRest s → s.host.nub.ended ≡ None → TellsFitting b s.host → TellsFitting b (after_run (run_from b turns s.host.machine) s.host)
stays_fitting b turns s small rest none fits =
    let g : Host = opened b turns s.host in
    let end = resumes_end b turns g refl in
    let is = resumes_are_runs b turns g end.1 end.0 refl none end.2 in
    let same : finish b g.nub.output (run_of b turns g.machine) ≡ run_from b turns s.host.machine = ap (λ (l : List ℕ). finish b l (run_of b turns (b.restored s.host.machine))) rest.none_gathered in
    let last : end.1 ≡ after_run (run_from b turns s.host.machine) s.host = is.1 ∙ ap (λ (v : Whole). host (shut_by v.ending s.host.nub) v.machine) same in
    let y = nubs_stay b (msg.Resume turns) s.host end.1 end.0 fits rest.idle.takes rest.none_gathered small (later g (opens_run b turns s rest none) end.2) in
    subst (TellsFitting b) last y.0

beside_kept : (side : Side) (w w' : World) (x : Option Host) (o : Option LinkSide) → o ≡ side_of (other side) w → KeepsOther side w w' → IsBeside o x → IsBeside (side_of (other side) w') x
beside_kept side w w' None o e k h = tt
beside_kept side w w' (Some g) None e k h = absurd h
beside_kept side w w' (Some g) (Some s) e k h = subst (λ (y : Option LinkSide). IsBeside y (Some g)) (sym (k s (sym e) h.0)) h

-- ---- the whole

module _ (b : Behaviour) (c : Conduct) (side : Side) (turns : ℕ) (o : Option World) (h : Host) (beside : Option Host) (x : Stands b c side o h beside) (none : h.nub.ended ≡ None) (small : turns < 2 ^ 32) where
  abbrev none_here : x.now.host.nub.ended ≡ None
  none_here = ap (λ (g : Host). g.nub.ended) x.host_is ∙ none

  abbrev fits_here : TellsFitting b x.now.host
  fits_here = subst (TellsFitting b) (sym x.host_is) x.fits

  abbrev run_here : Whole
  run_here = run_from b turns x.now.host.machine

  pub first_of_run : (r : Resuming) (o' : Option World) (taken : Option (List ℕ)) → r.printed ≡ 0
      → ((w : World) (s : LinkSide) → o ≡ Some w → side_of side w ≡ Some s → s.sent ≡ [] → BeginsTold side turns w (Ok r) o') → SoFar b side turns x.now x.world r.printed o' taken taken
  first_of_run r o' taken zero_printed tell =
      let law = resumption_law b side turns x.now x.world small x.there x.rest none_here fits_here in
      record {
        law = law;
        before = [];
        left = law.messages;
        world = on_side side (with_sent (frame_of (msg.Resume turns))) x.world;
        told = tell x.world x.now x.told x.there x.rest.idle.none_sent;
        whole = refl;
        inside = subst (λ (n : ℕ). InResume (nubs_over b) side turns x.world [] n (on_side side (with_sent (frame_of (msg.Resume turns))) x.world)) (sym zero_printed) law.begins;
        gone = [];
        rest = run_here.output;
        will = law.told;
        output = refl;
        put = known_none taken;
      }

  -- after the run, by the nub and machine that stood there
  ran : (u : World) (o' : Option World) → o' ≡ Some u → Exchanged side (after_run run_here x.now.host) x.world u → Stands b c side o' (after_run run_here x.now.host) beside
  ran u o' told done = record {
    conduct = x.conduct;
    world = u;
    told = told;
    now = done.now;
    there = done.there;
    rest = record { idle = done.idle; lives = ap (λ (g : Host). g.nub.killed) done.host_is ∙ x.rest.lives; none_gathered = ap (λ (g : Host). g.nub.output) done.host_is };
    host_is = done.host_is;
    fits = stays_fitting b turns x.now small x.rest none_here fits_here;
    beside_is = beside_kept side x.world u beside (side_of (other side) x.world) refl done.keeps x.beside_is;
  }

  told_here : (result : Result Ending RunFault) (o' : Option World) (taken taken' : Option (List ℕ)) → RunTold b c side turns x.now.host beside result o' taken taken' → RunTold b c side turns h beside result o' taken taken'
  told_here result o' taken taken' t = subst (λ (g : Host). RunTold b c side turns g beside result o' taken taken') x.host_is t

  pub ends_told : (printed : ℕ) (m : Msg) (e : Ending) (o' : Option World) (taken taken' : Option (List ℕ)) → reply_of e ≡ m → Came b side turns x.now x.world printed m o' taken taken' → RunTold b c side turns h beside (Ok e) o' taken taken'
  ends_told printed m e o' taken taken' is (ended u told last done put) =
      told_here (Ok e) o' taken taken' (reply_one e run_here.ending (is ∙ last), put, ran u o' told done)
  ends_told printed m e o' taken taken' is (went bytes out more front) = no_output e bytes (is ∙ out)

  pub goes_told : (printed : ℕ) (m : Msg) (bytes : List ℕ) (o' : Option World) (taken taken' more : Option (List ℕ)) → msg.Output bytes ≡ m → Came b side turns x.now x.world printed m o' taken taken' → more ≡ known_and taken' bytes
      → SoFar b side turns x.now x.world printed o' taken more
  goes_told printed m bytes o' taken taken' more is (ended u told last done put) e = no_output run_here.ending bytes (sym last ∙ sym is)
  goes_told printed m bytes o' taken taken' more is (went bytes' out go front) e = let same : bytes ≡ bytes' = output_one bytes bytes' (is ∙ out) in go more (e ∙ ap (known_and taken') same)
    where
      output_one : (xs ys : List ℕ) → msg.Output xs ≡ msg.Output ys → xs ≡ ys
      output_one xs ys h = cc

  pub stops_told : (printed : ℕ) (m : Msg) (bytes : List ℕ) (o' : Option World) (taken taken' more : Option (List ℕ)) → msg.Output bytes ≡ m → Came b side turns x.now x.world printed m o' taken taken' → TakesFront taken' more bytes
      → RunTold b c side turns h beside (Err fault.Output) o' taken more
  stops_told printed m bytes o' taken taken' more is (ended u told last done put) f = no_output run_here.ending bytes (sym last ∙ sym is)
  stops_told printed m bytes o' taken taken' more is (went bytes' out go front) f =
      let same : bytes ≡ bytes' = output_two bytes bytes' (is ∙ out) in
      told_here (Err fault.Output) o' taken more (front more (subst (TakesFront taken' more) same f))
    where
      output_two : (xs ys : List ℕ) → msg.Output xs ≡ msg.Output ys → xs ≡ ys
      output_two xs ys h = cc

  pub begins_none : (f : TalkFault) (o' : Option World) (taken : Option (List ℕ)) → ((w : World) (s : LinkSide) → o ≡ Some w → side_of side w ≡ Some s → s.sent ≡ [] → BeginsTold side turns w (Err f) o')
      → RunTold b c side turns h beside (Err (fault.Talk f)) o' taken taken
  begins_none talk.LinkFault o' taken tell = none_taken taken (run_from b turns h.machine).output
  begins_none (talk.BadReply frame) o' taken tell = tell x.world x.now x.told x.there x.rest.idle.none_sent

  pub fails_told : (r r' : Resuming) (f : TalkFault) (l o' : Option World) (taken taken' : Option (List ℕ)) → r.turns ≡ turns → SoFar b side turns x.now x.world r.printed l taken taken'
      → ((v : World) → l ≡ Some v → GoesOnTold c side r v (Err f) r' o') → RunTold b c side turns h beside (Err (fault.Talk f)) o' taken taken'
  fails_told r r' talk.LinkFault l o' taken taken' same y tell =
      told_here (Err (fault.Talk talk.LinkFault)) o' taken taken' (record { front = y.gone; back = y.rest; whole = y.output; taken = y.put })
  fails_told r r' (talk.BadReply frame) l o' taken taken' same y tell =
      let t = tell y.world y.told in
      let goes = subst (λ (k : Conduct). GoesOnBy (took_by side) (got_on k side) r y.world (Err (talk.BadReply frame)) r' t.0) x.conduct t.2 in
      let goes' = subst (λ (q : Resuming). GoesOnBy (took_by side) (got_on (nubs_over b) side) q y.world (Err (talk.BadReply frame)) r' t.0) (at_turns r turns same) goes in
      absurd (none_bad b side turns x.now x.world y.law y.before y.world t.0 r.printed r' frame y.will y.whole y.inside goes')
