-- The messages of a resume one by one, over nubs that meet their definition.
use Rattle.std.proofs.Common.{◌≡◌, ◌≢◌, ◌∙◌, refl, sym, ap, subst, ℕ, ◌+◌, ◌^◌, ◌<◌, ◌≤◌, nat_le, Bool, true, false, if◌then◌else◌, List, [], ◌∷◌, ◌++◌, length, Option, None, Some, Result, Ok, Err, IfOk, arith, append_assoc}
use Rattle.std.proofs.lemmas.Grind.{common_steps}
use Rattle.machine_state.specs.State.{Behaviour}
use Rattle.machine_state.specs.Runs.{run_of}
use Rattle.nub_wire.specs.declared.message.Msg.{Msg}
use Rattle.nub_wire.specs.declared.message.Msg.TheVariants as msg
use Rattle.nub_wire.specs.declared.message.Ending.{Ending}
use Rattle.nub_wire.specs.declared.link.Side.{Side}
use Rattle.nub_wire.specs.declared.reply.Heard.{Heard}
use Rattle.nub_wire.specs.declared.reply.Heard.TheVariants.{GoesOn, Bad}
use Rattle.nub_wire.specs.Spelling.{frame_of, MsgFits}
use Rattle.nub_wire.specs.Feeding.{frames, AllFit}
use Rattle.nub_wire.specs.Replies.{heard}
use Rattle.nub_wire.specs.Nub.{Host, Replied, host, handled, served, resumed}
use Rattle.nub_wire.specs.Delivery.{Conduct, nubs_over, LinkSide, World, side_of, on_side, with_sent}
use Rattle.nub_wire.specs.Calls.{Hears, none_heard, hears, Owes, sent_whole, goes_on}
use Rattle.nub_wire.specs.Rest.{IsAtRest}
use Rattle.nub_wire.specs.Resumes.{Whole, finish, Tells, AreTold, the_end, some_output, shut_by, run_from, after_run}
use Rattle.nub_wire.specs.Exchange.{Replies, later, got_on}
use Rattle.nub_wire.specs.Fits.{TellsFitting}
use Rattle.nub_wire.specs.Told.{took_by}
use Rattle.nub_wire.proofs.Streams.{frame_short, one_message_lem}
use Rattle.nub_wire.proofs.Sides.{cancel}
use Rattle.nub_wire.proofs.Worlds.{replies_come}
use Rattle.nub_wire.proofs.ResumesAreRuns.{resumes_are_runs}
use Rattle.nub_wire.proofs.ResumesEnd.{resumes_end}
use Rattle.nub_wire.proofs.Fitting.{Fit, TellsFit, tells_fit, handled_fit, fit_of}
use Rattle.nub_wire.proofs.NoBadReplies.{nubs_give_none}
use Rattle.wire_talk.specs.declared.fault.TalkFault.{TalkFault}
use Rattle.wire_talk.specs.declared.fault.TalkFault.TheVariants as fault
use Rattle.wire_talk.specs.Talk.{owing}
use Rattle.wire_talk.specs.Resuming.{Resuming, resuming, after_heard, NextCame, GoesOnBy, InResume, GoesOnOrEnds, NextOf, ResumptionLaw}
use Rattle.wire_talk.proofs.Sending.{sent_in_world}

-- ---- lists

append_nil : (xs : List ℕ) → xs ++ [] ≡ xs
append_nil xs = grind (arith, common_steps)

frames_append : (xs ys : List Msg) → frames (xs ++ ys) ≡ frames xs ++ frames ys
frames_append [] ys = refl
frames_append (x ∷ xs) ys = ap (λ (l : List ℕ). frame_of x ++ l) (frames_append xs ys) ∙ sym (append_assoc (frame_of x) (frames xs) (frames ys))

fits_behind : (xs : List Msg) (m : Msg) (ys : List Msg) → AllFit (xs ++ (m ∷ ys)) → MsgFits m
fits_behind [] m ys f = f.0
fits_behind (x ∷ xs) m ys f = fits_behind xs m ys f.1

hears_join : {S : Type 0} {gave : S → ℕ → List ℕ → S → Type 0} {s t u : S} {ys : List ℕ} (xs : List ℕ) → Hears gave s xs t → Hears gave t ys u → Hears gave s (xs ++ ys) u
hears_join {gave = gave} {s = s} {t = t} xs h none_heard = subst (λ (l : List ℕ). Hears gave s l t) (sym (append_nil xs)) h
hears_join {gave = gave} {s = s} {u = u} xs h (hears got bytes size before g) =
    subst (λ (l : List ℕ). Hears gave s l u) (append_assoc xs got bytes) (hears (xs ++ got) bytes size (hears_join xs h before) g)

-- ---- all but the last of the messages are output

pub record IsOutput (m : Msg) : Type 0 where
  pub bytes : List ℕ
  pub is : m ≡ msg.Output bytes

not_nil : {A : Type 0} (xs : List Msg) (m : Msg) (ys : List Msg) → xs ++ (m ∷ ys) ≡ [] → A
not_nil [] m ys e = cc
not_nil (x ∷ xs) m ys e = cc

told_output : {ms : List Msg} {out : List ℕ} {e : Ending} (before : List Msg) (m k : Msg) (rest : List Msg) → AreTold ms out e → before ++ (m ∷ (k ∷ rest)) ≡ ms → IsOutput m
told_output [] m k rest (the_end e) x = cc
told_output [] m k rest (some_output bytes told) x = record { bytes = bytes; is = cc }
told_output (b ∷ before) m k rest (the_end e) x = let y : before ++ (m ∷ (k ∷ rest)) ≡ [] = cc in not_nil before m (k ∷ rest) y
told_output (b ∷ before) m k rest (some_output {ms = ms} bytes told) x = let y : before ++ (m ∷ (k ∷ rest)) ≡ ms = cc in told_output before m k rest told y

pub record GoesTo (turns printed : ℕ) (m : Msg) : Type 0 where
  pub more : ℕ
  pub is : heard (msg.Resume turns) printed m ≡ GoesOn more

goes_by : (turns count : ℕ) (t : Bool) → nat_le count turns ≡ t → (if t then GoesOn count else Bad) ≢ Bad → (if nat_le count turns then GoesOn count else Bad) ≡ GoesOn count
goes_by turns count true e n = rw e refl
goes_by turns count false e n = absurd (n refl)

output_goes : (turns printed : ℕ) (m : Msg) → IsOutput m → heard (msg.Resume turns) printed m ≢ Bad → GoesTo turns printed m
output_goes turns printed m o n =
    let count : ℕ = printed + length o.bytes in
    let not_bad : (if nat_le count turns then GoesOn count else Bad) ≢ Bad = subst (λ (x : Msg). heard (msg.Resume turns) printed x ≢ Bad) o.is n in
    record { more = count; is = ap (heard (msg.Resume turns) printed) o.is ∙ goes_by turns count (nat_le count turns) refl not_bad }

-- ---- the nub where the resume is open

abbrev opened : Behaviour → ℕ → Host → Host
opened b turns h = host (record h.nub { left = Some turns }) (b.restored h.machine)

opens : (b : Behaviour) (turns : ℕ) (e : Option Ending) (h : Host) → e ≡ None → resumed b turns e h ≡ (None, opened b turns h)
opens b turns None h e = refl
opens b turns (Some x) h e = cc

chosen : (x y : Bool) (p q r : Replied) → x ≡ false → y ≡ false → (if x then p else if y then q else r) ≡ r
chosen x y p q r e f = rw (e, f) refl

resume_handled : (b : Behaviour) (turns : ℕ) (s : LinkSide) → IsAtRest s → s.host.nub.ended ≡ None → handled b (msg.Resume turns) s.host ≡ (None, opened b turns s.host)
unfolding handled served
resume_handled b turns s rest none = chosen s.host.nub.blocked s.host.nub.killed _ _ _ rest.idle.takes rest.lives ∙ opens b turns s.host.nub.ended s.host none

-- ---- one message after another

module _ (b : Behaviour) (side : Side) (turns : ℕ) (s : LinkSide) (w : World) (fits : turns < 2 ^ 32) (there : side_of side w ≡ Some s) (rest : IsAtRest s)
    (fitting : TellsFitting b s.host) (ms : List Msg) (h : Host) (replies : Replies (nubs_over b) (msg.Resume turns) s.host ms h) (takes : h.nub.blocked ≡ false) (all : AllFit ms)
    (out : List ℕ) (e : Ending) (told : AreTold ms out e) where
  abbrev c : Conduct
  c = nubs_over b

  came : (before left : List Msg) (m x : Msg) (printed : ℕ) (r : Resuming) (v u : World) → before ++ (m ∷ left) ≡ ms → InResume c side turns w before printed v → MsgFits x
      → NextCame (took_by side) (got_on c side) (resuming turns printed) v x r u → (x ≡ m) × GoesOnOrEnds c side turns w h (before ++ (m ∷ [])) left r u
  came before left m x printed r v u is i x_fits n =
      let got : Hears (got_on c side) (on_side side (with_sent (frame_of (msg.Resume turns))) w) (frames before ++ frame_of x) u = hears_join (frames before) i.heard_is n.heard_on.heard_is in
      let y = replies_come c side (msg.Resume turns) ms h s (frames before ++ frame_of x) w u there rest.idle fits replies takes got in
      let whole : frames before ++ (frame_of x ++ y.rest) ≡ frames before ++ (frame_of m ++ frames left) =
      sym (append_assoc (frames before) (frame_of x) y.rest) ∙ y.front ∙ ap frames (sym is) ∙ frames_append before (m ∷ left) in
      let m_fits : MsgFits m = fits_behind before m left (subst AllFit (sym is) all) in
      let one = one_message_lem x m y.rest (frames left) x_fits m_fits (cancel (frames before) (frame_of x ++ y.rest) (frame_of m ++ frames left) whole) in
      (one.0, on left refl one.0 (one.1))
    where
      joined : (x ≡ m) → Hears (got_on c side) (on_side side (with_sent (frame_of (msg.Resume turns))) w) (frames (before ++ (m ∷ []))) u
      joined same =
          let got = hears_join (frames before) i.heard_is n.heard_on.heard_is in
          let all_frames : frames (before ++ (m ∷ [])) ≡ frames before ++ frame_of x =
          frames_append before (m ∷ []) ∙ ap (λ (l : List ℕ). frames before ++ l) (append_nil (frame_of m) ∙ ap frame_of (sym same)) in
          subst (λ (l : List ℕ). Hears (got_on c side) (on_side side (with_sent (frame_of (msg.Resume turns))) w) l u) (sym all_frames) got

      on : (behind : List Msg) → left ≡ behind → x ≡ m
          → (replies_come c side (msg.Resume turns) ms h s (frames before ++ frame_of x) w u there rest.idle fits replies takes (hears_join (frames before) i.heard_is n.heard_on.heard_is)).rest ≡ frames left
          → GoesOnOrEnds c side turns w h (before ++ (m ∷ [])) left r u
      on [] none same last =
          subst (λ (l : List Msg). GoesOnOrEnds c side turns w h (before ++ (m ∷ [])) l r u) (sym none)
          ((replies_come c side (msg.Resume turns) ms h s (frames before ++ frame_of x) w u there rest.idle fits replies takes (hears_join (frames before) i.heard_is n.heard_on.heard_is)).whole (last ∙ ap frames none))
      on (k ∷ more) some same last =
          let o : IsOutput m = told_output before m k more told (ap (λ (l : List Msg). before ++ (m ∷ l)) (sym some) ∙ is) in
          let g = output_goes turns printed x (subst IsOutput (sym same) o) n.is_reply in
          let new : r ≡ resuming turns g.more = n.new_is ∙ ap (λ (y : Heard). after_heard y (resuming turns printed)) g.is in
          let owed : Owes (took_by side) (got_on c side) (msg.Resume turns) w (owing (msg.Resume turns) printed (frame_of x ++ [])) u =
          subst (λ (l : List ℕ). Owes (took_by side) (got_on c side) (msg.Resume turns) w (owing (msg.Resume turns) printed l) u) (sym (append_nil (frame_of x)))
          (n.heard_on.owes (msg.Resume turns) printed w i.owes) in
          subst (λ (l : List Msg). GoesOnOrEnds c side turns w h (before ++ (m ∷ [])) l r u) (sym some)
          (g.more, new, record { heard_is = joined same; owes = goes_on printed g.more x [] owed x_fits g.is })

  comes : (before left : List Msg) (m : Msg) (printed : ℕ) (r : Resuming) (result : Result Msg TalkFault) (v u : World) → before ++ (m ∷ left) ≡ ms → InResume c side turns w before printed v
      → IfOk result MsgFits → GoesOnBy (took_by side) (got_on c side) (resuming turns printed) v result r u → NextOf c side turns w h before m left result r u
  comes before left m printed r (Ok x) v u is i ok n = came before left m x printed r v u is i ok n
  comes before left m printed r (Err fault.LinkFault) v u is i ok n = tt
  comes before left m printed r (Err (fault.BadReply frame)) v u is i ok n =
      nubs_give_none b side (msg.Resume turns) s frame.items w u there rest fitting fits tt (n.1 w i.owes)

  pub in_order : (before left : List Msg) (m : Msg) (printed : ℕ) (r : Resuming) (result : Result Msg TalkFault) (v u : World) → before ++ (m ∷ left) ≡ ms → InResume c side turns w before printed v
      → IfOk result MsgFits → GoesOnBy (took_by side) (got_on c side) (resuming turns printed) v result r u → NextOf c side turns w h before m left result r u
  in_order = comes

pub resumption_law : (b : Behaviour) → ResumptionLaw b
resumption_law b side turns s w fits there rest none fitting =
    let g : Host = opened b turns s.host in
    let end = resumes_end b turns g refl in
    let is = resumes_are_runs b turns g end.1 end.0 refl none end.2 in
    let same : finish b g.nub.output (run_of b turns g.machine) ≡ run_from b turns s.host.machine = ap (λ (l : List ℕ). finish b l (run_of b turns (b.restored s.host.machine))) rest.none_gathered in
    let told : AreTold end.0 (run_from b turns s.host.machine).output (run_from b turns s.host.machine).ending = subst (λ (v : Whole). AreTold end.0 v.output v.ending) same is.0 in
    let last : end.1 ≡ after_run (run_from b turns s.host.machine) s.host = is.1 ∙ ap (λ (v : Whole). host (shut_by v.ending s.host.nub) v.machine) same in
    let tells : Tells b g end.0 (after_run (run_from b turns s.host.machine) s.host) = subst (Tells b g end.0) last end.2 in
    let handles : handled b (msg.Resume turns) s.host ≡ (None, g) = resume_handled b turns s rest none in
    let fit : Fit b g = subst (TellsFit b) handles (handled_fit b (msg.Resume turns) s.host fits (fit_of b s.host fitting rest.none_gathered)) in
    let short : length (frame_of (msg.Resume turns)) ≤ 1027 = frame_short (msg.Resume turns) fits in
    record {
      messages = end.0;
      told = told;
      begins = record { heard_is = none_heard; owes = sent_whole (sent_in_world side (frame_of (msg.Resume turns)) w s there rest.idle.none_sent (omega (arith, short))) };
      comes = in_order b side turns s w fits there rest fitting end.0 (after_run (run_from b turns s.host.machine) s.host) (later g handles tells) rest.idle.takes
          (tells_fit b tells fit).0 (run_from b turns s.host.machine).output (run_from b turns s.host.machine).ending told;
    }
