-- A resume whose messages come one by one.
use Rattle.std.specs.Prelude.{◌≡◌, ◌≢◌, ℕ, ◌^◌, ◌<◌, List, [], ◌∷◌, ◌++◌, Option, None, Some, Result, Ok, Err, IfOk}
use Rattle.machine_state.specs.State.{Behaviour}
use Rattle.nub_wire.specs.declared.message.Msg.{Msg}
use Rattle.nub_wire.specs.declared.message.Msg.TheVariants as msg
use Rattle.nub_wire.specs.declared.link.Side.{Side}
use Rattle.nub_wire.specs.declared.reply.Heard.{Heard}
use Rattle.nub_wire.specs.declared.reply.Heard.TheVariants.{Ends, GoesOn, Bad}
use Rattle.nub_wire.specs.Spelling.{frame_of, MsgFits}
use Rattle.nub_wire.specs.Feeding.{frames}
use Rattle.nub_wire.specs.Nub.{Host}
use Rattle.nub_wire.specs.Rest.{IsAtRest}
use Rattle.nub_wire.specs.Resumes.{AreTold, run_from, after_run}
use Rattle.nub_wire.specs.Fits.{TellsFitting}
use Rattle.nub_wire.specs.Replies.{heard}
use Rattle.nub_wire.specs.Delivery.{Conduct, nubs_over, LinkSide, World, side_of, on_side, with_sent}
use Rattle.nub_wire.specs.Calls.{Sends, Hears, Owes, BadReply}
use Rattle.nub_wire.specs.Exchange.{got_on, Exchanged}
use Rattle.nub_wire.specs.Told.{took_by}
use Rattle.wire_talk.specs.declared.fault.TalkFault.{TalkFault}
use Rattle.wire_talk.specs.declared.fault.TalkFault.TheVariants as fault
use Rattle.wire_talk.specs.Talk.{owing, HeardOn}

-- the turns of a resume that was sent, and how many bytes of its output came
pub record Resuming : Type 0 where
  pub turns : ℕ
  pub printed : ℕ

abbrev pub asked_by : Resuming → Msg
asked_by r = msg.Resume r.turns

abbrev pub first_of : ℕ → Resuming
first_of turns = record { turns = turns; printed = 0 }

-- ---- its start

abbrev pub BeginsBy : {S : Type 0} → (S → List ℕ → ℕ → S → Type 0) → (S → ℕ → List ℕ → S → Type 0) → ℕ → S → Result Resuming TalkFault → S → Type 0
BeginsBy took gave turns s (Ok r) u = (r ≡ first_of turns) × Sends took s (frame_of (msg.Resume turns)) u
BeginsBy took gave turns s (Err fault.LinkFault) u = Unit {0}
BeginsBy took gave turns s (Err (fault.BadReply frame)) u = BadReply took gave (msg.Resume turns) s frame.items u

-- the frame is on the way, where nothing was
abbrev pub BeginsTold : Side → ℕ → World → Result Resuming TalkFault → Option World → Type 0
BeginsTold side turns w (Ok r) o = o ≡ Some (on_side side (with_sent (frame_of (msg.Resume turns))) w)
BeginsTold side turns w (Err fault.LinkFault) o = Unit {0}
BeginsTold side turns w (Err (fault.BadReply frame)) o = ⊥

-- ---- its next message

-- the output that came counts
abbrev pub after_heard : Heard → Resuming → Resuming
after_heard Ends r = r
after_heard (GoesOn printed) r = record r { printed = printed }
after_heard Bad r = r

-- a message came that is output or the end
pub record NextCame {S : Type 0} (took : S → List ℕ → ℕ → S → Type 0) (gave : S → ℕ → List ℕ → S → Type 0) (r : Resuming) (s : S) (m : Msg) (r' : Resuming) (u : S) : Type 0 where
  pub heard_on : HeardOn took gave s (frame_of m) u
  pub is_reply : heard (asked_by r) r.printed m ≢ Bad
  pub new_is : r' ≡ after_heard (heard (asked_by r) r.printed m) r

abbrev pub GoesOnBy : {S : Type 0} → (S → List ℕ → ℕ → S → Type 0) → (S → ℕ → List ℕ → S → Type 0) → Resuming → S → Result Msg TalkFault → Resuming → S → Type 0
GoesOnBy took gave r s (Ok m) r' u = NextCame took gave r s m r' u
GoesOnBy took gave r s (Err fault.LinkFault) r' u = r' ≡ r
GoesOnBy {S = S} took gave r s (Err (fault.BadReply frame)) r' u =
    (r' ≡ r) × ((v : S) → Owes took gave (asked_by r) v (owing (asked_by r) r.printed []) s → BadReply took gave (asked_by r) v frame.items u)

abbrev pub GoesOnTold : Conduct → Side → Resuming → World → Result Msg TalkFault → Resuming → Option World → Type 0
GoesOnTold c side r w result r' o = (u : World) × (o ≡ Some u) × GoesOnBy (took_by side) (got_on c side) r w result r' u

-- ---- over nubs that meet their definition

abbrev pub resuming : ℕ → ℕ → Resuming
resuming turns printed = record { turns = turns; printed = printed }

-- A Resume was sent on a side of a world. These messages came since, with so many bytes of output, and more is owed.
pub record InResume (c : Conduct) (side : Side) (turns : ℕ) (w : World) (before : List Msg) (printed : ℕ) (v : World) : Type 0 where
  pub heard_is : Hears (got_on c side) (on_side side (with_sent (frame_of (msg.Resume turns))) w) (frames before) v
  pub owes : Owes (took_by side) (got_on c side) (msg.Resume turns) w (owing (msg.Resume turns) printed []) v

-- a message came: the last one, and the exchange is over, or more is to come
abbrev pub GoesOnOrEnds : Conduct → Side → ℕ → World → Host → (before left : List Msg) → Resuming → World → Type 0
GoesOnOrEnds c side turns w h before [] r u = Exchanged side h w u
GoesOnOrEnds c side turns w h before (m ∷ left) r u = (printed : ℕ) × (r ≡ resuming turns printed) × InResume c side turns w before printed u

-- the next message is the first of those that are left, or the link failed
abbrev pub NextOf : Conduct → Side → ℕ → World → Host → (before : List Msg) → Msg → (left : List Msg) → Result Msg TalkFault → Resuming → World → Type 0
NextOf c side turns w h before m left (Ok x) r u = (x ≡ m) × GoesOnOrEnds c side turns w h (before ++ (m ∷ [])) left r u
NextOf c side turns w h before m left (Err fault.LinkFault) r u = Unit {0}
NextOf c side turns w h before m left (Err (fault.BadReply frame)) r u = ⊥

-- From a side at rest a resume brings its run message by message: output, and then the end. No bad reply comes.
pub record RunComes (b : Behaviour) (side : Side) (turns : ℕ) (s : LinkSide) (w : World) : Type 0 where
  pub messages : List Msg
  pub told : AreTold messages (run_from b turns s.host.machine).output (run_from b turns s.host.machine).ending
  pub begins : InResume (nubs_over b) side turns w [] 0 (on_side side (with_sent (frame_of (msg.Resume turns))) w)
  pub comes : (before left : List Msg) (m : Msg) (printed : ℕ) (r : Resuming) (result : Result Msg TalkFault) (v u : World) → before ++ (m ∷ left) ≡ messages
      → InResume (nubs_over b) side turns w before printed v → IfOk result MsgFits → GoesOnBy (took_by side) (got_on (nubs_over b) side) (resuming turns printed) v result r u
      → NextOf (nubs_over b) side turns w (after_run (run_from b turns s.host.machine) s.host) before m left result r u

abbrev pub ResumptionLaw : Behaviour → Type 0
ResumptionLaw b = (side : Side) (turns : ℕ) (s : LinkSide) (w : World) → turns < 2 ^ 32 → side_of side w ≡ Some s → IsAtRest s → s.host.nub.ended ≡ None → TellsFitting b s.host
    → RunComes b side turns s w
