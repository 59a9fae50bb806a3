-- A whole frame sent to an idle side, and its reply.
use Rattle.std.specs.Prelude.{◌≡◌, ◌≢◌, ℕ, suc, ◌^◌, ◌<◌, false, List, [], ◌∷◌, ◌++◌, None, Some}
use Rattle.nub_wire.specs.declared.message.Msg.{Msg}
use Rattle.nub_wire.specs.declared.message.Msg.TheVariants as msg
use Rattle.nub_wire.specs.declared.link.Side.{Side}
use Rattle.nub_wire.specs.Spelling.{frame_of, MsgFits}
use Rattle.nub_wire.specs.Nub.{Host, handled}
use Rattle.nub_wire.specs.Feeding.{frames}
use Rattle.nub_wire.specs.Delivery.{Conduct, LinkSide, World, side_of, on_side, with_sent, Receives}
use Rattle.nub_wire.specs.Calls.{Hears}
use Rattle.nub_wire.specs.Rest.{IsIdle, IsAtRest, IsAtRestOn, KeepsOther}
use Rattle.nub_wire.specs.Resumes.{Tells, AreTold, run_from, after_run}

-- The nub gives the whole reply to a message at once, and then waits for another one. So it is for each message but a
-- Resume that opens a run.
pub record RepliesAtOnce (c : Conduct) (m : Msg) (h : Host) (r : Msg) (h' : Host) : Type 0 where
  pub fits : MsgFits m
  pub reply_fits : MsgFits r
  pub is : c.handles m h ≡ (Some r, h')
  pub none_open : h'.nub.left ≡ None
  pub takes : h'.nub.blocked ≡ false

-- receives on a side, as steps of worlds
abbrev pub got_on : Conduct → Side → World → ℕ → List ℕ → World → Type 0
got_on c side w size bytes w' = Receives c side size bytes w w'

-- The message was taken and answered: the side is idle again, its nub and machine are those after the message, and the
-- other side is as it was.
pub record Exchanged (side : Side) (h : Host) (w w' : World) : Type 0 where
  pub now : LinkSide
  pub there : side_of side w' ≡ Some now
  pub idle : IsIdle now
  pub host_is : now.host ≡ h
  pub keeps : KeepsOther side w w'

-- What was heard of the reply: its front. Where that is all of it the exchange is over, and where it isn't the next
-- receive gives more.
pub record HearsReply (c : Conduct) (side : Side) (r : Msg) (h : Host) (got : List ℕ) (w w' : World) : Type 0 where
  pub rest : List ℕ
  pub front : got ++ rest ≡ frame_of r
  pub whole : rest ≡ [] → Exchanged side h w w'
  pub more : (size : ℕ) (bytes : List ℕ) (u : World) → rest ≢ [] → Receives c side (suc size) bytes w' u → bytes ≢ []

-- However a schedule delivers, what comes after the frame of a message to an idle side is its reply.
abbrev pub ExchangeLaw : Conduct → Type 0
ExchangeLaw c = (side : Side) (m r : Msg) (h : Host) (s : LinkSide) (got : List ℕ) (w w' : World)
    → side_of side w ≡ Some s → IsIdle s → RepliesAtOnce c m s.host r h
    → Hears (got_on c side) (on_side side (with_sent (frame_of m)) w) got w' → HearsReply c side r h got w w'

-- ---- a resume that opens a run

-- The messages that a nub replies with to a message, and the nub and machine behind the last of them: one at once, or those
-- of the resume that it opens, however its turns are divided.
pub data Replies (c : Conduct) (m : Msg) (h : Host) : List Msg → Host → Type 0 where
  at_once : {t : Host} (r : Msg) → c.handles m h ≡ (Some r, t) → t.nub.left ≡ None → Replies c m h (r ∷ []) t
  later : {t : Host} {ms : List Msg} (g : Host) → c.handles m h ≡ (None, g) → Tells c.behaviour g ms t → Replies c m h ms t

-- What was heard of the replies: the front of their frames. Where that is all of them the exchange is over, and where it
-- isn't the next receive gives more.
pub record HearsReplies (c : Conduct) (side : Side) (ms : List Msg) (h : Host) (got : List ℕ) (w w' : World) : Type 0 where
  pub rest : List ℕ
  pub front : got ++ rest ≡ frames ms
  pub whole : rest ≡ [] → Exchanged side h w w'
  pub more : (size : ℕ) (bytes : List ℕ) (u : World) → rest ≢ [] → Receives c side (suc size) bytes w' u → bytes ≢ []

-- the nubs meet their definition on resumes
abbrev pub MeetsResumes : Conduct → Type 0
MeetsResumes c = (turns : ℕ) (h : Host) → c.handles (msg.Resume turns) h ≡ handled c.behaviour (msg.Resume turns) h

-- What comes after the frame of a Resume to a side at rest: messages of output and then an end, which tell the run of its
-- machine from the context block. Behind the end the side is at rest again.
pub record RunIsHeard (c : Conduct) (side : Side) (turns : ℕ) (s : LinkSide) (w : World) : Type 0 where
  pub messages : List Msg
  pub told : AreTold messages (run_from c.behaviour turns s.host.machine).output (run_from c.behaviour turns s.host.machine).ending
  pub heard : (got : List ℕ) (w' : World) → Hears (got_on c side) (on_side side (with_sent (frame_of (msg.Resume turns))) w) got w'
      → HearsReplies c side messages (after_run (run_from c.behaviour turns s.host.machine) s.host) got w w'
  pub rests : (w' : World) → Exchanged side (after_run (run_from c.behaviour turns s.host.machine) s.host) w w' → IsAtRestOn side w'

-- However a schedule delivers and divides the turns, what comes after the frame of a Resume to a side at rest, whose run has
-- not ended for good, tells the run of its machine.
abbrev pub ResumeLaw : Conduct → Type 0
ResumeLaw c = (side : Side) (turns : ℕ) (s : LinkSide) (w : World) → MeetsResumes c → turns < 2 ^ 32 → side_of side w ≡ Some s → IsAtRest s
    → s.host.nub.ended ≡ None → RunIsHeard c side turns s w
