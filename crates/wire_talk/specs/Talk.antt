-- What a message and its reply over a link come to.
use Rattle.std.specs.Prelude.{◌≡◌, ◌≢◌, ℕ, List, [], Option, Some, Result, Ok, Err}
use Rattle.ldb_edge.specs.Count.{Rose}
use Rattle.nub_wire.specs.declared.message.Msg.{Msg}
use Rattle.nub_wire.specs.declared.message.Msg.TheVariants as msg
use Rattle.nub_wire.specs.declared.link.Side.{Side}
use Rattle.nub_wire.specs.declared.reply.Heard.TheVariants.{Ends, Bad}
use Rattle.nub_wire.specs.Spelling.{frame_of}
use Rattle.nub_wire.specs.Replies.{heard}
use Rattle.nub_wire.specs.Nub.{Host}
use Rattle.nub_wire.specs.Delivery.{Conduct, LinkSide, World, side_of, on_side, with_sent}
use Rattle.nub_wire.specs.Calls.{Sends, SendsNone, Hears, Owed, Owes, BadReply, Asks}
use Rattle.nub_wire.specs.Rest.{IsIdle}
use Rattle.nub_wire.specs.Exchange.{RepliesAtOnce, Exchanged, got_on}
use Rattle.nub_wire.specs.Told.{took_by}
use Rattle.wire_talk.specs.declared.fault.TalkFault.{TalkFault}
use Rattle.wire_talk.specs.declared.fault.TalkFault.TheVariants as fault

-- the reply to a message is one frame, as to each but a Resume
abbrev pub IsShort : Msg → Type 0
IsShort (msg.Resume turns) = ⊥
IsShort _ = Unit {0}

-- a fault of the link raises its count, and nothing else does
abbrev pub CountsTalk : {A : Type 0} → ℕ → Result A TalkFault → ℕ → Type 0
CountsTalk old (Ok x) new = new ≡ old
CountsTalk old (Err fault.LinkFault) new = Rose old new
CountsTalk old (Err (fault.BadReply frame)) new = new ≡ old

-- a reply to a message is owed, of which so many bytes of output came, and these of the frame that has begun
abbrev pub owing : Msg → ℕ → List ℕ → Owed
owing m printed begun = record { asked = m; printed = printed; begun = begun }

-- ---- sends, by the calls of the link and by the world that it tells

abbrev pub SendsAll : {S : Type 0} → (S → List ℕ → ℕ → S → Type 0) → List ℕ → S → Result Unit TalkFault → S → Type 0
SendsAll took bytes s (Ok x) u = Sends took s bytes u
SendsAll took bytes s (Err fault.LinkFault) u = Unit {0}
SendsAll took bytes s (Err (fault.BadReply frame)) u = (frame.items ≡ []) × SendsNone took bytes s u

-- the frame is on the way, where nothing was
abbrev pub SentWorld : Side → List ℕ → World → Result Unit TalkFault → Option World → Type 0
SentWorld side bytes w (Ok x) o = o ≡ Some (on_side side (with_sent bytes) w)
SentWorld side bytes w (Err fault.LinkFault) o = Unit {0}
SentWorld side bytes w (Err (fault.BadReply frame)) o = ⊥

-- ---- a frame that is read

-- These bytes were heard; where a reply was owed and nothing of a frame had begun, they have begun one.
pub record HeardOn {S : Type 0} (took : S → List ℕ → ℕ → S → Type 0) (gave : S → ℕ → List ℕ → S → Type 0) (s : S) (got : List ℕ) (u : S) : Type 0 where
  pub heard_is : Hears gave s got u
  pub owes : (m : Msg) (printed : ℕ) (v : S) → Owes took gave m v (owing m printed []) s → Owes took gave m v (owing m printed got) u

-- where a reply was owed a bad one came, with this frame
abbrev pub HeardBadly : {S : Type 0} → (S → List ℕ → ℕ → S → Type 0) → (S → ℕ → List ℕ → S → Type 0) → S → List ℕ → S → Type 0
HeardBadly {S = S} took gave s frame u = (m : Msg) (printed : ℕ) (v : S) → Owes took gave m v (owing m printed []) s → BadReply took gave m v frame u

abbrev pub Reads : {S : Type 0} → (S → List ℕ → ℕ → S → Type 0) → (S → ℕ → List ℕ → S → Type 0) → S → Result Msg TalkFault → S → Type 0
Reads took gave s (Ok r) u = HeardOn took gave s (frame_of r) u
Reads took gave s (Err fault.LinkFault) u = Unit {0}
Reads took gave s (Err (fault.BadReply frame)) u = HeardBadly took gave s frame.items u

-- the same of the world that a link tells
abbrev pub ReadsTold : Conduct → Side → World → Result Msg TalkFault → Option World → Type 0
ReadsTold c side w result o = (u : World) × (o ≡ Some u) × Reads (took_by side) (got_on c side) w result u

-- ---- what a frame is

-- a frame that is a reply, or a bad one
abbrev pub Judged : Msg → ℕ → Msg → Result Msg TalkFault → Type 0
Judged asked printed reply (Ok r) = (r ≡ reply) × (heard asked printed reply ≢ Bad)
Judged asked printed reply (Err fault.LinkFault) = ⊥
Judged asked printed reply (Err (fault.BadReply frame)) = (frame.items ≡ frame_of reply) × (heard asked printed reply ≡ Bad)

-- Where the reply to a message is owed, of which so many bytes of output came, the next frame of it came, or a bad one.
abbrev pub HearsNext : {S : Type 0} → (S → List ℕ → ℕ → S → Type 0) → (S → ℕ → List ℕ → S → Type 0) → Msg → ℕ → S → Result Msg TalkFault → S → Type 0
HearsNext took gave asked printed s (Ok r) u = HeardOn took gave s (frame_of r) u × (heard asked printed r ≢ Bad)
HearsNext took gave asked printed s (Err fault.LinkFault) u = Unit {0}
HearsNext {S = S} took gave asked printed s (Err (fault.BadReply frame)) u = (v : S) → Owes took gave asked v (owing asked printed []) s → BadReply took gave asked v frame.items u

abbrev pub HearsNextTold : Conduct → Side → Msg → ℕ → World → Result Msg TalkFault → Option World → Type 0
HearsNextTold c side asked printed w result o = (u : World) × (o ≡ Some u) × HearsNext (took_by side) (got_on c side) asked printed w result u

-- ---- exchanges

-- what an exchange comes to by the calls that it makes
abbrev pub Talks : {S : Type 0} → (S → List ℕ → ℕ → S → Type 0) → (S → ℕ → List ℕ → S → Type 0) → Msg → S → Result Msg TalkFault → S → Type 0
Talks took gave m s (Ok r) u = Asks took gave m r s u
Talks took gave m s (Err fault.LinkFault) u = Unit {0}
Talks took gave m s (Err (fault.BadReply frame)) u = BadReply took gave m s frame.items u

-- the reply came, or the link failed
abbrev pub Came : Side → Msg → Host → World → Result Msg TalkFault → Option World → Type 0
Came side r h w (Ok x) o = (x ≡ r) × (u : World) × (o ≡ Some u) × Exchanged side h w u
Came side r h w (Err fault.LinkFault) o = Unit {0}
Came side r h w (Err (fault.BadReply frame)) o = ⊥

-- What an exchange comes to where the side is idle and its nub replies at once with what ends the reply, whatever the
-- schedule.
abbrev pub TellsReply : Conduct → Side → Msg → World → Result Msg TalkFault → Option World → Type 0
TellsReply c side m w result o = (s : LinkSide) (r : Msg) (h : Host) → side_of side w ≡ Some s → IsIdle s → RepliesAtOnce c m s.host r h → heard m 0 r ≡ Ends
    → Came side r h w result o
