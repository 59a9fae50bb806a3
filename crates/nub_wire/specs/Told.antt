-- A link that tells its nubs gives no bad reply.
use Rattle.std.specs.Prelude.{◌≡◌, ℕ, false, List, [], take, Some}
use Rattle.machine_state.specs.State.{Behaviour}
use Rattle.nub_wire.specs.declared.message.Msg.{Msg}
use Rattle.nub_wire.specs.declared.link.Side.{Side}
use Rattle.nub_wire.specs.declared.reply.Heard.TheVariants.{Ends}
use Rattle.nub_wire.specs.Spelling.{MsgFits}
use Rattle.nub_wire.specs.Replies.{heard}
use Rattle.nub_wire.specs.Heard.{MayAsk, IsShut}
use Rattle.nub_wire.specs.Nub.{Host}
use Rattle.nub_wire.specs.Delivery.{Conduct, nubs_over, LinkSide, World, side_of, on_side, with_sent, fitting}
use Rattle.nub_wire.specs.Rest.{IsIdle, IsAtRest}
use Rattle.nub_wire.specs.Calls.{BadReply}
use Rattle.nub_wire.specs.Exchange.{RepliesAtOnce, Replies, got_on}
use Rattle.nub_wire.specs.Fits.{TellsFitting}

-- sends on a side, as steps of worlds
abbrev pub took_by : Side → World → List ℕ → ℕ → World → Type 0
took_by side w piece n w' = (n ≡ fitting piece (side_of side w)) × (w' ≡ on_side side (with_sent (take n piece)) w)

-- Under any schedule and in pieces of any sizes, a message to an idle side that the nub replies to at once, with what ends
-- its reply, gets no bad reply.
abbrev pub NoBadReply : Conduct → Type 0
NoBadReply c = (side : Side) (m r : Msg) (h : Host) (s : LinkSide) (frame : List ℕ) (w w' : World)
    → side_of side w ≡ Some s → IsIdle s → RepliesAtOnce c m s.host r h → heard m 0 r ≡ Ends
    → BadReply (took_by side) (got_on c side) m w frame w' → ⊥

-- So it is of each message that a debugger may ask a nub at rest, a Resume too, where the nubs meet their whole definition
-- and what they tell of their machines fits messages.
abbrev pub NubsGiveNoBadReply : Behaviour → Type 0
NubsGiveNoBadReply b = (side : Side) (m : Msg) (s : LinkSide) (frame : List ℕ) (w w' : World)
    → side_of side w ≡ Some s → IsAtRest s → TellsFitting b s.host → MsgFits m → MayAsk m s.host.machine
    → BadReply (took_by side) (got_on (nubs_over b) side) m w frame w' → ⊥

-- What a nub tells goes on to fit messages behind each message and its replies, and the nub waits for another one.
abbrev pub NubsStayFitting : Behaviour → Type 0
NubsStayFitting b = (m : Msg) (h t : Host) (ms : List Msg) → TellsFitting b h → h.nub.blocked ≡ false → h.nub.output ≡ [] → MsgFits m
    → Replies (nubs_over b) m h ms t → TellsFitting b t × IsShut t.nub
