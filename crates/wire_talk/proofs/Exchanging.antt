-- A message and its reply.
use Rattle.std.proofs.Common.{◌≡◌, ◌≢◌, ◌∙◌, refl, sym, subst, ℕ, ◌≤◌, ◌<◌, Bool, true, false, List, [], ◌++◌, length, Option, Some, Result, Ok, Err, IfOk, arith}
use Rattle.std.proofs.lemmas.Grind.{common_steps}
use Rattle.nub_wire.specs.declared.message.Msg.{Msg}
use Rattle.nub_wire.specs.declared.message.Msg.TheVariants as msg
use Rattle.nub_wire.specs.declared.link.Side.{Side}
use Rattle.nub_wire.specs.declared.reply.Heard.{Heard}
use Rattle.nub_wire.specs.declared.reply.Heard.TheVariants.{Ends, Bad}
use Rattle.nub_wire.specs.Spelling.{frame_of, MsgFits}
use Rattle.nub_wire.specs.Replies.{ends_reply, heard, ending}
use Rattle.nub_wire.specs.Nub.{Host}
use Rattle.nub_wire.specs.Delivery.{Conduct, LinkSide, World, side_of, on_side, with_sent}
use Rattle.nub_wire.specs.Calls.{Sends, SendsNone, Owes, sent_whole, BadReply, takes_none, no_reply}
use Rattle.nub_wire.specs.Rest.{IsIdle}
use Rattle.nub_wire.specs.Exchange.{RepliesAtOnce, got_on}
use Rattle.nub_wire.specs.Told.{took_by}
use Rattle.nub_wire.proofs.Streams.{frame_short, one_message_lem}
use Rattle.nub_wire.proofs.Told.{no_bad_reply}
use Rattle.nub_wire.proofs.Worlds.{exchange_law}
use Rattle.wire_talk.specs.declared.fault.TalkFault.{TalkFault}
use Rattle.wire_talk.specs.declared.fault.TalkFault.TheVariants as fault
use Rattle.wire_talk.specs.Talk.{IsShort, CountsTalk, owing, SendsAll, HeardOn, Reads, ReadsTold, Judged, HearsNext, HearsNextTold, Talks, Came, TellsReply}
use Rattle.wire_talk.proofs.Sending.{sent_in_world}

append_nil : (xs : List ℕ) → xs ++ [] ≡ xs
append_nil xs = grind (arith, common_steps)

pub frame_long : (m : Msg) → 0 < length (frame_of m)
unfolding frame_of
frame_long m = omega arith

-- ---- the next frame

pub judged_counts : (asked reply : Msg) (printed old new : ℕ) (result : Result Msg TalkFault) → Judged asked printed reply result → new ≡ old → CountsTalk old result new
judged_counts asked reply printed old new (Ok r) j e = e
judged_counts asked reply printed old new (Err fault.LinkFault) j e = absurd j
judged_counts asked reply printed old new (Err (fault.BadReply frame)) j e = e

pub judged_fits : (asked reply : Msg) (printed : ℕ) (result : Result Msg TalkFault) → Judged asked printed reply result → MsgFits reply → IfOk result MsgFits
judged_fits asked reply printed (Ok r) j fits = subst MsgFits (sym j.0) fits
judged_fits asked reply printed (Err fault.LinkFault) j fits = absurd j
judged_fits asked reply printed (Err (fault.BadReply frame)) j fits = tt

module _ {S : Type 0} (took : S → List ℕ → ℕ → S → Type 0) (gave : S → ℕ → List ℕ → S → Type 0) where
  -- a frame was read, and judged
  pub next_of : (asked reply : Msg) (printed : ℕ) (s u : S) (result : Result Msg TalkFault) → MsgFits reply → HeardOn took gave s (frame_of reply) u → Judged asked printed reply result
      → HearsNext took gave asked printed s result u
  next_of asked reply printed s u (Ok r) fits h j =
      (subst (λ (m : Msg). HeardOn took gave s (frame_of m) u) (sym j.0) h, subst (λ (m : Msg). heard asked printed m ≢ Bad) (sym j.0) j.1)
  next_of asked reply printed s u (Err fault.LinkFault) fits h j = tt
  next_of asked reply printed s u (Err (fault.BadReply frame)) fits h j = λ (v : S) owes.
      let whole : Owes took gave asked v (owing asked printed (frame_of reply ++ [])) u =
      subst (λ (l : List ℕ). Owes took gave asked v (owing asked printed l) u) (sym (append_nil (frame_of reply))) (h.owes asked printed v owes) in
      subst (λ (l : List ℕ). BadReply took gave asked v l u) (sym j.0) (no_reply printed reply [] whole fits j.1)

  -- none was read
  pub next_none : (asked : Msg) (printed : ℕ) (s u : S) (f : TalkFault) → Reads took gave s (Err f) u → HearsNext took gave asked printed s (Err f) u
  next_none asked printed s u fault.LinkFault h = tt
  next_none asked printed s u (fault.BadReply frame) h = h asked printed

  -- ---- an exchange

  ends_of : (ends : Bool) → ending ends ≢ Bad → ending ends ≡ Ends
  ends_of true n = refl
  ends_of false n = absurd (n refl)

  short_heard : (m r : Msg) (printed : ℕ) → IsShort m → heard m printed r ≡ ending (ends_reply m r)
  short_heard (msg.Resume turns) r printed s = absurd s
  short_heard msg.Hello r printed s = refl
  short_heard (msg.Fetch address size) r printed s = refl
  short_heard (msg.Store address size value) r printed s = refl
  short_heard msg.Kill r printed s = refl
  short_heard (msg.Input bytes) r printed s = refl
  short_heard (msg.Word value) r printed s = refl
  short_heard msg.Done r printed s = refl
  short_heard msg.Outside r printed s = refl
  short_heard (msg.Stopped why pc) r printed s = refl
  short_heard (msg.Output bytes) r printed s = refl
  short_heard (msg.Exited status) r printed s = refl
  short_heard (msg.Faulted kind pc) r printed s = refl
  short_heard msg.Turns r printed s = refl
  short_heard msg.Stack r printed s = refl

  short_ends : (m r : Msg) → IsShort m → heard m 0 r ≢ Bad → heard m 0 r ≡ Ends
  short_ends m r s n = short_heard m r 0 s ∙ ends_of (ends_reply m r) (subst (λ (h : Heard). h ≢ Bad) (short_heard m r 0 s) n)

  pub talks_of : (m : Msg) (s t u : S) (result : Result Msg TalkFault) → IsShort m → Sends took s (frame_of m) t → HearsNext took gave m 0 t result u → Talks took gave m s result u
  talks_of m s t u (Ok r) short sent h = record { between = t; sent = sent; got = h.0.heard_is; ends = short_ends m r short h.1 }
  talks_of m s t u (Err fault.LinkFault) short sent h = tt
  talks_of m s t u (Err (fault.BadReply frame)) short sent h = h s (sent_whole sent)

  pub talks_none : (m : Msg) (bytes : List ℕ) (s u : S) (f : TalkFault) → bytes ≡ frame_of m → SendsAll took bytes s (Err f) u → Talks took gave m s (Err f) u
  talks_none m bytes s u fault.LinkFault e h = tt
  talks_none m bytes s u (fault.BadReply frame) e h =
      subst (λ (l : List ℕ). BadReply took gave m s l u) (sym h.0) (takes_none (subst (λ (l : List ℕ). SendsNone took l s u) e h.1))

-- ---- by the world that the link tells

pub next_told : (c : Conduct) (side : Side) (asked reply : Msg) (printed : ℕ) (w : World) (result : Result Msg TalkFault) (o : Option World) → MsgFits reply
    → ReadsTold c side w (Ok reply) o → Judged asked printed reply result → HearsNextTold c side asked printed w result o
next_told c side asked reply printed w result o fits h j = (h.0, h.1, next_of (took_by side) (got_on c side) asked reply printed w h.0 result fits h.2 j)

pub next_none_told : (c : Conduct) (side : Side) (asked : Msg) (printed : ℕ) (w : World) (f : TalkFault) (o : Option World) → ReadsTold c side w (Err f) o
    → HearsNextTold c side asked printed w (Err f) o
next_none_told c side asked printed w f o h = (h.0, h.1, next_none (took_by side) (got_on c side) asked printed w h.0 f h.2)

came_of : (c : Conduct) (side : Side) (m r : Msg) (h : Host) (s : LinkSide) (w : World) (result : Result Msg TalkFault) (o : Option World)
    → side_of side w ≡ Some s → IsIdle s → MsgFits m → RepliesAtOnce c m s.host r h → heard m 0 r ≡ Ends → IfOk result MsgFits
    → HearsNextTold c side m 0 (on_side side (with_sent (frame_of m)) w) result o → Came side r h w result o
came_of c side m r h s w (Ok x) o there i fits p ends ok y =
    let e = exchange_law c side m r h s (frame_of x) w y.0 there i p y.2.0.heard_is in
    let one = one_message_lem x r e.rest [] ok p.reply_fits (e.front ∙ sym (append_nil (frame_of r))) in
    (one.0, y.0, y.1, e.whole one.1)
came_of c side m r h s w (Err fault.LinkFault) o there i fits p ends ok y = tt
came_of c side m r h s w (Err (fault.BadReply frame)) o there i fits p ends ok y =
    let short : length (frame_of m) ≤ 1027 = frame_short m fits in
    let sent = sent_in_world side (frame_of m) w s there i.none_sent (omega (arith, short)) in
    no_bad_reply c side m r h s frame.items w y.0 there i p ends (y.2 w (sent_whole sent))

pub tells_of : (c : Conduct) (side : Side) (m : Msg) (w : World) (result : Result Msg TalkFault) (mid o : Option World)
    → ((s : LinkSide) → side_of side w ≡ Some s → s.sent ≡ [] → mid ≡ Some (on_side side (with_sent (frame_of m)) w))
    → IfOk result MsgFits
    → ((v : World) → mid ≡ Some v → HearsNextTold c side m 0 v result o) → TellsReply c side m w result o
tells_of c side m w result mid o sent ok next = λ (s : LinkSide) (r : Msg) (h : Host) there i p ends.
    came_of c side m r h s w result o there i p.fits p ends ok (next (on_side side (with_sent (frame_of m)) w) (sent s there i.none_sent))
