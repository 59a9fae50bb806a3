-- A message to an idle side gets no bad reply.
use Rattle.std.proofs.Common.{false, ◌≡◌, ◌≢◌, ◌∙◌, ◌⊎◌, inl, inr, refl, sym, ap, subst, ℕ, ◌+◌, ◌-◌, ◌≤◌, ◌<◌, min, List, [], ◌∷◌, ◌++◌, length, take, Option, Some, None, option_map, arith, append_assoc, length-append}
use Rattle.nub_wire.specs.declared.message.Msg.{Msg}
use Rattle.nub_wire.specs.declared.link.Side.{Side}
use Rattle.nub_wire.specs.declared.link.Side.TheVariants.{First, Second}
use Rattle.nub_wire.specs.declared.reply.Heard.TheVariants.{Ends, GoesOn, Bad}
use Rattle.nub_wire.specs.Spelling.{frame_of, MsgFits}
use Rattle.nub_wire.specs.Feeding.{IsPartial, frames, AllFit}
use Rattle.nub_wire.specs.Replies.{heard}
use Rattle.nub_wire.specs.Nub.{Host}
use Rattle.nub_wire.specs.Delivery.{Conduct, LinkSide, World, side_of, on_side, with_sent, fitting}
use Rattle.nub_wire.specs.Rest.{IsIdle}
use Rattle.nub_wire.specs.Calls.{Sends, none_sent, sends, SendsNone, Hears, none_heard, hears, Owed, Owes, sent_whole, comes, goes_on, BadReply, takes_none, silent, no_frame, no_reply}
use Rattle.nub_wire.specs.Exchange.{Replies, at_once, got_on, HearsReplies}
use Rattle.nub_wire.specs.Told.{took_by, NoBadReply}
use Rattle.nub_wire.proofs.Streams.{one_message_lem}
use Rattle.nub_wire.proofs.Streams.{frame_short}
use Rattle.nub_wire.proofs.Sides.{append_nil, nil_right, cancel}
use Rattle.nub_wire.proofs.ResumesEnd.{AreHeard, last_heard, more_heard}
use Rattle.nub_wire.proofs.Worlds.{replies_come}

-- ---- sends

on_twice : (side : Side) (xs ys : List ℕ) (w : World) → on_side side (with_sent ys) (on_side side (with_sent xs) w) ≡ on_side side (with_sent (xs ++ ys)) w
on_twice First xs ys w = ap (λ (l : List ℕ). record w { first = record w.first { sent = l } }) (append_assoc w.first.sent xs ys)
on_twice Second xs ys w = by w.second
  where
    by : (o : Option LinkSide) → record w { second = option_map (with_sent ys) (option_map (with_sent xs) o) } ≡ record w { second = option_map (with_sent (xs ++ ys)) o }
    by None = refl
    by (Some s) = ap (λ (l : List ℕ). record w { second = Some (record s { sent = l }) }) (append_assoc s.sent xs ys)

on_nothing : (side : Side) (w : World) → w ≡ on_side side (with_sent []) w
on_nothing First w = ap (λ (l : List ℕ). record w { first = record w.first { sent = l } }) (sym (append_nil w.first.sent))
on_nothing Second w = by w.second refl
  where
    by : (o : Option LinkSide) → w.second ≡ o → record w { second = o } ≡ record w { second = option_map (with_sent []) o }
    by None e = refl
    by (Some s) e = ap (λ (l : List ℕ). record w { second = Some (record s { sent = l }) }) (sym (append_nil s.sent))

sent_is : (side : Side) {w u : World} {bytes : List ℕ} → Sends (took_by side) w bytes u → u ≡ on_side side (with_sent bytes) w
sent_is side {w = w} none_sent = on_nothing side w
sent_is side {w = w} (sends sent piece n before took) =
    took.1 ∙ (ap (on_side side (with_sent (take n piece))) (sent_is side before) ∙ on_twice side sent (take n piece) w)

sent_side : (side : Side) (w : World) (s : LinkSide) (bytes : List ℕ) → side_of side w ≡ Some s → side_of side (on_side side (with_sent bytes) w) ≡ Some (with_sent bytes s)
sent_side First w s bytes e = ap (option_map (with_sent bytes)) e
sent_side Second w s bytes e = ap (option_map (with_sent bytes)) e

room_left : (n front rest : ℕ) → front + rest ≤ 1027 → 0 < rest → 0 ≡ min rest (4096 - front) → ⊥
room_left n front rest h some e = omega (arith, e)

some_length : (xs : List ℕ) → xs ≢ [] → 0 < length xs
some_length [] h = absurd (h refl)
some_length (x ∷ xs) h = omega arith

-- a send takes some of what is left
pub takes_some : (side : Side) (m : Msg) (s : LinkSide) (w u : World) → MsgFits m → side_of side w ≡ Some s → IsIdle s → SendsNone (took_by side) (frame_of m) w u → ⊥
takes_some side m s w u fits there i x =
    let is : x.between ≡ on_side side (with_sent x.front) w = sent_is side x.sent in
    let side_is : side_of side x.between ≡ Some (with_sent x.front s) = ap (side_of side) is ∙ sent_side side w s x.front there in
    let none : 0 ≡ fitting x.piece (Some (with_sent x.front s)) = x.none.0 ∙ ap (fitting x.piece) side_is in
    let held : s.sent ++ x.front ≡ x.front = ap (λ (l : List ℕ). l ++ x.front) i.none_sent in
    let count : 0 ≡ min (length x.piece) (4096 - length x.front) = none ∙ ap (λ (l : List ℕ). min (length x.piece) (4096 - length l)) held in
    let all : length (frame_of m) ≡ length x.front + length (x.piece ++ x.behind) = ap length (sym x.whole) ∙ length-append x.front (x.piece ++ x.behind) in
    let parts : length (x.piece ++ x.behind) ≡ length x.piece + length x.behind = length-append x.piece x.behind in
    let short : length (frame_of m) ≤ 1027 = frame_short m fits in
    room_left 0 (length x.front) (length x.piece) (omega (arith, all, parts, short)) (some_length x.piece x.some) count

-- ---- what is owed

apart : (more : ℕ) → Ends ≡ GoesOn more → ⊥
apart more e = cc

never_bad : Ends ≡ Bad → ⊥
never_bad e = cc

on_bad : (more : ℕ) → GoesOn more ≡ Bad → ⊥
on_bad more e = cc

same_more : (p q : ℕ) → GoesOn p ≡ GoesOn q → p ≡ q
same_more p q e = cc

-- the first of some replies
pub record FirstOf (left : List Msg) : Type 0 where
  pub reply : Msg
  pub rest : List Msg
  pub fits : MsgFits reply
  pub is : left ≡ reply ∷ rest

first_of : {m : Msg} {printed : ℕ} {left : List Msg} → AreHeard m printed left → AllFit left → FirstOf left
first_of (last_heard r e) f = record { reply = r; rest = []; fits = f.0; is = refl }
first_of (more_heard {ms = ms} more r e h) f = record { reply = r; rest = ms; fits = f.0; is = refl }

-- more replies are left behind a frame
pub record GoesOnWith (m : Msg) (printed : ℕ) (r : Msg) (left : List Msg) : Type 0 where
  pub more : ℕ
  pub rest : List Msg
  pub is : left ≡ r ∷ rest
  pub heard_is : heard m printed r ≡ GoesOn more
  pub are_heard : AreHeard m more rest
  pub all_fit : AllFit rest

-- a frame at the front of the replies is the first one, and is heard so
frame_heard : {m : Msg} {printed : ℕ} {left : List Msg} → AreHeard m printed left → AllFit left → (r : Msg) (rest more : List ℕ) → MsgFits r
    → (frame_of r ++ rest) ++ more ≡ frames left → (heard m printed r ≡ Ends) ⊎ GoesOnWith m printed r left
frame_heard {m = m} {printed = printed} (last_heard r' e) f r rest more fits is =
    let same : r ≡ r' = (one_message_lem r r' (rest ++ more) [] fits f.0 (sym (append_assoc (frame_of r) rest more) ∙ is)).0 in
    inl (ap (heard m printed) same ∙ e)
frame_heard {m = m} {printed = printed} (more_heard {ms = ms} q r' e h) f r rest more fits is =
    let same : r ≡ r' = (one_message_lem r r' (rest ++ more) (frames ms) fits f.0 (sym (append_assoc (frame_of r) rest more) ∙ is)).0 in
    inr (record { more = q; rest = ms; is = ap (λ (x : Msg). x ∷ ms) (sym same); heard_is = ap (heard m printed) same ∙ e; are_heard = h; all_fit = f.1 })

module _ (c : Conduct) (side : Side) (m : Msg) (ms : List Msg) (h : Host) (s : LinkSide) (w : World) (there : side_of side w ≡ Some s) (i : IsIdle s)
    (fits : MsgFits m) (replies : Replies c m s.host ms h) (takes : h.nub.blocked ≡ false) (all : AllFit ms) (are : AreHeard m 0 ms) where
  abbrev HeardSince : List ℕ → World → Type 0
  HeardSince got t = Hears (got_on c side) (on_side side (with_sent (frame_of m)) w) got t

  -- what came of the replies since the message was sent, and those that are left
  record Came (o : Owed) (t : World) : Type 0 where
    before : List ℕ
    left : List Msg
    all_fit : AllFit left
    are_heard : AreHeard m o.printed left
    spelled : before ++ frames left ≡ frames ms
    heard_is : HeardSince (before ++ o.begun) t

  reply_in : (got : List ℕ) (t : World) → HeardSince got t → HearsReplies c side ms h got w t
  reply_in got t x = replies_come c side m ms h s got w t there i fits replies takes x

  -- the bytes that are still to come
  behind : (o : Owed) (t : World) (x : Came o t) → o.begun ++ (reply_in (x.before ++ o.begun) t x.heard_is).rest ≡ frames x.left
  behind o t x =
      let y = reply_in (x.before ++ o.begun) t x.heard_is in
      cancel x.before (o.begun ++ y.rest) (frames x.left) (sym (append_assoc x.before o.begun y.rest) ∙ y.front ∙ sym x.spelled)

  came_on : (printed more : ℕ) (r : Msg) (rest : List ℕ) (t : World) (x : Came (record { asked = m; printed = printed; begun = frame_of r ++ rest }) t)
      → heard m printed r ≡ GoesOn more → (heard m printed r ≡ Ends) ⊎ GoesOnWith m printed r x.left → Came (record { asked = m; printed = more; begun = rest }) t
  came_on printed more r rest t x on (inl ends) = absurd (apart more (sym ends ∙ on))
  came_on printed more r rest t x on (inr g) =
      let same : g.more ≡ more = same_more g.more more (sym g.heard_is ∙ on) in
      record {
        before = x.before ++ frame_of r;
        left = g.rest;
        all_fit = g.all_fit;
        are_heard = subst (λ (n : ℕ). AreHeard m n g.rest) same g.are_heard;
        spelled = append_assoc x.before (frame_of r) (frames g.rest) ∙ ap (λ (l : List Msg). x.before ++ frames l) (sym g.is) ∙ x.spelled;
        heard_is = subst (λ (l : List ℕ). HeardSince l t) (sym (append_assoc x.before (frame_of r) rest)) x.heard_is;
      }

  came_of : {o : Owed} {t : World} → Owes (took_by side) (got_on c side) m w o t → Came o t
  came_of (sent_whole {t = t} sent) =
      record { before = []; left = ms; all_fit = all; are_heard = are; spelled = refl; heard_is = subst (λ (v : World). Hears (got_on c side) v [] t) (sent_is side sent) none_heard }
  came_of (comes {u = u} printed size begun bytes before partial gave) =
      let x = came_of before in
      record {
        before = x.before;
        left = x.left;
        all_fit = x.all_fit;
        are_heard = x.are_heard;
        spelled = x.spelled;
        heard_is = subst (λ (l : List ℕ). HeardSince l u) (append_assoc x.before begun bytes) (hears (x.before ++ begun) bytes size x.heard_is gave);
      }
  came_of (goes_on {t = t} printed more r rest before fits' on) =
      let x = came_of before in
      let y = reply_in (x.before ++ (frame_of r ++ rest)) t x.heard_is in
      came_on printed more r rest t x on (frame_heard x.are_heard x.all_fit r rest y.rest fits' (behind (record { asked = m; printed = printed; begun = frame_of r ++ rest }) t x))

  part_more : (begun more : List ℕ) (left : List Msg) → FirstOf left → IsPartial begun → begun ++ more ≡ frames left → more ≢ []
  part_more begun more left f part is none =
      let whole : begun ≡ frame_of f.reply ++ frames f.rest = sym (append_nil begun) ∙ ap (λ (l : List ℕ). begun ++ l) (sym none) ∙ is ∙ ap frames f.is in
      let joined : frame_of f.reply ++ (frames f.rest ++ part.rest) ≡ frame_of part.message ++ [] =
      sym (append_assoc (frame_of f.reply) (frames f.rest) part.rest) ∙ ap (λ (l : List ℕ). l ++ part.rest) (sym whole) ∙ part.whole ∙ sym (append_nil (frame_of part.message)) in
      part.some (nil_right (frames f.rest) part.rest (one_message_lem f.reply part.message (frames f.rest ++ part.rest) [] f.fits part.fits joined).1)

  bad_heard : (printed : ℕ) (r : Msg) (left : List Msg) → heard m printed r ≡ Bad → (heard m printed r ≡ Ends) ⊎ GoesOnWith m printed r left → ⊥
  bad_heard printed r left bad (inl ends) = never_bad (sym ends ∙ bad)
  bad_heard printed r left bad (inr g) = on_bad g.more (sym g.heard_is ∙ bad)

  pub none_bad : {frame : List ℕ} {u : World} → BadReply (took_by side) (got_on c side) m w frame u → ⊥
  none_bad {u = u} (takes_none x) = takes_some side m s w u fits there i x
  none_bad {u = u} (silent {t = t} o size owes part gave) =
      let x = came_of owes in
      let y = reply_in (x.before ++ o.begun) t x.heard_is in
      y.more size [] u (part_more o.begun y.rest x.left (first_of x.are_heard x.all_fit) part (behind o t x)) gave refl
  none_bad (no_frame {t = t} o owes short none) =
      let x = came_of owes in
      let y = reply_in (x.before ++ o.begun) t x.heard_is in
      let f = first_of x.are_heard x.all_fit in
      none f.reply y.rest (frames f.rest) f.fits (behind o t x ∙ ap frames f.is)
  none_bad (no_reply {t = t} printed r rest owes fits' bad) =
      let o : Owed = record { asked = m; printed = printed; begun = frame_of r ++ rest } in
      let x = came_of owes in
      let y = reply_in (x.before ++ (frame_of r ++ rest)) t x.heard_is in
      bad_heard printed r x.left bad (frame_heard x.are_heard x.all_fit r rest y.rest fits' (behind o t x))

pub no_bad_reply : (c : Conduct) → NoBadReply c
no_bad_reply c side m r h s frame w w' there i p ends bad =
    none_bad c side m (r ∷ []) h s w there i p.fits (at_once r p.is p.none_open) p.takes (p.reply_fits, tt) (last_heard r ends) bad
