-- A link during an exchange on one of its sides.
use Rattle.std.proofs.Common.{◌≡◌, ◌≢◌, ◌∙◌, inl, inr, refl, sym, ap, subst, ℕ, suc, false, List, [], ◌∷◌, ◌++◌, take, drop, Option, Some, None, option_map, append_assoc}
use Rattle.nub_wire.specs.declared.message.Msg.{Msg}
use Rattle.nub_wire.specs.declared.link.Side.{Side}
use Rattle.nub_wire.specs.declared.link.Side.TheVariants.{First, Second}
use Rattle.nub_wire.specs.declared.link.Entry.{Entry}
use Rattle.nub_wire.specs.Spelling.{frame_of, MsgFits}
use Rattle.nub_wire.specs.Feeding.{frames}
use Rattle.machine_state.specs.State.{Behaviour}
use Rattle.nub_wire.specs.Nub.{Host}
use Rattle.nub_wire.specs.Delivery.{Conduct, LinkSide, World, side_of, on_side, with_sent, Moves, EntersSide, Enters, Waits, has_ready, enters, used_up, ready_of, without_ready, Gets, GetsFrom, Receives}
use Rattle.nub_wire.specs.Rest.{IsIdle, other, KeepsOther}
use Rattle.nub_wire.specs.Calls.{Hears, none_heard, hears}
use Rattle.nub_wire.specs.Exchange.{RepliesAtOnce, Replies, at_once, got_on, Exchanged, HearsReply, HearsReplies}
use Rattle.nub_wire.proofs.Pendings.{frame_some, frames_nil, replies_some, pending_over}
use Rattle.nub_wire.proofs.Sides.{append_nil, nil_left, nil_right, cancel, drop_nil, take_nil, split_at, InExchange, Answered, moves_on, idle_moves, out_on}

-- ---- the two sides

some_is : (s t : LinkSide) → Some s ≡ Some t → s ≡ t
some_is s t e = cc

pub set_side : (side : Side) (w : World) (s t : LinkSide) → side_of side w ≡ Some s → side_of side (on_side side (λ _. t) w) ≡ Some t
set_side First w s t e = refl
set_side Second w s t e = rw e refl

pub set_by : (side : Side) (f : LinkSide → LinkSide) (w : World) (s : LinkSide) → side_of side w ≡ Some s → side_of side (on_side side f w) ≡ Some (f s)
set_by First f w s e = ap (λ (x : LinkSide). Some (f x)) (some_is w.first s e)
set_by Second f w s e = ap (option_map f) e

pub other_same : (side : Side) (f : LinkSide → LinkSide) (w : World) → side_of (other side) (on_side side f w) ≡ side_of (other side) w
other_same First f w = refl
other_same Second f w = refl

pub keeps_on : (side : Side) (f : LinkSide → LinkSide) (v w : World) → KeepsOther side v w → KeepsOther side v (on_side side f w)
keeps_on side f v w k = λ (o : LinkSide) (e : side_of (other side) v ≡ Some o) (i : IsIdle o). other_same side f w ∙ k o e i

-- ---- the state of an exchange

-- where the exchange stands on a side of a link, which began as another
pub record Stands (c : Conduct) (side : Side) (m : Msg) (g : Host) (ms : List Msg) (h : Host) (got : List ℕ) (v w : World) : Type 0 where
  pub now : LinkSide
  pub there : side_of side w ≡ Some now
  pub stands : InExchange c.behaviour m g ms h got now
  pub keeps : KeepsOther side v w

-- the nub takes a message, and replies to it
pub record Open (c : Conduct) (m : Msg) (g : Host) (ms : List Msg) (h : Host) : Type 0 where
  pub answered : Answered c m g ms h
  pub none_open : g.nub.left ≡ None
  pub takes : g.nub.blocked ≡ false
  pub still_takes : h.nub.blocked ≡ false

stands_at : (c : Conduct) (side : Side) (m : Msg) (ms : List Msg) (g h : Host) (got : List ℕ) (v w : World) (s : LinkSide) → side_of side w ≡ Some s
    → Stands c side m g ms h got v w → InExchange c.behaviour m g ms h got s
stands_at c side m ms g h got v w s e x = subst (InExchange c.behaviour m g ms h got) (some_is x.now s (sym x.there ∙ e)) x.stands

-- ---- an entry of the schedule

-- the side of an entry moved
moved : (c : Conduct) (e : Entry) (side : Side) (m : Msg) (ms : List Msg) (g h : Host) (got : List ℕ) (v w w' : World) (s t : LinkSide) → Open c m g ms h
    → e.side ≡ side → side_of side w ≡ Some s → Moves c e s t → w' ≡ on_side side (λ _. t) w → Stands c side m g ms h got v w → Stands c side m g ms h got v w'
moved c e side m ms g h got v w w' s t p is there move new x =
    let y : Stands c side m g ms h got v (on_side side (λ _. t) w) = record {
      now = t;
      there = set_side side w s t there;
      stands = moves_on c e m ms g h got s t p.none_open p.answered (stands_at c side m ms g h got v w s there x) move;
      keeps = keeps_on side (λ _. t) v w x.keeps;
    } in
    subst (Stands c side m g ms h got v) (sym new) y

-- the other side is where it was, though it moved, if it is idle
pub record Other (side : Side) : Type 0 where
  pub that : Side
  pub is : that ≡ other side

same_side : (side : Side) (w : World) (f : LinkSide → LinkSide) → side_of side (on_side (other side) f w) ≡ side_of side w
same_side First w f = refl
same_side Second w f = refl

moved_other : (c : Conduct) (e : Entry) (side : Side) (m : Msg) (ms : List Msg) (g h : Host) (got : List ℕ) (v w w' : World) (s t : LinkSide)
    → side_of (other side) w ≡ Some s → Moves c e s t → w' ≡ on_side (other side) (λ _. t) w → Stands c side m g ms h got v w → Stands c side m g ms h got v w'
moved_other c e side m ms g h got v w w' s t there move new x =
    let keeps : KeepsOther side v (on_side (other side) (λ _. t) w) = λ (o : LinkSide) (is : side_of (other side) v ≡ Some o) (i : IsIdle o).
    let same : s ≡ o = some_is s o (sym there ∙ x.keeps o is i) in
    let stays : t ≡ s = idle_moves c e s t (subst IsIdle (sym same) i) move in
    set_side (other side) w s t there ∙ ap (λ (y : LinkSide). Some y) (stays ∙ same) in
    let y : Stands c side m g ms h got v (on_side (other side) (λ _. t) w) = record {
      now = x.now;
      there = same_side side w (λ _. t) ∙ x.there;
      stands = x.stands;
      keeps = keeps;
    } in
    subst (Stands c side m g ms h got v) (sym new) y

entered_by : (c : Conduct) (e : Entry) (that side : Side) (m : Msg) (ms : List Msg) (g h : Host) (got : List ℕ) (v w w' : World) (o : Option LinkSide) → Open c m g ms h
    → e.side ≡ that → side_of that w ≡ o → EntersSide c e o w w' → Stands c side m g ms h got v w → Stands c side m g ms h got v w'
entered_by c e that side m ms g h got v w w' None p is there new x = subst (Stands c side m g ms h got v) (sym new) x
entered_by c e First First m ms g h got v w w' (Some s) p is there x y =
    moved c e First m ms g h got v w w' s x.0 p is there x.1 (x.2 ∙ ap (λ (z : Side). on_side z (λ _. x.0) w) is) y
entered_by c e Second Second m ms g h got v w w' (Some s) p is there x y =
    moved c e Second m ms g h got v w w' s x.0 p is there x.1 (x.2 ∙ ap (λ (z : Side). on_side z (λ _. x.0) w) is) y
entered_by c e First Second m ms g h got v w w' (Some s) p is there x y =
    moved_other c e Second m ms g h got v w w' s x.0 there x.1 (x.2 ∙ ap (λ (z : Side). on_side z (λ _. x.0) w) is) y
entered_by c e Second First m ms g h got v w w' (Some s) p is there x y =
    moved_other c e First m ms g h got v w w' s x.0 there x.1 (x.2 ∙ ap (λ (z : Side). on_side z (λ _. x.0) w) is) y

entered : (c : Conduct) (e : Entry) (side : Side) (m : Msg) (ms : List Msg) (g h : Host) (got : List ℕ) (v w w' : World) → Open c m g ms h
    → Enters c e w w' → Stands c side m g ms h got v w → Stands c side m g ms h got v w'
entered c e side m ms g h got v w w' p x y = entered_by c e e.side side m ms g h got v w w' (side_of e.side w) p refl refl x y

same_but_schedule : (side : Side) (w : World) (rest : List Entry) → side_of side (record w { schedule = rest }) ≡ side_of side w
same_but_schedule First w rest = refl
same_but_schedule Second w rest = refl

scheduled : (c : Conduct) (side : Side) (m : Msg) (ms : List Msg) (g h : Host) (got : List ℕ) (v w : World) (rest : List Entry) → Stands c side m g ms h got v w
    → Stands c side m g ms h got v (record w { schedule = rest })
scheduled c side m ms g h got v w rest x = record {
  now = x.now;
  there = same_but_schedule side w rest ∙ x.there;
  stands = x.stands;
  keeps = λ (o : LinkSide) (e : side_of (other side) v ≡ Some o) (i : IsIdle o). same_but_schedule (other side) w rest ∙ x.keeps o e i;
}

-- ---- a wait

-- after a wait the exchange stands where it stood, and bytes are ready if there is more to come
pub record Waited (c : Conduct) (side : Side) (m : Msg) (g : Host) (ms : List Msg) (h : Host) (got : List ℕ) (v w : World) : Type 0 where
  pub stands : Stands c side m g ms h got v w
  pub some : got ≢ frames ms → stands.now.ready ≢ []

pub waits_on : {c : Conduct} {side : Side} {w u : World} (m : Msg) (ms : List Msg) (g h : Host) (got : List ℕ) (v : World) → Open c m g ms h
    → Stands c side m g ms h got v w → Waits c side w u → Waited c side m g ms h got v u
waits_on {side = side} {w = w} m ms g h got v p x (has_ready s there some) =
    record { stands = x; some = λ (part : got ≢ frames ms) (e : x.now.ready ≡ []). some (ap (λ (y : LinkSide). y.ready) (some_is s x.now (sym there ∙ x.there)) ∙ e) }
waits_on {c = c} {side = side} {w = w} m ms g h got v p x (enters {v = next} s e rest there none first move more) =
    waits_on m ms g h got v p (entered c e side m ms g h got v (record w { schedule = rest }) next p move (scheduled c side m ms g h got v w rest x)) more
waits_on {c = c} {side = side} {w = w} m ms g h got v p x (used_up s t there none last out) =
    let o = out_on c m ms g h got s t s.answers p.none_open p.takes p.answered (stands_at c side m ms g h got v w s there x) refl out in
    record {
      stands = record { now = t; there = set_side side w s t there; stands = inr o.answering; keeps = keeps_on side (λ _. t) v w x.keeps };
      some = o.some;
    }

-- ---- a receive

gets_from : (c : Conduct) (side : Side) (size : ℕ) (bytes : List ℕ) (w w' : World) (o : Option LinkSide) (s : LinkSide) → o ≡ Some s
    → GetsFrom c side o (suc size) bytes w w' → Gets c side (suc size) bytes w w'
gets_from c side size bytes w w' None s e g = cc
gets_from c side size bytes w w' (Some t) s e g = g

given_same : (n : ℕ) (got ready rest : List ℕ) → (got ++ take n ready) ++ (drop n ready ++ rest) ≡ got ++ (ready ++ rest)
given_same n got ready rest =
    append_assoc got (take n ready) (drop n ready ++ rest)
    ∙ ap (λ (l : List ℕ). got ++ l) (sym (append_assoc (take n ready) (drop n ready) rest) ∙ ap (λ (l : List ℕ). l ++ rest) (split_at n ready))

pub given_on : (b : Behaviour) (m : Msg) (ms : List Msg) (g h : Host) (got : List ℕ) (s : LinkSide) (n : ℕ) → InExchange b m g ms h got s
    → InExchange b m g ms h (got ++ take n s.ready) (without_ready n s)
given_on b m ms g h got s n (inl x) =
    let a = x.asking in
    let none : drop n s.ready ≡ [] = ap (drop n) a.none_ready ∙ drop_nil n in
    let still : got ++ take n s.ready ≡ [] = rw (x.none_got, a.none_ready) (take_nil n) in
    inl (record { asking = record { spelled = a.spelled; some = a.some; good = a.good; host_is = a.host_is; none_answered = a.none_answered; none_ready = none }; none_got = still })
given_on b m ms g h got s n (inr a) =
    inr (record {
      none_sent = a.none_sent;
      none_begun = a.none_begun;
      good = a.good;
      left = a.left;
      pending = a.pending;
      spelled = given_same n got s.ready (s.answers ++ frames a.left) ∙ a.spelled;
    })

-- more was heard, and something where there was more to come
pub record HeardMore (c : Conduct) (side : Side) (m : Msg) (g : Host) (ms : List Msg) (h : Host) (got bytes : List ℕ) (v w : World) : Type 0 where
  pub stands : Stands c side m g ms h (got ++ bytes) v w
  pub some : got ≢ frames ms → bytes ≢ []

some_taken : (n : ℕ) (xs : List ℕ) → take (suc n) xs ≡ [] → xs ≡ []
some_taken n [] e = refl
some_taken n (x ∷ xs) e = cc

pub receives_on : (c : Conduct) (side : Side) (m : Msg) (ms : List Msg) (g h : Host) (got bytes : List ℕ) (size : ℕ) (v w w' : World) → Open c m g ms h
    → Stands c side m g ms h got v w → Receives c side (suc size) bytes w w' → HeardMore c side m g ms h got bytes v w'
receives_on c side m ms g h got bytes size v w w' p x get =
    let y = gets_from c side size bytes w w' (side_of side w) x.now x.there get in
    let z = waits_on m ms g h got v p x y.waits in
    let s : LinkSide = z.stands.now in
    let given : bytes ≡ take (suc size) s.ready = y.given ∙ ap (λ (o : Option LinkSide). take (suc size) (ready_of o)) z.stands.there in
    let on : Stands c side m g ms h (got ++ take (suc size) s.ready) v (on_side side (without_ready (suc size)) y.waited) = record {
      now = without_ready (suc size) s;
      there = set_by side (without_ready (suc size)) y.waited s z.stands.there;
      stands = given_on c.behaviour m ms g h got s (suc size) z.stands.stands;
      keeps = keeps_on side (without_ready (suc size)) v y.waited z.stands.keeps;
    } in
    let there : Stands c side m g ms h (got ++ take (suc size) s.ready) v w' = subst (Stands c side m g ms h (got ++ take (suc size) s.ready) v) (sym y.new_is) on in
    record {
      stands = subst (λ (l : List ℕ). Stands c side m g ms h (got ++ l) v w') (sym given) there;
      some = λ (part : got ≢ frames ms) (e : bytes ≡ []). z.some part (some_taken size s.ready (sym given ∙ e));
    }

-- ---- the whole

-- a frame sent to an idle side
pub begun : (c : Conduct) (side : Side) (m : Msg) (ms : List Msg) (h : Host) (s : LinkSide) (w : World) → side_of side w ≡ Some s → IsIdle s
    → Stands c side m s.host ms h [] w (on_side side (with_sent (frame_of m)) w)
begun c side m ms h s w there i =
    let sent : s.sent ++ frame_of m ≡ frame_of m = ap (λ (l : List ℕ). l ++ frame_of m) i.none_sent in
    let spelled : s.feeding.held ++ (s.sent ++ frame_of m) ≡ frame_of m = ap (λ (l : List ℕ). l ++ (s.sent ++ frame_of m)) i.none_begun ∙ sent in
    record {
      now = with_sent (frame_of m) s;
      there = set_by side (with_sent (frame_of m)) w s there;
      stands = inl (record {
        asking = record { spelled = spelled; some = λ (e : s.sent ++ frame_of m ≡ []). frame_some m (sym sent ∙ e); good = i.good; host_is = refl; none_answered = i.none_answered; none_ready = i.none_ready };
        none_got = refl;
      });
      keeps = keeps_on side (with_sent (frame_of m)) w w (λ (o : LinkSide) (e : side_of (other side) w ≡ Some o) (k : IsIdle o). e);
    }

pub record Front (ms : List Msg) (got : List ℕ) : Type 0 where
  pub rest : List ℕ
  pub is : got ++ rest ≡ frames ms

front_of_stands : (b : Behaviour) (m : Msg) (ms : List Msg) (g h : Host) (got : List ℕ) (s : LinkSide) → InExchange b m g ms h got s → Front ms got
front_of_stands b m ms g h got s (inl x) = record { rest = frames ms; is = ap (λ (l : List ℕ). l ++ frames ms) x.none_got }
front_of_stands b m ms g h got s (inr a) = record { rest = s.ready ++ (s.answers ++ frames a.left); is = a.spelled }

whole_idle : (c : Conduct) (m : Msg) (ms : List Msg) (g h : Host) (got : List ℕ) (s : LinkSide) → Open c m g ms h → got ≡ frames ms → InExchange c.behaviour m g ms h got s
    → IsIdle s × (s.host ≡ h)
whole_idle c m ms g h got s p e (inl x) = absurd (replies_some p.answered.replies (frames_nil ms (sym e ∙ x.none_got)))
whole_idle c m ms g h got s p e (inr a) =
    let none : s.ready ++ (s.answers ++ frames a.left) ≡ [] = cancel got (s.ready ++ (s.answers ++ frames a.left)) [] (a.spelled ∙ sym e ∙ sym (append_nil got)) in
    let none_behind : s.answers ++ frames a.left ≡ [] = nil_right s.ready (s.answers ++ frames a.left) none in
    let o = pending_over a.pending (frames_nil a.left (nil_right s.answers (frames a.left) none_behind)) in (
      record {
        none_sent = a.none_sent;
        none_begun = a.none_begun;
        good = a.good;
        none_answered = nil_left s.answers (frames a.left) none_behind;
        none_ready = nil_left s.ready (s.answers ++ frames a.left) none;
        none_open = ap (λ (k : Host). k.nub.left) o.same ∙ o.none_open;
        takes = ap (λ (k : Host). k.nub.blocked) o.same ∙ p.still_takes;
      },
      o.same,
    )

pub whole_exchanged : (c : Conduct) (side : Side) (m : Msg) (ms : List Msg) (g h : Host) (got : List ℕ) (v w : World) → Open c m g ms h → got ≡ frames ms
    → Stands c side m g ms h got v w → Exchanged side h v w
whole_exchanged c side m ms g h got v w p e x =
    let y = whole_idle c m ms g h got x.now p e x.stands in
    record { now = x.now; there = x.there; idle = y.0; host_is = y.1; keeps = x.keeps }

pub replies_of_stands : (c : Conduct) (side : Side) (m : Msg) (ms : List Msg) (g h : Host) (got : List ℕ) (v w : World) → Open c m g ms h → Stands c side m g ms h got v w
    → HearsReplies c side ms h got v w
replies_of_stands c side m ms g h got v w p x =
    let f = front_of_stands c.behaviour m ms g h got x.now x.stands in
    record {
      rest = f.rest;
      front = f.is;
      whole = λ (e : f.rest ≡ []). whole_exchanged c side m ms g h got v w p (sym (append_nil got) ∙ ap (λ (l : List ℕ). got ++ l) (sym e) ∙ f.is) x;
      more = λ (size : ℕ) (bytes : List ℕ) (u : World) (some : f.rest ≢ []) (get : Receives c side (suc size) bytes w u).
          (receives_on c side m ms g h got bytes size v w u p x get).some (λ (e : got ≡ frames ms). some (cancel got f.rest [] (f.is ∙ sym e ∙ sym (append_nil got))));
    }

hears_on : {c : Conduct} {side : Side} {got : List ℕ} {w u : World} (m : Msg) (ms : List Msg) (g h : Host) (v : World) → Open c m g ms h
    → Stands c side m g ms h [] v w → Hears (got_on c side) w got u → Stands c side m g ms h got v u
hears_on m ms g h v p x none_heard = x
hears_on {c = c} {side = side} {u = u} m ms g h v p x (hears {t = t} got bytes size before get) =
    (receives_on c side m ms g h got bytes size v t u p (hears_on m ms g h v p x before) get).stands

-- however a schedule delivers, what comes after the frame of a message to an idle side is its replies
pub replies_come : (c : Conduct) (side : Side) (m : Msg) (ms : List Msg) (h : Host) (s : LinkSide) (got : List ℕ) (w w' : World)
    → side_of side w ≡ Some s → IsIdle s → MsgFits m → Replies c m s.host ms h → h.nub.blocked ≡ false
    → Hears (got_on c side) (on_side side (with_sent (frame_of m)) w) got w' → HearsReplies c side ms h got w w'
replies_come c side m ms h s got w w' there i fits replies takes heard =
    let o : Open c m s.host ms h = record { answered = record { fits = fits; replies = replies }; none_open = i.none_open; takes = i.takes; still_takes = takes } in
    replies_of_stands c side m ms s.host h got w w' o (hears_on m ms s.host h w o (begun c side m ms h s w there i) heard)

pub exchange_law : (c : Conduct) (side : Side) (m r : Msg) (h : Host) (s : LinkSide) (got : List ℕ) (w w' : World)
    → side_of side w ≡ Some s → IsIdle s → RepliesAtOnce c m s.host r h
    → Hears (got_on c side) (on_side side (with_sent (frame_of m)) w) got w' → HearsReply c side r h got w w'
exchange_law c side m r h s got w w' there i p heard =
    let x = replies_come c side m (r ∷ []) h s got w w' there i p.fits (at_once r p.is p.none_open) p.takes heard in
    record { rest = x.rest; front = x.front ∙ append_nil (frame_of r); whole = x.whole; more = x.more }
