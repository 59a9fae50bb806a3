-- One side during an exchange.
use Rattle.std.proofs.Common.{◌≡◌, ◌≢◌, ◌∙◌, ◌⊎◌, inl, inr, refl, sym, ap, subst, ℕ, zero, suc, ◌+◌, ◌≤◌, nat_le, Bool, true, false, ◌&&◌, not, is_none, List, [], ◌∷◌, ◌++◌, length, take, drop, Option, Some, None, arith, append_assoc}
use Rattle.std.proofs.lemmas.Grind.{common_steps}
use Rattle.nub_wire.specs.declared.message.Msg.{Msg}
use Rattle.nub_wire.specs.declared.feeder.Fed.{Fed}
use Rattle.nub_wire.specs.declared.feeder.Fed.TheVariants as fed
use Rattle.nub_wire.specs.declared.link.Entry.{Entry}
use Rattle.nub_wire.specs.Spelling.{frame_of, MsgFits}
use Rattle.nub_wire.specs.Feeding.{frames, Feeding, Feeds, FeedsGood, StaysBad, by_state}
use Rattle.machine_state.specs.State.{Behaviour}
use Rattle.nub_wire.specs.Nub.{Host, Replied, turn_of}
use Rattle.nub_wire.specs.Delivery.{Conduct, LinkSide, takes_bytes, replied, after_byte, Reaches, Delivers, enough, none_left, takes_none, reaches, Runs, full, quiet, tells, some_ready, Moves, UntilAnswer, answered, shut, runs_on, all_ready, Answers, WaitsOut}
use Rattle.nub_wire.proofs.Streams.{one_message_lem}
use Rattle.nub_wire.specs.Rest.{IsIdle}
use Rattle.nub_wire.specs.Exchange.{Replies, at_once, later}
use Rattle.nub_wire.proofs.Pendings.{none_told, same_told, Pending, over, running_on, pending_quiet, pending_told, pending_shut, frame_some}

-- ---- lists

pub append_nil : (xs : List ℕ) → xs ++ [] ≡ xs
append_nil xs = grind (arith, common_steps)

pub nil_left : (xs ys : List ℕ) → xs ++ ys ≡ [] → xs ≡ []
nil_left [] ys e = refl
nil_left (x ∷ xs) ys e = cc

pub nil_right : (xs ys : List ℕ) → xs ++ ys ≡ [] → ys ≡ []
nil_right [] ys e = e
nil_right (x ∷ xs) ys e = cc

pub cancel : (a x y : List ℕ) → a ++ x ≡ a ++ y → x ≡ y
cancel [] x y e = e
cancel (z ∷ a) x y e = cancel a x y (cc)

pub drop_nil : (n : ℕ) → drop {A = ℕ} n [] ≡ []
drop_nil zero = refl
drop_nil (suc n) = refl

pub take_nil : (n : ℕ) → take {A = ℕ} n [] ≡ []
take_nil zero = refl
take_nil (suc n) = refl

pub split_at : (n : ℕ) (xs : List ℕ) → take n xs ++ drop n xs ≡ xs
split_at n xs = grind (arith, common_steps)

pub no_length : (xs : List ℕ) → length xs ≤ 0 → xs ≡ []
no_length [] h = refl
no_length (x ∷ xs) h = absurd (omega (arith, h))

-- ---- the states of an exchange

-- the nub hasn't all of the message
pub record Asking (m : Msg) (h : Host) (s : LinkSide) : Type 0 where
  pub spelled : s.feeding.held ++ s.sent ≡ frame_of m
  pub some : s.sent ≢ []
  pub good : s.feeding.is_bad ≡ false
  pub host_is : s.host ≡ h
  pub none_answered : s.answers ≡ []
  pub none_ready : s.ready ≡ []

-- it has all of it, and the front of its answers was received
pub record Answering (b : Behaviour) (ms : List Msg) (h : Host) (got : List ℕ) (s : LinkSide) : Type 0 where
  pub none_sent : s.sent ≡ []
  pub none_begun : s.feeding.held ≡ []
  pub good : s.feeding.is_bad ≡ false
  pub left : List Msg
  pub pending : Pending b s.host left h
  pub spelled : got ++ (s.ready ++ (s.answers ++ frames left)) ≡ frames ms

pub record NotYet (m : Msg) (h : Host) (got : List ℕ) (s : LinkSide) : Type 0 where
  pub asking : Asking m h s
  pub none_got : got ≡ []

abbrev pub InExchange : Behaviour → Msg → Host → List Msg → Host → List ℕ → LinkSide → Type 0
InExchange b m g ms h got s = NotYet m g got s ⊎ Answering b ms h got s

-- ---- bytes reach the nub

good_of : (b : Bool) (bad good : Type 0) → b ≡ false → by_state b bad good → good
good_of true bad good e h = cc
good_of false bad good e h = h

fed_good : (old new : Feeding) (piece : List ℕ) (answer : Fed) → old.is_bad ≡ false → Feeds old piece answer new → FeedsGood old piece answer new
fed_good old new piece answer e f = good_of old.is_bad (StaysBad old answer new) (FeedsGood old piece answer new) e f

-- of a frame that comes byte by byte, one byte
pub record Byte (m : Msg) (s : LinkSide) (byte : ℕ) (rest : List ℕ) : Type 0 where
  pub spelled : (s.feeding.held ++ (byte ∷ [])) ++ rest ≡ frame_of m
  pub good : s.feeding.is_bad ≡ false

byte_of : (m : Msg) (g : Host) (s : LinkSide) (byte : ℕ) (rest : List ℕ) → Asking m g s → s.sent ≡ byte ∷ rest → Byte m s byte rest
byte_of m g s byte rest a e = record {
  spelled = append_assoc s.feeding.held (byte ∷ []) rest ∙ ap (λ (l : List ℕ). s.feeding.held ++ l) (sym e) ∙ a.spelled;
  good = a.good;
}

one_taken : (used byte : ℕ) → 1 ≤ used → take used (byte ∷ []) ≡ byte ∷ []
one_taken zero byte h = absurd (omega (arith, h))
one_taken (suc n) byte h = ap (λ (l : List ℕ). byte ∷ l) (take_nil n)

-- what a side is after a reply
replied_is : (s : LinkSide) (p q : Replied) → p ≡ q → replied s p ≡ replied s q
replied_is s p q e = ap (replied s) e

-- the message is there, and the nub has replied to it or begun to run
begins_answer : {ms : List Msg} {h : Host} (c : Conduct) (m : Msg) (g : Host) (t : LinkSide) (p : Replied) → Replies c m g ms h → p ≡ c.handles m g → t.sent ≡ [] → t.feeding.held ≡ []
    → t.feeding.is_bad ≡ false → t.ready ≡ [] → t.answers ≡ [] → Answering c.behaviour ms h [] (replied t p)
begins_answer {h = h} c m g t p (at_once r is none) e sent begun good ready answers =
    let told : Answering c.behaviour (r ∷ []) h [] (record t { host = h; answers = t.answers ++ frame_of r }) =
    record { none_sent = sent; none_begun = begun; good = good; left = []; pending = over none; spelled = rw (ready, answers) refl } in
    subst (Answering c.behaviour (r ∷ []) h []) (sym (replied_is t p (Some r, h) (e ∙ is))) told
begins_answer {ms = ms} {h = h} c m g t p (later k is told_by) e sent begun good ready answers =
    let told : Answering c.behaviour ms h [] (record t { host = k; answers = t.answers ++ [] }) =
    record { none_sent = sent; none_begun = begun; good = good; left = ms; pending = running_on told_by; spelled = rw (ready, answers) refl } in
    subst (Answering c.behaviour ms h []) (sym (replied_is t p (None, k) (e ∙ is))) told

-- what a message is in reply to which it gives these
pub record Answered (c : Conduct) (m : Msg) (g : Host) (ms : List Msg) (h : Host) : Type 0 where
  pub fits : MsgFits m
  pub replies : Replies c m g ms h

after_one : (c : Conduct) (m : Msg) (ms : List Msg) (g h : Host) (s : LinkSide) (byte : ℕ) (rest : List ℕ) (answer : Fed) (feeding : Feeding)
    → Answered c m g ms h → Asking m g s → Byte m s byte rest → FeedsGood s.feeding (byte ∷ []) answer feeding
    → InExchange c.behaviour m g ms h [] (after_byte c answer (record s { sent = rest; feeding = feeding }))
after_one c m ms g h s byte rest fed.NotYet feeding p a b f =
    let held : List ℕ = s.feeding.held ++ (byte ∷ []) in
    let whole : rest ≡ [] → held ≡ frame_of m = λ (e : rest ≡ []). sym (append_nil held) ∙ ap (λ (l : List ℕ). held ++ l) (sym e) ∙ b.spelled in
    let joined : rest ≡ [] → frame_of m ++ f.partial.rest ≡ frame_of f.partial.message ++ [] =
    λ (e : rest ≡ []). ap (λ (l : List ℕ). l ++ f.partial.rest) (sym (whole e)) ∙ f.partial.whole ∙ sym (append_nil (frame_of f.partial.message)) in
    let some : rest ≢ [] = λ (e : rest ≡ []). f.partial.some ((one_message_lem m f.partial.message f.partial.rest [] p.fits f.partial.fits (joined e)).1) in
    inl (record { asking = record { spelled = ap (λ (x : Feeding). x.held ++ rest) f.new_is ∙ b.spelled; some = some; good = ap (λ (x : Feeding). x.is_bad) f.new_is; host_is = a.host_is; none_answered = a.none_answered; none_ready = a.none_ready }; none_got = refl })
after_one c m ms g h s byte rest (fed.Msg m' used) feeding p a b f =
    let t : LinkSide = record s { sent = rest; feeding = feeding } in
    let spelled : s.feeding.held ++ (byte ∷ []) ≡ frame_of m' = ap (λ (l : List ℕ). s.feeding.held ++ l) (sym (one_taken used byte f.some)) ∙ f.frame in
    let o = one_message_lem m' m rest [] f.fits p.fits (ap (λ (l : List ℕ). l ++ rest) (sym spelled) ∙ b.spelled ∙ sym (append_nil (frame_of m))) in
    let same : c.handles m' s.host ≡ c.handles m g = ap (λ (x : Msg). c.handles x s.host) o.0 ∙ ap (c.handles m) a.host_is in
    inr (begins_answer c m g t (c.handles m' s.host) p.replies same o.1 (ap (λ (x : Feeding). x.held) f.new_is) (ap (λ (x : Feeding). x.is_bad) f.new_is) a.none_ready a.none_answered)
after_one c m ms g h s byte rest (fed.BadFrame at) feeding p a b f =
    absurd (f.none m rest [] p.fits (b.spelled ∙ sym (append_nil (frame_of m))))

reached : (c : Conduct) (m : Msg) (ms : List Msg) (g h : Host) (s t : LinkSide) → Answered c m g ms h → Asking m g s → Reaches c s t → InExchange c.behaviour m g ms h [] t
reached c m ms g h s t p a reach =
    let b = byte_of m g s reach.byte reach.rest a reach.sent_is in
    let f = fed_good s.feeding reach.feeding (reach.byte ∷ []) reach.answer a.good reach.feeds in
    subst (InExchange c.behaviour m g ms h []) (sym reach.new_is) (after_one c m ms g h s reach.byte reach.rest reach.answer reach.feeding p a b f)

pub delivers_on : {c : Conduct} {n : ℕ} {s t : LinkSide} (m : Msg) (ms : List Msg) (g h : Host) (got : List ℕ) → Answered c m g ms h → InExchange c.behaviour m g ms h got s
    → Delivers c n s t → InExchange c.behaviour m g ms h got t
delivers_on m ms g h got p x enough = x
delivers_on m ms g h got p x (none_left e) = x
delivers_on m ms g h got p x (takes_none e) = x
delivers_on {c = c} m ms g h got p (inl a) (reaches {s = s} {t = t} takes reach more) =
    let y = subst (λ (l : List ℕ). InExchange c.behaviour m g ms h l t) (sym a.none_got) (reached c m ms g h s t p a.asking reach) in
    delivers_on m ms g h got p y more
delivers_on m ms g h got p (inr a) (reaches takes reach more) = let x : reach.byte ∷ reach.rest ≡ [] = sym reach.sent_is ∙ a.none_sent in absurd (cc)

-- ---- what moves a side

-- where no resume is open nothing runs
pub runs_none : {c : Conduct} {n : ℕ} {s t : LinkSide} → Runs c n s t → s.host.nub.left ≡ None → t ≡ s
unfolding turn_of
runs_none (full e) none = refl
runs_none {c = c} {n = n} {s = s} (quiet h roomy turn) none = ap (λ (g : Host). record s { host = g }) (sym (same_told c.behaviour n s.host.nub.left s.host h none turn))
runs_none {c = c} {s = s} (tells k m h roomy less turn fewest more) none = none_told c.behaviour k s.host.nub.left s.host h m none turn

-- a nub that replies runs on
pub runs_on_answer : {c : Conduct} {n : ℕ} {s t : LinkSide} (ms : List Msg) (h : Host) (got : List ℕ) → Answering c.behaviour ms h got s → Runs c n s t → Answering c.behaviour ms h got t
runs_on_answer ms h got a (full e) = a
runs_on_answer {n = n} ms h got a (quiet g roomy turn) =
    record { none_sent = a.none_sent; none_begun = a.none_begun; good = a.good; left = a.left; pending = pending_quiet n g a.pending turn; spelled = a.spelled }
runs_on_answer {c = c} {s = s} ms h got a (tells k m g roomy less turn fewest more) =
    let x = pending_told k m g a.pending turn in
    let spelled : got ++ (s.ready ++ ((s.answers ++ frame_of m) ++ frames x.rest)) ≡ frames ms =
    ap (λ (l : List ℕ). got ++ (s.ready ++ l)) (append_assoc s.answers (frame_of m) (frames x.rest)) ∙ ap (λ (l : List Msg). got ++ (s.ready ++ (s.answers ++ frames l))) (sym x.is) ∙ a.spelled in
    runs_on_answer ms h got (record { none_sent = a.none_sent; none_begun = a.none_begun; good = a.good; left = x.rest; pending = x.pending; spelled = spelled }) more

-- bytes become ready
ready_same_bytes : (n : ℕ) (ready answers rest : List ℕ) → (ready ++ take n answers) ++ (drop n answers ++ rest) ≡ ready ++ (answers ++ rest)
ready_same_bytes n ready answers rest =
    append_assoc ready (take n answers) (drop n answers ++ rest)
    ∙ ap (λ (l : List ℕ). ready ++ l) (sym (append_assoc (take n answers) (drop n answers) rest) ∙ ap (λ (l : List ℕ). l ++ rest) (split_at n answers))

pub ready_on : (b : Behaviour) (m : Msg) (ms : List Msg) (g h : Host) (got : List ℕ) (s : LinkSide) (n : ℕ) → InExchange b m g ms h got s → InExchange b m g ms h got (some_ready n s)
ready_on b m ms g h got s n (inl x) =
    let a = x.asking in
    let none : drop n s.answers ≡ [] = ap (drop n) a.none_answered ∙ drop_nil n in
    let nothing : s.ready ++ take n s.answers ≡ [] = rw (a.none_ready, a.none_answered) (take_nil n) in
    inl (record { asking = record { spelled = a.spelled; some = a.some; good = a.good; host_is = a.host_is; none_answered = none; none_ready = nothing }; none_got = x.none_got })
ready_on b m ms g h got s n (inr a) =
    inr (record {
      none_sent = a.none_sent;
      none_begun = a.none_begun;
      good = a.good;
      left = a.left;
      pending = a.pending;
      spelled = ap (λ (l : List ℕ). got ++ l) (ready_same_bytes n s.ready s.answers (frames a.left)) ∙ a.spelled;
    })

runs_by : {c : Conduct} {n : ℕ} {s t : LinkSide} (m : Msg) (ms : List Msg) (g h : Host) (got : List ℕ) → g.nub.left ≡ None → InExchange c.behaviour m g ms h got s → Runs c n s t
    → InExchange c.behaviour m g ms h got t
runs_by {c = c} m ms g h got none (inl x) r =
    let left = ap (λ (k : Host). k.nub.left) x.asking.host_is ∙ none in
    subst (InExchange c.behaviour m g ms h got) (sym (runs_none r left)) (inl x)
runs_by m ms g h got none (inr a) r = inr (runs_on_answer ms h got a r)

pub moves_on : (c : Conduct) (e : Entry) (m : Msg) (ms : List Msg) (g h : Host) (got : List ℕ) (s t : LinkSide) → g.nub.left ≡ None → Answered c m g ms h
    → InExchange c.behaviour m g ms h got s → Moves c e s t → InExchange c.behaviour m g ms h got t
moves_on c e m ms g h got s t none p x v =
    let d = delivers_on m ms g h got p x v.delivers in
    subst (InExchange c.behaviour m g ms h got) (sym v.new_is) (ready_on c.behaviour m ms g h got v.ran e.piece (runs_by m ms g h got none d v.runs))

-- ---- an idle side

idle_delivered : {c : Conduct} {n : ℕ} {s t : LinkSide} → IsIdle s → Delivers c n s t → t ≡ s
idle_delivered i enough = refl
idle_delivered i (none_left e) = refl
idle_delivered i (takes_none e) = refl
idle_delivered i (reaches takes r more) = let x : r.byte ∷ r.rest ≡ [] = sym r.sent_is ∙ i.none_sent in absurd (cc)

abbrev pub side_at : List ℕ → Feeding → Host → List ℕ → List ℕ → LinkSide
side_at sent f h answers ready = record { sent = sent; feeding = f; host = h; answers = answers; ready = ready }

ready_same : (s : LinkSide) (n : ℕ) → IsIdle s → some_ready n s ≡ s
ready_same s n i =
    let none : drop n s.answers ≡ s.answers = ap (drop n) i.none_answered ∙ drop_nil n ∙ sym i.none_answered in
    let more : s.ready ++ take n s.answers ≡ s.ready = ap (λ (l : List ℕ). s.ready ++ take n l) i.none_answered ∙ ap (λ (l : List ℕ). s.ready ++ l) (take_nil n) ∙ append_nil s.ready in
    ap (λ (l : List ℕ). side_at s.sent s.feeding s.host l (s.ready ++ take n s.answers)) none ∙ ap (λ (l : List ℕ). side_at s.sent s.feeding s.host s.answers l) more

pub idle_moves : (c : Conduct) (e : Entry) (s t : LinkSide) → IsIdle s → Moves c e s t → t ≡ s
idle_moves c e s t i v =
    let d : v.delivered ≡ s = idle_delivered i v.delivers in
    let j : v.delivered.host.nub.left ≡ None = ap (λ (x : LinkSide). x.host.nub.left) d ∙ i.none_open in
    let r : v.ran ≡ s = runs_none v.runs j ∙ d in
    v.new_is ∙ ap (some_ready e.piece) r ∙ ready_same s e.piece i

-- ---- a wait once the schedule is used up

replied_sent : (s : LinkSide) (p : Replied) → (replied s p).sent ≡ s.sent
replied_sent s (reply, h) = refl

byte_sent : (c : Conduct) (answer : Fed) (s : LinkSide) → (after_byte c answer s).sent ≡ s.sent
byte_sent c fed.NotYet s = refl
byte_sent c (fed.Msg m used) s = replied_sent s (c.handles m s.host)
byte_sent c (fed.BadFrame at) s = refl

reached_sent : (c : Conduct) (s t : LinkSide) (r : Reaches c s t) → t.sent ≡ r.rest
reached_sent c s t r = ap (λ (x : LinkSide). x.sent) r.new_is ∙ byte_sent c r.answer (record s { sent = r.rest; feeding = r.feeding })

delivered : {c : Conduct} {n : ℕ} {s d : LinkSide} → Delivers c n s d → length s.sent ≤ n → (d.sent ≡ []) ⊎ (takes_bytes d ≡ false)
delivered {s = s} enough h = inl (no_length s.sent h)
delivered (none_left e) h = inl e
delivered (takes_none e) h = inr e
delivered {c = c} {s = s} (reaches {n = n} {t = t} takes r more) h =
    let one : length s.sent ≡ suc (length r.rest) = ap length r.sent_is in
    let rest : length t.sent ≡ length r.rest = ap length (reached_sent c s t r) in
    let less : length t.sent ≤ n = omega (arith, one, rest, h) in
    delivered more less

takes_all : (left : Option ℕ) (blocked : Bool) (ready answers : List ℕ) → left ≡ None → blocked ≡ false → ready ≡ [] → answers ≡ []
    → (is_none left && (not blocked && nat_le (length ready + length answers + 1027) 4096)) ≡ true
takes_all left blocked ready answers e f g h = rw (e, f, g, h) refl

-- who asks takes bytes
asking_takes : (m : Msg) (g : Host) (s : LinkSide) → g.nub.left ≡ None → g.nub.blocked ≡ false → Asking m g s → takes_bytes s ≡ true
asking_takes m g s e f a =
    takes_all s.host.nub.left s.host.nub.blocked s.ready s.answers (ap (λ (k : Host). k.nub.left) a.host_is ∙ e) (ap (λ (k : Host). k.nub.blocked) a.host_is ∙ f) a.none_ready a.none_answered

-- once all bytes sent were delivered the nub has them
all_taken : (b : Behaviour) (m : Msg) (ms : List Msg) (g h : Host) (got : List ℕ) (s : LinkSide) → g.nub.left ≡ None → g.nub.blocked ≡ false → InExchange b m g ms h got s
    → (s.sent ≡ []) ⊎ (takes_bytes s ≡ false) → Answering b ms h got s
all_taken b m ms g h got s e f (inr a) x = a
all_taken b m ms g h got s e f (inl n) (inl none) = absurd (n.asking.some none)
all_taken b m ms g h got s e f (inl n) (inr closed) = let taken = asking_takes m g s e f n.asking in let both : true ≡ false = sym taken ∙ closed in absurd (cc)

-- it has answered, or has nothing left to tell
pub record Settled (b : Behaviour) (ms : List Msg) (h : Host) (got : List ℕ) (s : LinkSide) : Type 0 where
  pub answering : Answering b ms h got s
  pub some : (s.answers ≢ []) ⊎ (answering.left ≡ [])

until_on : {c : Conduct} {s t : LinkSide} (ms : List Msg) (h : Host) (got : List ℕ) → Answering c.behaviour ms h got s → UntilAnswer c s t → Settled c.behaviour ms h got t
until_on ms h got a (answered p) = record { answering = a; some = inl p }
until_on ms h got a (shut none) = record { answering = a; some = inr (pending_shut a.pending none) }
until_on {c = c} {s = s} ms h got a (runs_on n m g none turn) =
    let x = pending_told n m g a.pending turn in
    let spelled : got ++ (s.ready ++ (frame_of m ++ frames x.rest)) ≡ frames ms =
    ap (λ (l : List Msg). got ++ (s.ready ++ frames l)) (sym x.is) ∙ ap (λ (l : List ℕ). got ++ (s.ready ++ (l ++ frames a.left))) (sym none) ∙ a.spelled in
    record {
      answering = record { none_sent = a.none_sent; none_begun = a.none_begun; good = a.good; left = x.rest; pending = x.pending; spelled = spelled };
      some = inl (frame_some m);
    }

-- all answers are ready
pub record Ready (b : Behaviour) (ms : List Msg) (h : Host) (got : List ℕ) (s : LinkSide) : Type 0 where
  pub answering : Answering b ms h got s
  pub some : got ≢ frames ms → s.ready ≢ []

all_ready_on : (b : Behaviour) (ms : List Msg) (h : Host) (got : List ℕ) (s : LinkSide) → Settled b ms h got s → Ready b ms h got (all_ready s)
all_ready_on b ms h got s x =
    let a = x.answering in
    record {
      answering = record {
        none_sent = a.none_sent;
        none_begun = a.none_begun;
        good = a.good;
        left = a.left;
        pending = a.pending;
        spelled = ap (λ (l : List ℕ). got ++ l) (append_assoc s.ready s.answers (frames a.left)) ∙ a.spelled;
      };
      some = by x.some;
    }
  where
    by : (s.answers ≢ []) ⊎ (x.answering.left ≡ []) → got ≢ frames ms → s.ready ++ s.answers ≢ []
    by (inl some) part e = some (nil_right s.ready s.answers e)
    by (inr none) part e =
        let both : s.ready ++ (s.answers ++ frames x.answering.left) ≡ [] =
        ap (λ (l : List Msg). s.ready ++ (s.answers ++ frames l)) none ∙ ap (λ (l : List ℕ). s.ready ++ l) (append_nil s.answers) ∙ e in
        part (sym (append_nil got) ∙ ap (λ (l : List ℕ). got ++ l) (sym both) ∙ x.answering.spelled)

pub answers_on : (c : Conduct) (m : Msg) (ms : List Msg) (g h : Host) (got : List ℕ) (s t : LinkSide) → g.nub.left ≡ None → g.nub.blocked ≡ false → Answered c m g ms h
    → InExchange c.behaviour m g ms h got s → Answers c s t → Ready c.behaviour ms h got t
answers_on c m ms g h got s t e f p x v =
    let d = delivers_on m ms g h got p x v.delivers in
    let a = all_taken c.behaviour m ms g h got v.delivered e f d (delivered v.delivers (omega arith)) in
    subst (Ready c.behaviour ms h got) (sym v.new_is) (all_ready_on c.behaviour ms h got v.answered (until_on ms h got a v.runs))

-- what a wait leaves, where nothing was ready
pub out_on : (c : Conduct) (m : Msg) (ms : List Msg) (g h : Host) (got : List ℕ) (s t : LinkSide) (xs : List ℕ) → g.nub.left ≡ None → g.nub.blocked ≡ false → Answered c m g ms h
    → InExchange c.behaviour m g ms h got s → s.answers ≡ xs → WaitsOut c s xs t → Ready c.behaviour ms h got t
out_on c m ms g h got s t [] e f p x a w = answers_on c m ms g h got s t e f p x w
out_on c m ms g h got s t (y ∷ xs) e f p (inl n) a w = let z : y ∷ xs ≡ [] = sym a ∙ n.asking.none_answered in absurd (cc)
out_on c m ms g h got s t (y ∷ xs) e f p (inr n) a w =
    let some : s.answers ≢ [] = λ (none : s.answers ≡ []). let z : y ∷ xs ≡ [] = sym a ∙ none in cc in
    subst (Ready c.behaviour ms h got) (sym w) (all_ready_on c.behaviour ms h got s (record { answering = n; some = inl some }))
