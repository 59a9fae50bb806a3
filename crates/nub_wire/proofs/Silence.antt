-- What a link that gives nothing is like.
use Rattle.std.proofs.Common.{◌≡◌, ◌∙◌, ◌⊎◌, inl, inr, refl, sym, ap, subst, ℕ, zero, suc, ◌+◌, ◌≤◌, nat_le, Bool, true, false, ◌&&◌, not, is_none, List, [], ◌∷◌, ◌++◌, length, take, drop, Option, Some, None, option_map, arith}
use Rattle.nub_wire.specs.declared.message.Msg.{Msg}
use Rattle.nub_wire.specs.declared.feeder.Fed.{Fed}
use Rattle.nub_wire.specs.declared.feeder.Fed.TheVariants as fed
use Rattle.nub_wire.specs.declared.link.Side.{Side}
use Rattle.nub_wire.specs.declared.link.Side.TheVariants.{First, Second}
use Rattle.nub_wire.specs.declared.link.Entry.{Entry}
use Rattle.nub_wire.proofs.Sides.{runs_none}
use Rattle.nub_wire.specs.Spelling.{frame_of}
use Rattle.machine_state.specs.State.{Behaviour}
use Rattle.nub_wire.specs.Nub.{Host, Replied, running, turn_of, if_open}
use Rattle.nub_wire.specs.Delivery.{Conduct, LinkSide, World, side_of, on_side, takes_bytes, is_roomy, replied, after_byte, Reaches, Delivers, enough, none_left, takes_none, reaches, some_ready, Moves, EntersSide, UntilAnswer, answered, shut, runs_on, all_ready, Answers, WaitsOut, Waits, has_ready, enters, used_up, without_ready, ready_of, Gets, GetsFrom}
use Rattle.nub_wire.specs.Silence.{IsQuietSide, QuietAt, IsQuietOn, NothingSaysQuiet, QuietGivesNothing}

-- ---- lists

first_nil : (xs ys : List ℕ) → xs ++ ys ≡ [] → xs ≡ []
first_nil [] ys e = refl
first_nil (x ∷ xs) ys e = cc

second_nil : (xs ys : List ℕ) → xs ++ ys ≡ [] → ys ≡ []
second_nil [] ys e = e
second_nil (x ∷ xs) ys e = cc

no_length : (xs : List ℕ) → length xs ≤ 0 → xs ≡ []
no_length [] h = refl
no_length (x ∷ xs) h = absurd (omega (arith, h))

nothing_of : (n : ℕ) (xs : List ℕ) → take (suc n) xs ≡ [] → xs ≡ []
nothing_of n [] e = refl
nothing_of n (x ∷ xs) e = cc

frame_some : {A : Type 0} (m : Msg) → frame_of m ≡ [] → A
unfolding frame_of
frame_some m e = cc

drop_nil : (n : ℕ) → drop {A = ℕ} n [] ≡ []
drop_nil zero = refl
drop_nil (suc n) = refl

nothing_taken : (n : ℕ) → take {A = ℕ} n [] ≡ []
nothing_taken zero = refl
nothing_taken (suc n) = refl

-- ---- bytes that reach the nub

replied_sent : (s : LinkSide) (p : Replied) → (replied s p).sent ≡ s.sent
replied_sent s (reply, h) = refl

byte_sent : (c : Conduct) (answer : Fed) (s : LinkSide) → (after_byte c answer s).sent ≡ s.sent
byte_sent c fed.NotYet s = refl
byte_sent c (fed.Msg m used) s = replied_sent s (c.handles m s.host)
byte_sent c (fed.BadFrame at) s = refl

reached_sent : (c : Conduct) (s t : LinkSide) (r : Reaches c s t) → t.sent ≡ r.rest
reached_sent c s t r = ap (λ (x : LinkSide). x.sent) r.new_is ∙ byte_sent c r.answer (record s { sent = r.rest; feeding = r.feeding })

delivered : {c : Conduct} {n : ℕ} {s d : LinkSide} → Delivers c n s d → length s.sent ≤ n → (d.sent ≡ []) ⊎ (takes_bytes d ≡ false)
delivered {s = s} enough h = inl (no_length s.sent h)
delivered (none_left e) h = inl e
delivered (takes_none e) h = inr e
delivered {c = c} {s = s} (reaches {n = n} {t = t} takes r more) h =
    let one : length s.sent ≡ suc (length r.rest) = ap length r.sent_is in
    let rest : length t.sent ≡ length r.rest = ap length (reached_sent c s t r) in
    let less : length t.sent ≤ n = omega (arith, one, rest, h) in
    delivered more less

blocked_takes : {A : Type 0} (none blocked roomy : Bool) → blocked ≡ true → (none && (not blocked && roomy)) ≡ true → A
blocked_takes true true roomy e h = cc
blocked_takes false true roomy e h = cc
blocked_takes none false roomy e h = cc

apart : (m : Msg) → None ≡ Some m → ⊥
apart m e = cc

is_blocked : (left : Option ℕ) (blocked roomy : Bool) → left ≡ None → roomy ≡ true → (is_none left && (not blocked && roomy)) ≡ false → blocked ≡ true
is_blocked None true roomy e r h = refl
is_blocked None false true e r h = cc
is_blocked None false false e r h = cc
is_blocked (Some n) blocked roomy e r h = cc

roomy_where : (ready answers : List ℕ) → ready ≡ [] → answers ≡ [] → nat_le (length ready + length answers + 1027) 4096 ≡ true
roomy_where ready answers e f = rw (e, f) refl

no_more : (d : LinkSide) → d.ready ≡ [] → d.answers ≡ [] → d.host.nub.left ≡ None → (d.sent ≡ []) ⊎ (takes_bytes d ≡ false)
    → (d.sent ≡ []) ⊎ (d.host.nub.blocked ≡ true)
no_more d e f g (inl h) = inl h
no_more d e f g (inr h) = inr (is_blocked d.host.nub.left d.host.nub.blocked (is_roomy d) g (roomy_where d.ready d.answers e f) h)

-- ---- a wait that ends with nothing

quiet_side : (s : LinkSide) → s.ready ≡ [] → s.answers ≡ [] → s.host.nub.left ≡ None → (s.sent ≡ []) ⊎ (s.host.nub.blocked ≡ true)
    → IsQuietSide (all_ready s)
quiet_side s e f g h = record { none_ready = rw (e, f) refl; none_answered = refl; none_open = g; none_to_take = h }

until_quiet : {c : Conduct} {d u : LinkSide} → UntilAnswer c d u → u.ready ≡ [] → u.answers ≡ [] → (d.sent ≡ []) ⊎ (takes_bytes d ≡ false)
    → IsQuietSide (all_ready u)
until_quiet (answered p) e f h = absurd (p f)
until_quiet {d = d} (shut g) e f h = quiet_side d e f g (no_more d e f g h)
until_quiet (runs_on n m host none turn) e f h = frame_some m f

answers_quiet : (c : Conduct) (s t : LinkSide) → Answers c s t → t.ready ≡ [] → IsQuietSide t
answers_quiet c s t a e =
    let u = a.answered in
    let both : u.ready ++ u.answers ≡ [] = ap (λ (x : LinkSide). x.ready) (sym a.new_is) ∙ e in
    let q = until_quiet a.runs (first_nil u.ready u.answers both) (second_nil u.ready u.answers both) (delivered a.delivers (omega arith)) in
    subst IsQuietSide (sym a.new_is) q

out_quiet : (c : Conduct) (s t : LinkSide) (xs : List ℕ) → s.answers ≡ xs → WaitsOut c s xs t → t.ready ≡ [] → IsQuietSide t
out_quiet c s t [] a w e = answers_quiet c s t w e
out_quiet c s t (x ∷ xs) a w e =
    let both : s.ready ++ s.answers ≡ [] = ap (λ (y : LinkSide). y.ready) (sym w) ∙ e in
    let none : s.answers ≡ [] = second_nil s.ready s.answers both in
    let some : x ∷ xs ≡ [] = sym a ∙ none in
    cc

set_side : (side : Side) (w : World) (s t : LinkSide) → side_of side w ≡ Some s → side_of side (on_side side (λ _. t) w) ≡ Some t
set_side First w s t e = refl
set_side Second w s t e = rw e refl

ready_is : (side : Side) (w : World) (s : LinkSide) → side_of side w ≡ Some s → ready_of (side_of side w) ≡ s.ready
ready_is side w s e = ap ready_of e

waits_quiet : {c : Conduct} {side : Side} {w v : World} → Waits c side w v → ready_of (side_of side v) ≡ [] → IsQuietOn side v
waits_quiet {side = side} {w = w} (has_ready s is some) e = absurd (some (sym (ready_is side w s is) ∙ e))
waits_quiet (enters s entry rest is none next moved more) e = waits_quiet more e
waits_quiet {c = c} {side = side} {w = w} (used_up s t is none next out) e =
    let there = set_side side w s t is in
    let silent : t.ready ≡ [] = sym (ap ready_of there) ∙ e in
    let q = out_quiet c s t s.answers refl out silent in
    subst QuietAt (sym there) q

-- ---- a wait where nothing was to come

none_delivered : {c : Conduct} {n : ℕ} {s d : LinkSide} → Delivers c n s d → (s.sent ≡ []) ⊎ (s.host.nub.blocked ≡ true) → d ≡ s
none_delivered enough h = refl
none_delivered (none_left e) h = refl
none_delivered (takes_none e) h = refl
none_delivered (reaches takes r more) (inl e) = let x : r.byte ∷ r.rest ≡ [] = sym r.sent_is ∙ e in cc
none_delivered {s = s} (reaches takes r more) (inr e) = blocked_takes (is_none s.host.nub.left) s.host.nub.blocked (is_roomy s) e takes

none_told : {A : Type 0} (b : Behaviour) (n : ℕ) (left : Option ℕ) (h h' : Host) (m : Msg) → left ≡ None
    → if_open left (None, h) (running b n h) ≡ (Some m, h') → A
none_told b n None h h' m e x = let y : None ≡ Some m = ap (λ (p : Replied). p.0) x in absurd (apart m y)
none_told b n (Some k) h h' m e x = cc

none_run : {c : Conduct} {s u : LinkSide} → UntilAnswer c s u → s.host.nub.left ≡ None → u ≡ s
unfolding turn_of
none_run (answered p) e = refl
none_run (shut g) e = refl
none_run {c = c} {s = s} (runs_on n m h none turn) e = none_told c.behaviour n s.host.nub.left s.host h m e turn

quiet_answers : (c : Conduct) (s t : LinkSide) → IsQuietSide s → Answers c s t → t.ready ≡ []
quiet_answers c s t q a =
    let d = none_delivered a.delivers q.none_to_take in
    let u : a.answered ≡ s = none_run (subst (λ (x : LinkSide). UntilAnswer c x a.answered) d a.runs) q.none_open in
    let all : t ≡ all_ready s = a.new_is ∙ ap all_ready u in
    let whole : s.ready ++ s.answers ≡ [] = rw (q.none_ready, q.none_answered) refl in
    ap (λ (x : LinkSide). x.ready) all ∙ whole

quiet_out : (c : Conduct) (s t : LinkSide) (xs : List ℕ) → IsQuietSide s → s.answers ≡ xs → WaitsOut c s xs t → t.ready ≡ []
quiet_out c s t [] q e w = quiet_answers c s t q w
quiet_out c s t (x ∷ xs) q e w = let y : x ∷ xs ≡ [] = sym e ∙ q.none_answered in cc

-- an entry moves no quiet side
quiet_moved : (c : Conduct) (e : Entry) (s t : LinkSide) → IsQuietSide s → Moves c e s t → IsQuietSide t
quiet_moved c e s t q v =
    let d : v.delivered ≡ s = none_delivered v.delivers q.none_to_take in
    let open_none : v.delivered.host.nub.left ≡ None = ap (λ (x : LinkSide). x.host.nub.left) d ∙ q.none_open in
    let r : v.ran ≡ s = runs_none v.runs open_none ∙ d in
    let still : IsQuietSide (some_ready e.piece s) = record {
      none_ready = rw (q.none_ready, q.none_answered) (nothing_taken e.piece);
      none_answered = ap (drop e.piece) q.none_answered ∙ drop_nil e.piece;
      none_open = q.none_open;
      none_to_take = q.none_to_take;
    } in
    subst IsQuietSide (sym (v.new_is ∙ ap (some_ready e.piece) r)) still

quiet_on : (c : Conduct) (e : Entry) (side : Side) (w w' : World) (s t : LinkSide) → side_of side w ≡ Some s → Moves c e s t → w' ≡ on_side side (λ _. t) w
    → IsQuietOn side w → IsQuietOn side w'
quiet_on c e side w w' s t is v new q =
    let k : IsQuietSide t = quiet_moved c e s t (subst QuietAt is q) v in
    subst (IsQuietOn side) (sym new) (subst QuietAt (sym (set_side side w s t is)) k)

quiet_entered : (c : Conduct) (e : Entry) (that side : Side) (w w' : World) (o : Option LinkSide) → e.side ≡ that → side_of that w ≡ o → EntersSide c e o w w'
    → IsQuietOn side w → IsQuietOn side w'
quiet_entered c e that side w w' None is there x q = subst (IsQuietOn side) (sym x) q
quiet_entered c e First First w w' (Some s) is there x q = quiet_on c e First w w' s x.0 there x.1 (x.2 ∙ ap (λ (z : Side). on_side z (λ _. x.0) w) is) q
quiet_entered c e Second Second w w' (Some s) is there x q = quiet_on c e Second w w' s x.0 there x.1 (x.2 ∙ ap (λ (z : Side). on_side z (λ _. x.0) w) is) q
quiet_entered c e First Second w w' (Some s) is there x q =
    subst (IsQuietOn Second) (sym (x.2 ∙ ap (λ (z : Side). on_side z (λ _. x.0) w) is)) q
quiet_entered c e Second First w w' (Some s) is there x q =
    subst (IsQuietOn First) (sym (x.2 ∙ ap (λ (z : Side). on_side z (λ _. x.0) w) is)) q

quiet_scheduled : (side : Side) (w : World) (rest : List Entry) → IsQuietOn side w → IsQuietOn side (record w { schedule = rest })
quiet_scheduled First w rest q = q
quiet_scheduled Second w rest q = q

waits_on : {c : Conduct} {side : Side} {w v : World} → Waits c side w v → IsQuietOn side w → ready_of (side_of side v) ≡ []
waits_on (has_ready s is some) q = let k = subst QuietAt is q in absurd (some k.none_ready)
waits_on {c = c} {side = side} {w = w} (enters {v = v} s entry rest is none next moved more) q =
    waits_on more (quiet_entered c entry entry.side side (record w { schedule = rest }) v _ refl refl moved (quiet_scheduled side w rest q))
waits_on {c = c} {side = side} {w = w} (used_up s t is none next out) q =
    let k = subst QuietAt is q in
    ap ready_of (set_side side w s t is) ∙ quiet_out c s t s.answers k refl out

-- ---- a receive

emptied : (n : ℕ) (s : LinkSide) → IsQuietSide s → IsQuietSide (without_ready n s)
emptied n s q =
    let none : drop n s.ready ≡ [] = ap (drop n) q.none_ready ∙ drop_nil n in
    record { none_ready = none; none_answered = q.none_answered; none_open = q.none_open; none_to_take = q.none_to_take }

emptied_at : (n : ℕ) (o : Option LinkSide) → QuietAt o → QuietAt (option_map (without_ready n) o)
emptied_at n None q = q
emptied_at n (Some s) q = emptied n s q

emptied_on : (side : Side) (n : ℕ) (w : World) → IsQuietOn side w → IsQuietOn side (on_side side (without_ready n) w)
emptied_on First n w q = emptied n w.first q
emptied_on Second n w q = emptied_at n w.second q

gets_quiet : (c : Conduct) (side : Side) (n : ℕ) (bytes : List ℕ) (w w' : World) (g : Gets c side n bytes w w')
    → ready_of (side_of side g.waited) ≡ [] → IsQuietOn side w'
gets_quiet c side n bytes w w' g e = subst (IsQuietOn side) (sym g.new_is) (emptied_on side n g.waited (waits_quiet g.waits e))

gets_from : (c : Conduct) (side : Side) (size : ℕ) (bytes : List ℕ) (w w' : World) (o : Option LinkSide) (s : LinkSide) → o ≡ Some s
    → GetsFrom c side o (suc size) bytes w w' → Gets c side (suc size) bytes w w'
gets_from c side size bytes w w' None s e g = cc
gets_from c side size bytes w w' (Some t) s e g = g

gets_at : (c : Conduct) (side : Side) (size : ℕ) (bytes : List ℕ) (w w' : World) (o : Option LinkSide) → QuietAt o
    → GetsFrom c side o (suc size) bytes w w' → Gets c side (suc size) bytes w w'
gets_at c side size bytes w w' None q g = absurd q
gets_at c side size bytes w w' (Some t) q g = g

pub nothing_says_quiet : (c : Conduct) → NothingSaysQuiet c
nothing_says_quiet c side size s w w' is r =
    let g = gets_from c side size [] w w' (side_of side w) s is r in
    gets_quiet c side (suc size) [] w w' g (nothing_of size (ready_of (side_of side g.waited)) (sym g.given))

pub quiet_gives_nothing : (c : Conduct) → QuietGivesNothing c
quiet_gives_nothing c side size bytes w w' q r =
    let g = gets_at c side size bytes w w' (side_of side w) q r in
    let e = waits_on g.waits q in
    let none : bytes ≡ [] = g.given ∙ ap (take (suc size)) e in
    (none, gets_quiet c side (suc size) bytes w w' g e)
