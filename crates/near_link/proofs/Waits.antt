-- A wait, byte by byte.
use Rattle.std.proofs.Common.{◌≡◌, ◌≢◌, ◌∙◌, sym, ap, subst, refl, ℕ, zero, suc, ◌+◌, ◌-◌, ◌≤◌, ◌<◌, nat_eq, nat_le, ◌&&◌, not, is_none, is_some, List, [], ◌∷◌, ◌++◌, length, take, drop, Option, Some, None, Bool, true, false, if◌then◌else◌, arith, length-append}
use Rattle.std.proofs.lemmas.Bool.Decides.{nat_tests}
use Rattle.nub_wire.specs.declared.message.Msg.{Msg}
use Rattle.nub_wire.specs.declared.link.Side.TheVariants.{First}
use Rattle.nub_wire.specs.Spelling.{frame_of}
use Rattle.nub_wire.specs.Feeding.{Feeding}
use Rattle.nub_wire.specs.Nub.{Host, turn_of}
use Rattle.nub_wire.specs.Delivery.{Conduct, LinkSide, World, takes_bytes, is_roomy, LONGEST, ROOM, Reaches, Delivers, enough, none_left, takes_none, reaches, Runs, full, quiet, tells, UntilAnswer, answered, runs_on, all_ready, Answers, WaitsOut, Waits, has_ready, used_up, without_ready, Receives}

-- ---- bytes

-- what is delivered from a side on is delivered from the start on
abbrev pub Comes : Conduct → (most done : ℕ) → (start now : LinkSide) → Type 0
Comes c most done start now = (t : LinkSide) → Delivers c (most - done) now t → Delivers c most start t

pub comes_first : (c : Conduct) (most : ℕ) (s : LinkSide) → Comes c most 0 s s
comes_first c most s = λ (t : LinkSide) (d : Delivers c (most - 0) s t). let e : most - 0 ≡ most = omega arith in subst (λ (n : ℕ). Delivers c n s t) e d

pub comes_on : (c : Conduct) (most done : ℕ) (start now new : LinkSide) → done < most → Comes c most done start now → takes_bytes now ≡ true → Reaches c now new
    → Comes c most (done + 1) start new
comes_on c most done start now new less comes takes reach = λ (t : LinkSide) (d : Delivers c (most - (done + 1)) new t).
    let one : most - done ≡ suc (most - (done + 1)) = omega arith in
    comes t (subst (λ (n : ℕ). Delivers c n now t) (sym one) (reaches takes reach d))

pub comes_end : (c : Conduct) (most done : ℕ) (start now : LinkSide) → most ≤ done → Comes c most done start now → Delivers c most start now
comes_end c most done start now all comes = let none : most - done ≡ 0 = omega arith in comes now (subst (λ (n : ℕ). Delivers c n now now) (sym none) enough)

pub comes_none : (c : Conduct) (most done : ℕ) (start now : LinkSide) → Comes c most done start now → now.sent ≡ [] → Delivers c most start now
comes_none c most done start now comes none = comes now (none_left none)

pub comes_shut : (c : Conduct) (most done : ℕ) (start now : LinkSide) → Comes c most done start now → takes_bytes now ≡ false → Delivers c most start now
comes_shut c most done start now comes shut = comes now (takes_none shut)

and_first : (a b : Bool) → (a && b) ≡ true → a ≡ true
and_first true b h = refl
and_first false b h = cc

and_second : (a b : Bool) → (a && b) ≡ true → b ≡ true
and_second true b h = h
and_second false b h = cc

none_is : (o : Option ℕ) → is_none o ≡ true → o ≡ None
none_is None h = refl
none_is (Some n) h = cc

le_is : (a b : ℕ) → nat_le a b ≡ true → a ≤ b
le_is a b h = grind (arith, nat_tests)

pub takes_shut : (s : LinkSide) → takes_bytes s ≡ true → s.host.nub.left ≡ None
takes_shut s h = none_is s.host.nub.left (and_first (is_none s.host.nub.left) (not s.host.nub.blocked && is_roomy s) h)

pub takes_room : (s : LinkSide) → takes_bytes s ≡ true → length s.ready + length s.answers + LONGEST ≤ ROOM
takes_room s h =
    le_is _ _ (and_second (not s.host.nub.blocked) (is_roomy s) (and_second (is_none s.host.nub.left) (not s.host.nub.blocked && is_roomy s) h))

-- ---- answers

silent_nil : (xs : List ℕ) → nat_eq (length xs) 0 ≡ true → xs ≡ []
silent_nil [] h = refl
silent_nil (x ∷ xs) h = let e : suc (length xs) ≡ 0 = grind (arith, nat_tests) in absurd (omega (arith, e))

loud_some : (xs : List ℕ) → nat_eq (length xs) 0 ≡ false → xs ≢ []
loud_some [] h e = cc
loud_some (x ∷ xs) h e = cc

pub answered_already : (c : Conduct) (s : LinkSide) → nat_eq (length s.answers) 0 ≡ false → UntilAnswer c s s
answered_already c s h = answered (loud_some s.answers h)

pub runs_to : (c : Conduct) (s new : LinkSide) (n : ℕ) (m : Msg) (h : Host) → nat_eq (length s.answers) 0 ≡ true → turn_of c.behaviour n s.host ≡ (Some m, h)
    → new ≡ record s { host = h; answers = s.answers ++ frame_of m } → UntilAnswer c s new
runs_to c s new n m h silent turn e =
    let none : s.answers ≡ [] = silent_nil s.answers silent in
    let after : record s { host = h; answers = s.answers ++ frame_of m } ≡ record s { host = h; answers = frame_of m } = ap (λ (l : List ℕ). record s { host = h; answers = l ++ frame_of m }) none in
    subst (λ (t : LinkSide). UntilAnswer c s t) (sym (e ∙ after)) (runs_on n m h none turn)

waits_by : (c : Conduct) (s s' : LinkSide) (xs : List ℕ) → xs ≡ [] → Answers c s s' → WaitsOut c s xs s'
waits_by c s s' [] e a = a
waits_by c s s' (x ∷ xs) e a = cc

ready_by : (c : Conduct) (s s' : LinkSide) (xs : List ℕ) → xs ≢ [] → s' ≡ all_ready s → WaitsOut c s xs s'
ready_by c s s' [] h e = absurd (h refl)
ready_by c s s' (x ∷ xs) h e = e

pub wait_answered : (c : Conduct) (s s' : LinkSide) → nat_eq (length s.answers) 0 ≡ false → s' ≡ all_ready s → WaitsOut c s s.answers s'
wait_answered c s s' h e = ready_by c s s' s.answers (loud_some s.answers h) e

pub wait_silent : (c : Conduct) (s d a s' : LinkSide) → nat_eq (length s.answers) 0 ≡ true → Delivers c (length s.sent) s d → UntilAnswer c d a
    → s' ≡ all_ready a → WaitsOut c s s.answers s'
wait_silent c s d a s' h delivers runs e =
    waits_by c s s' s.answers (silent_nil s.answers h) (record { delivered = d; answered = a; delivers = delivers; runs = runs; new_is = e })

-- ---- a nub that runs

frame_grows : (xs : List ℕ) (m : Msg) → length xs < length (xs ++ frame_of m)
unfolding frame_of
frame_grows xs m = omega (arith, length-append xs (frame_of m))

pub stretch_tells : (c : Conduct) (left count : ℕ) (s new : LinkSide) (m : Msg) (h : Host) → is_roomy s ≡ true → count ≤ left → turn_of c.behaviour count s.host ≡ (Some m, h)
    → ((j : ℕ) → j < count → (turn_of c.behaviour j s.host).0 ≡ None) → new ≡ record s { host = h; answers = s.answers ++ frame_of m }
    → (t : LinkSide) → Runs c (left - count) new t → Runs c left s t
stretch_tells c left count s new m h roomy less turn fewest e = λ (t : LinkSide) (r : Runs c (left - count) new t).
    tells count m h roomy less turn fewest (subst (λ (x : LinkSide). Runs c (left - count) x t) e r)

pub stretch_grows : (s new : LinkSide) (m : Msg) (h : Host) → new ≡ record s { host = h; answers = s.answers ++ frame_of m }
    → length s.ready + length s.answers < length new.ready + length new.answers
stretch_grows s new m h e =
    let more : length s.answers < length (s.answers ++ frame_of m) = frame_grows s.answers m in
    rw e (omega (arith, more))

pub stretch_quiet : (c : Conduct) (left : ℕ) (s new : LinkSide) (h : Host) → is_roomy s ≡ true → turn_of c.behaviour left s.host ≡ (None, h) → new ≡ record s { host = h } → Runs c left s new
stretch_quiet c left s new h roomy turn e = subst (Runs c left s) (sym e) (quiet h roomy turn)

pub run_full : (c : Conduct) (left : ℕ) (s : LinkSide) → is_roomy s ≡ false → Runs c left s s
run_full c left s e = full e

pub roomy_below : (s : LinkSide) → is_roomy s ≡ true → length s.ready + length s.answers < 4096
roomy_below s h = let fits : length s.ready + length s.answers + 1027 ≤ 4096 = le_is _ _ h in omega (arith, fits)

-- ---- parts of a side

abbrev pub side_at : List ℕ → Feeding → Host → List ℕ → List ℕ → LinkSide
side_at sent f h answers ready = record { sent = sent; feeding = f; host = h; answers = answers; ready = ready }

pub sides_are : (sent : List ℕ) (f : Feeding) (h : Host) (a a' r r' : List ℕ) → a ≡ a' → r ≡ r' → side_at sent f h a r ≡ side_at sent f h a' r'
sides_are sent f h a a' r r' e k = ap (λ (l : List ℕ). side_at sent f h l r) e ∙ ap (λ (l : List ℕ). side_at sent f h a' l) k

pub shut_of : (o : Option ℕ) → is_some o ≡ false → o ≡ None
shut_of None h = refl
shut_of (Some n) h = cc
