-- A frame that is read.
use Rattle.std.proofs.Common.{◌≡◌, ◌≢◌, ◌∙◌, refl, sym, ap, subst, ℕ, suc, ◌-◌, ◌≤◌, ◌<◌, nat_eq, Bool, true, false, List, [], ◌∷◌, ◌++◌, length, take, Option, Some, None, arith, length-append}
use Rattle.std.proofs.lemmas.Grind.{common_steps}
use Rattle.std.proofs.lemmas.Bool.Decides.{nat_tests}
use Rattle.nub_wire.specs.declared.message.Msg.{Msg}
use Rattle.nub_wire.specs.declared.message.Msg.TheVariants as msg
use Rattle.nub_wire.specs.declared.link.Side.{Side}
use Rattle.nub_wire.specs.declared.feeder.Fed.{Fed}
use Rattle.nub_wire.specs.declared.feeder.Fed.TheVariants as fed
use Rattle.nub_wire.specs.Spelling.{frame_of, MsgFits}
use Rattle.nub_wire.specs.Feeding.{Feeding, IsPartial, BeginsNoFrame, EndsNoSooner, Feeds, FeedsGood, StaysBad, by_state}
use Rattle.nub_wire.specs.Delivery.{Conduct, World, OnWorlds, Receives}
use Rattle.nub_wire.specs.Calls.{none_heard, hears, comes, BadReply, silent, no_frame}
use Rattle.nub_wire.specs.Exchange.{got_on}
use Rattle.nub_wire.specs.Told.{took_by}
use Rattle.nub_wire.proofs.Streams.{frame_short}
use Rattle.nub_wire.proofs.Pendings.{frame_some}
use Rattle.wire_talk.specs.Talk.{owing, HeardOn, HeardBadly}

some_length : (xs : List ℕ) → xs ≢ [] → 1 ≤ length xs
some_length [] h = absurd (h refl)
some_length (x ∷ xs) h = omega arith

pub partial_nil : IsPartial []
partial_nil = record { message = msg.Hello; rest = frame_of msg.Hello; fits = tt; some = frame_some msg.Hello; whole = refl }

pub partial_short : (xs : List ℕ) → IsPartial xs → length xs < 1027
partial_short xs p =
    let short : length (frame_of p.message) ≤ 1027 = frame_short p.message p.fits in
    let some : 1 ≤ length p.rest = some_length p.rest p.some in
    omega (arith, length-append xs p.rest, ap length p.whole)

-- ---- by calls, those of a link or of its world

module _ {S : Type 0} (took : S → List ℕ → ℕ → S → Type 0) (gave : S → ℕ → List ℕ → S → Type 0) where
  pub heard_nothing : (s : S) (got : List ℕ) → got ≡ [] → HeardOn took gave s got s
  heard_nothing s got e = subst (λ (l : List ℕ). HeardOn took gave s l s) (sym e) (record { heard_is = none_heard; owes = λ (m : Msg) (printed : ℕ) (v : S) x. x })

  some_size : (size : ℕ) → 1 ≤ size → size ≡ suc (size - 1)
  some_size size h = omega (arith, h)

  as_some : (s u : S) (size : ℕ) (bytes : List ℕ) → 1 ≤ size → gave s size bytes u → gave s (suc (size - 1)) bytes u
  as_some s u size bytes h g = subst (λ (n : ℕ). gave s n bytes u) (some_size size h) g

  pub heard_more : (s t u : S) (got bytes got' : List ℕ) (size : ℕ) → HeardOn took gave s got t → IsPartial got → 1 ≤ size → gave t size bytes u → got' ≡ got ++ bytes → HeardOn took gave s got' u
  heard_more s t u got bytes got' size h part some g e =
      let call = as_some t u size bytes some g in
      subst (λ (l : List ℕ). HeardOn took gave s l u) (sym e) (record {
        heard_is = hears got bytes (size - 1) h.heard_is call;
        owes = λ (m : Msg) (printed : ℕ) (v : S) x. comes printed (size - 1) got bytes (h.owes m printed v x) part call;
      })

  pub heard_silent : (s t u : S) (got bytes frame : List ℕ) (size : ℕ) → HeardOn took gave s got t → IsPartial got → 1 ≤ size → gave t size bytes u → bytes ≡ [] → frame ≡ [] → HeardBadly took gave s frame u
  heard_silent s t u got bytes frame size h part some g e f = λ (m : Msg) (printed : ℕ) (v : S) x.
      subst (λ (l : List ℕ). BadReply took gave m v l u) (sym f)
      (silent (owing m printed got) (size - 1) (h.owes m printed v x) part (as_some t u size [] some (subst (λ (l : List ℕ). gave t size l u) e g)))

  pub heard_no_frame : (s u : S) (got : List ℕ) → HeardOn took gave s got u → length got ≤ 1027 → BeginsNoFrame got → HeardBadly took gave s got u
  heard_no_frame s u got h short none = λ (m : Msg) (printed : ℕ) (v : S) x. no_frame (owing m printed got) (h.owes m printed v x) short none

-- ---- by the world that a link tells

abbrev pub ToldOn : Conduct → Side → World → List ℕ → Option World → Type 0
ToldOn c side w got o = (u : World) × (o ≡ Some u) × HeardOn (took_by side) (got_on c side) w got u

on_some : (R : World → World → Type 0) (o o' : Option World) (w : World) → OnWorlds R o o' → o ≡ Some w → (w' : World) × (o' ≡ Some w') × R w w'
on_some R None o' w h e = cc
on_some R (Some v) None w h e = absurd h
on_some R (Some v) (Some v') w h e = let same : v ≡ w = cc in (v', refl, subst (λ (x : World). R x v') same h)

pub told_more : (c : Conduct) (side : Side) (w : World) (got bytes got' : List ℕ) (size : ℕ) (o o' : Option World) → ToldOn c side w got o → IsPartial got → 1 ≤ size
    → OnWorlds (Receives c side size bytes) o o' → got' ≡ got ++ bytes → ToldOn c side w got' o'
told_more c side w got bytes got' size o o' h part some r e =
    let x = on_some (Receives c side size bytes) o o' h.0 r h.1 in
    (x.0, x.1, heard_more (took_by side) (got_on c side) w h.0 x.0 got bytes got' size h.2 part some x.2 e)

pub told_silent : (c : Conduct) (side : Side) (w : World) (got bytes frame : List ℕ) (size : ℕ) (o o' : Option World) → ToldOn c side w got o → IsPartial got → 1 ≤ size
    → OnWorlds (Receives c side size bytes) o o' → bytes ≡ [] → frame ≡ [] → (u : World) × (o' ≡ Some u) × HeardBadly (took_by side) (got_on c side) w frame u
told_silent c side w got bytes frame size o o' h part some r e f =
    let x = on_some (Receives c side size bytes) o o' h.0 r h.1 in
    (x.0, x.1, heard_silent (took_by side) (got_on c side) w h.0 x.0 got bytes frame size h.2 part some x.2 e f)

-- ---- what the reader of frames says

good_of : (b : Bool) (bad good : Type 0) → b ≡ false → by_state b bad good → good
good_of true bad good e h = cc
good_of false bad good e h = h

fed_good : (old new : Feeding) (piece : List ℕ) (answer : Fed) → old.is_bad ≡ false → Feeds old piece answer new → FeedsGood old piece answer new
fed_good old new piece answer e f = good_of old.is_bad (StaysBad old answer new) (FeedsGood old piece answer new) e f

pub record Partly (new : Feeding) (got : List ℕ) : Type 0 where
  pub held : new.held ≡ got
  pub good : new.is_bad ≡ false
  pub partial : IsPartial got

pub not_yet : (old new : Feeding) (piece got got' : List ℕ) → old.is_bad ≡ false → old.held ≡ got → got' ≡ got ++ piece → Feeds old piece fed.NotYet new → Partly new got'
not_yet old new piece got got' good held is f =
    let w = fed_good old new piece fed.NotYet good f in
    let same : old.held ++ piece ≡ got' = ap (λ (l : List ℕ). l ++ piece) held ∙ sym is in
    record { held = ap (λ (x : Feeding). x.held) w.new_is ∙ same; good = ap (λ (x : Feeding). x.is_bad) w.new_is; partial = subst IsPartial same w.partial }

pub record Wholly (m : Msg) (got : List ℕ) : Type 0 where
  pub fits : MsgFits m
  pub is : got ≡ frame_of m

take_all : (n : ℕ) (xs : List ℕ) → length xs ≤ n → take n xs ≡ xs
take_all n xs h = grind (arith, common_steps)

take_short : (n : ℕ) (xs : List ℕ) → length (take n xs) ≤ n
take_short n xs = grind (arith, common_steps)

-- a frame that is whole ends where the piece does
pub whole : (old new : Feeding) (piece : List ℕ) (used most : ℕ) (m : Msg) (got got' : List ℕ) → old.is_bad ≡ false → old.held ≡ got → got' ≡ got ++ piece
    → EndsNoSooner old.held most → length piece ≤ most → Feeds old piece (fed.Msg m used) new → Wholly m got'
whole old new piece used most m got got' good held is sooner short f =
    let w = fed_good old new piece (fed.Msg m used) good f in
    let least : most ≤ length (take used piece) = sooner m (take used piece) w.fits w.frame in
    let most_used : length (take used piece) ≤ used = take_short used piece in
    let all : take used piece ≡ piece = take_all used piece (omega (arith, least, most_used, short)) in
    record { fits = w.fits; is = is ∙ ap (λ (l : List ℕ). l ++ piece) (sym held) ∙ ap (λ (l : List ℕ). old.held ++ l) (sym all) ∙ w.frame }

pub none : (old new : Feeding) (piece : List ℕ) (at : ℕ) (got got' : List ℕ) → old.is_bad ≡ false → old.held ≡ got → got' ≡ got ++ piece
    → Feeds old piece (fed.BadFrame at) new → BeginsNoFrame got'
none old new piece at got got' good held is f =
    let w = fed_good old new piece (fed.BadFrame at) good f in
    subst BeginsNoFrame (ap (λ (l : List ℕ). l ++ piece) held ∙ sym is) w.none

pub nothing_in : (xs : List ℕ) → nat_eq (length xs) 0 ≡ true → xs ≡ []
nothing_in [] e = refl
nothing_in (x ∷ xs) e = let z : suc (length xs) ≡ 0 = grind (arith, nat_tests) in absurd (omega (arith, z))

pub joined_is : (xs ys zs : List ℕ) → ys ≡ zs → xs ++ ys ≡ xs ++ zs
joined_is xs ys zs e = ap (λ (l : List ℕ). xs ++ l) e
