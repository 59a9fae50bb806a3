-- What one call of `feed` means.
use Rattle.std.proofs.Common.{◌≡◌, ◌∙◌, sym, ap, subst, refl, ℕ, ◌+◌, ◌<◌, ◌≤◌, List, [], ◌∷◌, ◌++◌, length, take, drop, slice_index, Bool, true, false, arith, append_assoc}
use Rattle.std.proofs.lemmas.Grind.{common_steps}
use Rattle.nub_wire.specs.declared.message.Msg.{Msg}
use Rattle.nub_wire.specs.declared.front.Front.{Front}
use Rattle.nub_wire.specs.Spelling.{frame_of, AllBytes, MsgFits}
use Rattle.nub_wire.specs.Held.{BeginsFrame, IsFront}
use Rattle.nub_wire.specs.Feeding.{Feeding, IsPartial, BeginsNoFrame, Waits, Gives, StaysBad, by_state, Feeds}
use Rattle.nub_wire.specs.declared.feeder.Fed.TheVariants as fed
use Rattle.nub_wire.proofs.Fronts.{append_bytes}
use Rattle.nub_wire.proofs.Streams.{whole_spells, Spells}

-- nothing that follows helps
none_longer : (xs more : List ℕ) → BeginsNoFrame xs → BeginsNoFrame (xs ++ more)
none_longer xs more h m ys rest fits e = h m (more ++ ys) rest fits (sym (append_assoc xs more ys) ∙ e)

abbrev pub feeding : List ℕ → ℕ → Bool → Feeding
feeding held start is_bad = record { held = held; start = start; is_bad = is_bad }

-- after bytes that begin no frame
pub stays_bad : (held : List ℕ) (start : ℕ) (is_bad : Bool) (piece : List ℕ) → is_bad ≡ true
    → Feeds (feeding held start is_bad) piece (fed.BadFrame start) (feeding held start is_bad)
stays_bad held start true piece e = (refl, refl)
stays_bad held start false piece e = cc

-- before
pub by_good : (b : Bool) (bad good : Type 0) → b ≡ false → good → by_state b bad good
by_good true bad good e h = cc
by_good false bad good e h = h

not_bad : (b : Bool) (bad good : Type 0) → (bad → ⊥) → by_state b bad good → good
not_bad true bad good never h = absurd (never h)
not_bad false bad good never h = h

no_wait : (at : ℕ) → fed.NotYet ≡ fed.BadFrame at → ⊥
no_wait at e = cc

no_message : (m : Msg) (used at : ℕ) → fed.Msg m used ≡ fed.BadFrame at → ⊥
no_message m used at e = cc

pub waits_of : (old : Feeding) (piece : List ℕ) (new : Feeding) → Feeds old piece fed.NotYet new → Waits old piece new
waits_of old piece new h = not_bad old.is_bad (StaysBad old fed.NotYet new) (Waits old piece new) (λ s. no_wait old.start s.0) h

pub gives_of : (old : Feeding) (piece : List ℕ) (m : Msg) (used : ℕ) (new : Feeding) → Feeds old piece (fed.Msg m used) new → Gives old piece m used new
gives_of old piece m used new h = not_bad old.is_bad (StaysBad old (fed.Msg m used) new) (Gives old piece m used new) (λ s. no_message m used old.start s.0) h

take_one : (xs : List ℕ) (i : ℕ) → i < length xs → take i xs ++ slice_index xs i ∷ [] ≡ take (i + 1) xs
take_one xs i h = grind (arith, common_steps)

pub split_at : (n : ℕ) (xs : List ℕ) → take n xs ++ drop n xs ≡ xs
split_at n xs = grind (arith, common_steps)

-- one more byte of the piece
pub pushed_is : (held piece now pushed : List ℕ) (i : ℕ) → i < length piece → now ≡ held ++ take i piece
    → pushed ≡ now ++ slice_index piece i ∷ [] → pushed ≡ held ++ take (i + 1) piece
pushed_is held piece now pushed i h e p =
    p ∙ ap (λ (l : List ℕ). l ++ slice_index piece i ∷ []) e ∙ append_assoc held (take i piece) (slice_index piece i ∷ []) ∙ ap (λ (l : List ℕ). held ++ l) (take_one piece i h)

-- what was judged
pub front_now : (judged pushed : List ℕ) (f f' : Front) → judged ≡ pushed → f ≡ f' → IsFront judged f → IsFront pushed f'
front_now judged pushed f f' e is h = subst (λ (l : List ℕ). IsFront l f') e (subst (λ (x : Front). IsFront judged x) is h)

pub refuses_now : (held piece pushed : List ℕ) (i : ℕ) → pushed ≡ held ++ take (i + 1) piece → BeginsNoFrame pushed → BeginsNoFrame (held ++ piece)
refuses_now held piece pushed i e h =
    let none : BeginsNoFrame (held ++ take (i + 1) piece) = subst (λ (l : List ℕ). BeginsNoFrame l) e h in
    let longer : BeginsNoFrame ((held ++ take (i + 1) piece) ++ drop (i + 1) piece) = none_longer (held ++ take (i + 1) piece) (drop (i + 1) piece) none in
    let same : (held ++ take (i + 1) piece) ++ drop (i + 1) piece ≡ held ++ piece = append_assoc held (take (i + 1) piece) (drop (i + 1) piece) ∙ ap (λ (l : List ℕ). held ++ l) (split_at (i + 1) piece) in
    subst (λ (l : List ℕ). BeginsNoFrame l) same longer

pub one_byte_more : (now pushed : List ℕ) (b : ℕ) → AllBytes now → b < 256 → pushed ≡ now ++ b ∷ [] → AllBytes pushed
one_byte_more now pushed b h k e = subst (λ (l : List ℕ). AllBytes l) (sym e) (append_bytes now (b ∷ []) h (k, tt))

pub spells_now : (now pushed : List ℕ) (b : ℕ) (m : Msg) → pushed ≡ now ++ b ∷ [] → IsPartial now → BeginsFrame pushed m → Spells pushed m
spells_now now pushed b m e part whole =
    subst (λ (l : List ℕ). Spells l m) (sym e) (whole_spells now b m part (subst (λ (l : List ℕ). BeginsFrame l m) e whole))

pub all_taken : (i : ℕ) (xs : List ℕ) → length xs ≤ i → take i xs ≡ xs
all_taken i xs h = grind (arith, common_steps)

pub feeding_is : (held held' : List ℕ) (start start' : ℕ) (is_bad is_bad' : Bool) → held ≡ held' → start ≡ start' → is_bad ≡ is_bad'
    → feeding held start is_bad ≡ feeding held' start' is_bad'
feeding_is held held' start start' is_bad is_bad' e f g = cc

-- a message whose last byte is byte i of the piece
pub record Ends (held piece : List ℕ) (i : ℕ) (m : Msg) : Type 0 where
  pub within : i + 1 ≤ length piece
  pub fits : MsgFits m
  pub frame : held ++ take (i + 1) piece ≡ frame_of m

pub gives_now : (held piece pushed : List ℕ) (i : ℕ) (m : Msg) (start : ℕ) (is_bad : Bool) → pushed ≡ held ++ take (i + 1) piece → i < length piece → Spells pushed m → Ends held piece i m
gives_now held piece pushed i m start is_bad e h s = record { within = omega arith; fits = s.fits; frame = sym e ∙ s.is }
