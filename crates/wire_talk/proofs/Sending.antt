-- A frame that is sent.
use Rattle.std.proofs.Common.{◌≡◌, ◌≢◌, ◌∙◌, ◌⊎◌, inl, inr, refl, sym, ap, subst, ℕ, zero, suc, ◌+◌, ◌-◌, ◌≤◌, ◌<◌, List, [], ◌∷◌, ◌++◌, length, take, drop, Option, Some, None, option_map, IfSome, arith}
use Rattle.std.proofs.lemmas.Grind.{common_steps}
use Rattle.nub_wire.specs.declared.link.Side.{Side}
use Rattle.nub_wire.specs.Delivery.{LinkSide, World, side_of, on_side, with_sent, fitting}
use Rattle.nub_wire.specs.Calls.{Sends, none_sent, sends, SendsNone}
use Rattle.nub_wire.specs.Told.{took_by}

-- none or all of a frame is on the way, where nothing was
abbrev pub SentSoFar : Side → List ℕ → World → ℕ → Option World → Type 0
SentSoFar side frame w done o = ((done ≡ 0) × (o ≡ Some w)) ⊎ ((done ≡ length frame) × (o ≡ Some (on_side side (with_sent frame) w)))

take_none : (n : ℕ) → take {A = ℕ} n [] ≡ []
take_none zero = refl
take_none (suc n) = refl

take_more : (d n : ℕ) (xs : List ℕ) → take d xs ++ take n (drop d xs) ≡ take (d + n) xs
take_more zero n xs = let e : 0 + n ≡ n = omega arith in rw e refl
take_more (suc d) n [] = let e : suc d + n ≡ suc (d + n) = omega arith in rw e (take_none n)
take_more (suc d) n (x ∷ xs) = let e : suc d + n ≡ suc (d + n) = omega arith in rw e (ap (λ (l : List ℕ). x ∷ l) (take_more d n xs))

take_all : (n : ℕ) (xs : List ℕ) → length xs ≤ n → take n xs ≡ xs
take_all n xs h = grind (arith, common_steps)

drop_none : (xs : List ℕ) → drop 0 xs ≡ xs
drop_none xs = refl

split_at : (n : ℕ) (xs : List ℕ) → take n xs ++ drop n xs ≡ xs
split_at n xs = grind (arith, common_steps)

drop_some : (d : ℕ) (xs : List ℕ) → d < length xs → drop d xs ≢ []
drop_some zero [] h e = absurd (omega (arith, h))
drop_some zero (x ∷ xs) h e = cc
drop_some (suc d) [] h e = absurd (omega (arith, h))
drop_some (suc d) (x ∷ xs) h e = drop_some d xs (omega (arith, h)) e

append_nil : (xs : List ℕ) → xs ++ [] ≡ xs
append_nil xs = grind (arith, common_steps)

-- the bytes from d on, as a slice of the code has them
abbrev pub from_on : ℕ → List ℕ → List ℕ
from_on d xs = take (length xs - d) (drop d xs)

drop_length : (d : ℕ) (xs : List ℕ) → length (drop d xs) ≤ length xs - d
drop_length d xs = grind (arith, common_steps)

from_is : (d : ℕ) (xs : List ℕ) → from_on d xs ≡ drop d xs
from_is d xs = take_all (length xs - d) (drop d xs) (drop_length d xs)

pub from_bound : (d n : ℕ) (xs : List ℕ) → d < length xs → n ≤ length (from_on d xs) → d + n ≤ length xs
from_bound d n xs h k = let a : length (from_on d xs) ≤ length xs - d = rw (from_is d xs) (drop_length d xs) in omega (arith, h, k, a)

pub sent_more : {S : Type 0} (took : S → List ℕ → ℕ → S → Type 0) (xs : List ℕ) (d n : ℕ) (s t u : S) → Sends took s (take d xs) t → took t (from_on d xs) n u
    → Sends took s (take (d + n) xs) u
sent_more took xs d n s t u h call = subst (λ (l : List ℕ). Sends took s l u) (take_more d n xs) (sends (take d xs) (drop d xs) n h (subst (λ (l : List ℕ). took t l n u) (from_is d xs) call))

pub sent_all : {S : Type 0} (took : S → List ℕ → ℕ → S → Type 0) (xs : List ℕ) (d : ℕ) (s t : S) → length xs ≤ d → Sends took s (take d xs) t → Sends took s xs t
sent_all took xs d s t h x = subst (λ (l : List ℕ). Sends took s l t) (take_all d xs h) x

pub sent_none : {S : Type 0} (took : S → List ℕ → ℕ → S → Type 0) (xs : List ℕ) (d n : ℕ) (s t u : S) → d < length xs → Sends took s (take d xs) t → n ≡ 0
    → took t (from_on d xs) n u → SendsNone took xs s u
sent_none took xs d n s t u less h e call = record {
  between = t;
  front = take d xs;
  piece = drop d xs;
  behind = [];
  whole = ap (λ (l : List ℕ). take d xs ++ l) (append_nil (drop d xs)) ∙ split_at d xs;
  some = drop_some d xs less;
  sent = h;
  none = subst (λ (k : ℕ). took t (drop d xs) k u) e (subst (λ (l : List ℕ). took t l n u) (from_is d xs) call);
}

-- ---- where the link tells its world

pub room_of : (P : World → Type 0) (o : Option World) (v : World) → IfSome o P → o ≡ Some v → P v
room_of P None v h e = cc
room_of P (Some w) v h e = let same : w ≡ v = cc in subst P same h

-- a side where nothing is on the way has room for a frame
all_fits : (piece : List ℕ) (o : Option LinkSide) (s : LinkSide) → o ≡ Some s → s.sent ≡ [] → length piece ≤ 4096 → fitting piece o ≡ length piece
all_fits piece None s e none h = cc
all_fits piece (Some t) s e none h =
    let same : t ≡ s = cc in
    let empty : length t.sent ≡ 0 = ap (λ (x : LinkSide). length x.sent) same ∙ ap length none in
    omega (arith, empty, h)

pub told_more : (side : Side) (frame : List ℕ) (w : World) (s : LinkSide) (done n : ℕ) (o o' : Option World) → side_of side w ≡ Some s → s.sent ≡ []
    → length frame ≤ 4096 → done < length frame → SentSoFar side frame w done o → ((v : World) → o ≡ Some v → n ≡ fitting (from_on done frame) (side_of side v))
    → o' ≡ option_map (on_side side (with_sent (take n (from_on done frame)))) o → SentSoFar side frame w (done + n) o'
told_more side frame w s done n o o' there none short less (inl x) room new =
    let whole : from_on done frame ≡ frame = from_is done frame ∙ ap (λ (k : ℕ). drop k frame) x.0 in
    let fits : n ≡ length frame = room w x.1 ∙ all_fits (from_on done frame) (side_of side w) s there none (rw whole short) ∙ ap length whole in
    let all : take n (from_on done frame) ≡ frame = ap (λ (l : List ℕ). take n l) whole ∙ take_all n frame (omega (arith, fits)) in
    let sum : done + n ≡ length frame = omega (arith, x.0, fits) in
    inr (sum, new ∙ ap (λ (l : List ℕ). option_map (on_side side (with_sent l)) o) all ∙ ap (option_map (on_side side (with_sent frame))) x.1)
told_more side frame w s done n o o' there none short less (inr x) room new = absurd (omega (arith, x.0, less))

-- so none of it is never taken
pub told_none : {A : Type 0} (side : Side) (frame : List ℕ) (w : World) (s : LinkSide) (done n : ℕ) (o : Option World) → side_of side w ≡ Some s → s.sent ≡ []
    → length frame ≤ 4096 → done < length frame → SentSoFar side frame w done o → ((v : World) → o ≡ Some v → n ≡ fitting (from_on done frame) (side_of side v))
    → n ≡ 0 → A
told_none side frame w s done n o there none short less (inl x) room zero_taken =
    let whole : from_on done frame ≡ frame = from_is done frame ∙ ap (λ (k : ℕ). drop k frame) x.0 in
    let fits : n ≡ length frame = room w x.1 ∙ all_fits (from_on done frame) (side_of side w) s there none (rw whole short) ∙ ap length whole in
    absurd (omega (arith, fits, zero_taken, less))
told_none side frame w s done n o there none short less (inr x) room zero_taken = absurd (omega (arith, x.0, less))

-- and in the end all of it is on the way

pub told_all : (side : Side) (frame : List ℕ) (w : World) (s : LinkSide) (done : ℕ) (o : Option World) → side_of side w ≡ Some s → 0 < length frame → length frame ≤ done
    → SentSoFar side frame w done o → o ≡ Some (on_side side (with_sent frame) w)
told_all side frame w s done o there some all (inl x) = absurd (omega (arith, x.0, some, all))
told_all side frame w s done o there some all (inr x) = x.1

-- so the frame was sent there in one piece
pub sent_in_world : (side : Side) (frame : List ℕ) (w : World) (s : LinkSide) → side_of side w ≡ Some s → s.sent ≡ [] → length frame ≤ 4096
    → Sends (took_by side) w frame (on_side side (with_sent frame) w)
sent_in_world side frame w s there none short =
    let fits : length frame ≡ fitting frame (side_of side w) = sym (all_fits frame (side_of side w) s there none short) in
    let all : take (length frame) frame ≡ frame = take_all (length frame) frame (omega arith) in
    let took : took_by side w frame (length frame) (on_side side (with_sent frame) w) = (fits, ap (λ (l : List ℕ). on_side side (with_sent l) w) (sym all)) in
    subst (λ (l : List ℕ). Sends (took_by side) w l (on_side side (with_sent frame) w)) all (sends [] frame (length frame) none_sent took)
