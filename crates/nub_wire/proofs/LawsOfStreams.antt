-- Streams of frames.
use Rattle.std.proofs.Common.{◌≡◌, ◌∙◌, sym, ap, subst, refl, ℕ, ◌+◌, ◌≤◌, ◌-◌, ◌^◌, min, Bool, true, false, List, [], ◌∷◌, ◌++◌, length, take, drop, arith, append_assoc, length-append}
use Rattle.nub_wire.specs.declared.message.Msg.{Msg}
use Rattle.nub_wire.specs.declared.feeder.Fed.TheVariants as fed
use Rattle.nub_wire.specs.Spelling.{frame_of}
use Rattle.nub_wire.specs.Feeding.{Feeding, IsPartial, joined, frames, AllFit, Splits, FeedsAll, done, waits, gives, nothing_fed, Feeds, Breaks, Refuses, StaysBad, by_state, moved_on}
use Rattle.nub_wire.proofs.Streams.{append_nil, one_message_lem, no_frame}
use Rattle.nub_wire.proofs.Feeds.{split_at, waits_of, gives_of}

-- what was held, and the pieces, are the frames of the messages and what is held in the end
pub record Adds (old : Feeding) (pieces : List (List ℕ)) (ms : List Msg) (last : Feeding) : Type 0 where
  pub fit : AllFit ms
  pub whole : old.held ++ joined pieces ≡ frames ms ++ last.held
  pub partial : IsPartial last.held

pub adds : {old last : Feeding} {pieces : List (List ℕ)} {ms : List Msg} → FeedsAll old pieces ms last → Adds old pieces ms last
adds {old = old} (done p) = record { fit = tt; whole = append_nil old.held; partial = p }
adds {old = old} {last = last} (waits {next = next} {piece = piece} {pieces = pieces} {ms = ms} f rest) =
    let w = waits_of old piece next f in
    let a = adds rest in
    let held : next.held ≡ old.held ++ piece = ap (λ (f : Feeding). f.held) w.new_is in
    record {
      fit = a.fit;
      whole = sym (append_assoc old.held piece (joined pieces)) ∙ ap (λ (l : List ℕ). l ++ joined pieces) (sym held) ∙ a.whole;
      partial = a.partial;
    }
adds {old = old} {last = last} (gives {next = next} {piece = piece} {pieces = pieces} {ms = ms} m used f rest) =
    let g = gives_of old piece m used next f in
    let a = adds rest in
    let held : next.held ≡ [] = ap (λ (f : Feeding). f.held) g.new_is in
    let tail : drop used piece ++ joined pieces ≡ frames ms ++ last.held = ap (λ (l : List ℕ). l ++ (drop used piece ++ joined pieces)) (sym held) ∙ a.whole in
    record {
      fit = (g.fits, a.fit);
      whole =
          ap (λ (l : List ℕ). old.held ++ (l ++ joined pieces)) (sym (split_at used piece))
          ∙ ap (λ (l : List ℕ). old.held ++ l) (append_assoc (take used piece) (drop used piece) (joined pieces))
          ∙ sym (append_assoc old.held (take used piece) (drop used piece ++ joined pieces))
          ∙ ap (λ (l : List ℕ). l ++ (drop used piece ++ joined pieces)) g.frame
          ∙ ap (λ (l : List ℕ). frame_of m ++ l) tail
          ∙ sym (append_assoc (frame_of m) (frames ms) last.held);
      partial = a.partial;
    }

pub split_pieces : (pieces : List (List ℕ)) (messages : List Msg) (last : Feeding) → FeedsAll nothing_fed pieces messages last → Splits (joined pieces) messages last.held
split_pieces pieces messages last f = let a = adds f in record { fit = a.fit; whole = a.whole; partial = a.partial }

pub only_split : (ms ns : List Msg) (xs ys : List ℕ) → AllFit ms → AllFit ns → IsPartial xs → IsPartial ys → frames ms ++ xs ≡ frames ns ++ ys → (ms ≡ ns) × (xs ≡ ys)
only_split [] [] xs ys f g p q e = (refl, e)
only_split (m ∷ ms) [] xs ys f g p q e = no_frame m (frames ms ++ xs) ys f.0 q (sym (append_assoc (frame_of m) (frames ms) xs) ∙ e)
only_split [] (n ∷ ns) xs ys f g p q e = no_frame n (frames ns ++ ys) xs g.0 p (sym (append_assoc (frame_of n) (frames ns) ys) ∙ sym e)
only_split (m ∷ ms) (n ∷ ns) xs ys f g p q e =
    let o = one_message_lem m n (frames ms ++ xs) (frames ns ++ ys) f.0 g.0 (sym (append_assoc (frame_of m) (frames ms) xs) ∙ e ∙ append_assoc (frame_of n) (frames ns) ys) in
    let r = only_split ms ns xs ys f.1 g.1 p q o.1 in
    let head : m ≡ n = o.0 in
    let tail : ms ≡ ns = r.0 in
    (cc, r.1)

pub only_pieces : (stream : List ℕ) (ms ns : List Msg) (xs ys : List ℕ) → Splits stream ms xs → Splits stream ns ys → (ms ≡ ns) × (xs ≡ ys)
only_pieces stream ms ns xs ys s t = only_split ms ns xs ys s.fit t.fit s.partial t.partial (sym s.whole ∙ t.whole)

-- ---- where bytes begin no frame

moved_twice : (s n k : ℕ) → moved_on (moved_on s n) k ≡ moved_on s (n + k)
moved_twice s n k = omega arith

pub start_moved : {old last : Feeding} {pieces : List (List ℕ)} {ms : List Msg} → old.start ≤ 2 ^ 64 - 1 → FeedsAll old pieces ms last
    → last.start ≡ moved_on old.start (length (frames ms))
start_moved {old = old} small (done p) = omega (arith, small)
start_moved {old = old} {last = last} small (waits {next = next} {piece = piece} {pieces = pieces} {ms = ms} f rest) =
    let w = waits_of old piece next f in
    let same : next.start ≡ old.start = ap (λ (x : Feeding). x.start) w.new_is in
    start_moved (subst (λ (n : ℕ). n ≤ 2 ^ 64 - 1) (sym same) small) rest ∙ ap (λ (n : ℕ). moved_on n (length (frames ms))) same
start_moved {old = old} {last = last} small (gives {next = next} {piece = piece} {pieces = pieces} {ms = ms} m used f rest) =
    let g = gives_of old piece m used next f in
    let start : next.start ≡ moved_on old.start (length (frame_of m)) = ap (λ (x : Feeding). x.start) g.new_is in
    let bound : next.start ≤ 2 ^ 64 - 1 = omega (arith, start) in
    start_moved bound rest
    ∙ ap (λ (n : ℕ). moved_on n (length (frames ms))) start
    ∙ moved_twice old.start (length (frame_of m)) (length (frames ms))
    ∙ ap (moved_on old.start) (sym (length-append (frame_of m) (frames ms)))

good_of : (b : Bool) (bad good : Type 0) → b ≡ false → by_state b bad good → good
good_of true bad good e h = cc
good_of false bad good e h = h

pub breaks : (pieces : List (List ℕ)) (messages : List Msg) (last new : Feeding) (piece : List ℕ) (at : ℕ)
    → FeedsAll nothing_fed pieces messages last → last.is_bad ≡ false → Feeds last piece (fed.BadFrame at) new → Breaks (joined pieces ++ piece) messages at
breaks pieces messages last new piece at f e h =
    let a = adds f in
    let r = good_of last.is_bad (StaysBad last (fed.BadFrame at) new) (Refuses last piece at new) e h in
    let zero_small : 0 ≤ 2 ^ 64 - 1 = omega arith in
    let start : last.start ≡ moved_on 0 (length (frames messages)) = start_moved zero_small f in
    let plain : moved_on 0 (length (frames messages)) ≡ min (length (frames messages)) (2 ^ 64 - 1) = omega arith in
    record {
      tail = last.held ++ piece;
      fit = a.fit;
      whole = ap (λ (l : List ℕ). l ++ piece) a.whole ∙ append_assoc (frames messages) last.held piece;
      none = r.none;
      at_is = r.at_is ∙ start ∙ plain;
    }
