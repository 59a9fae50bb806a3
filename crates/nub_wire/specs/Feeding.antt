-- What bytes that come in pieces mean as a stream of frames.
use Rattle.std.specs.Prelude.{◌≡◌, ◌≢◌, ℕ, ◌+◌, ◌-◌, ◌^◌, ◌≤◌, min, Bool, true, false, List, [], ◌∷◌, ◌++◌, length, take, drop}
use Rattle.nub_wire.specs.Spelling.{frame_of, MsgFits}
use Rattle.nub_wire.specs.declared.message.Msg.{Msg}
use Rattle.nub_wire.specs.declared.feeder.Fed.{Fed}
use Rattle.nub_wire.specs.declared.feeder.Fed.TheVariants as fed

-- What a reader of frames holds: the bytes of the frame that has begun, where it began in all bytes fed, and whether bytes
-- began none.
pub record Feeding : Type 0 where
  pub held : List ℕ
  pub start : ℕ
  pub is_bad : Bool

abbrev pub nothing_fed : Feeding
nothing_fed = record { held = []; start = 0; is_bad = false }

-- bytes that begin no frame came at this offset
abbrev pub bad_from : ℕ → Feeding
bad_from at = record { held = []; start = at; is_bad = true }

-- the bytes are a frame's front, and not all of it
pub record IsPartial (bytes : List ℕ) : Type 0 where
  pub message : Msg
  pub rest : List ℕ
  pub fits : MsgFits message
  pub some : rest ≢ []
  pub whole : bytes ++ rest ≡ frame_of message

-- however the bytes go on, no frame stands at their front
abbrev pub BeginsNoFrame : List ℕ → Type 0
BeginsNoFrame bytes = (m : Msg) (more rest : List ℕ) → MsgFits m → bytes ++ more ≡ frame_of m ++ rest → ⊥

-- no frame of which these are the front is whole before so many bytes more
abbrev pub EndsNoSooner : List ℕ → ℕ → Type 0
EndsNoSooner bytes n = (m : Msg) (more : List ℕ) → MsgFits m → bytes ++ more ≡ frame_of m → n ≤ length more

-- Where the next frame begins. The count stands still at its end.
abbrev pub moved_on : ℕ → ℕ → ℕ
moved_on start n = min (start + n) (2 ^ 64 - 1)

pub record Waits (old : Feeding) (piece : List ℕ) (new : Feeding) : Type 0 where
  pub partial : IsPartial (old.held ++ piece)
  pub new_is : new ≡ record { held = old.held ++ piece; start = old.start; is_bad = false }

pub record Gives (old : Feeding) (piece : List ℕ) (m : Msg) (used : ℕ) (new : Feeding) : Type 0 where
  pub some : 1 ≤ used
  pub within : used ≤ length piece
  pub fits : MsgFits m
  pub frame : old.held ++ take used piece ≡ frame_of m
  pub new_is : new ≡ record { held = []; start = moved_on old.start (length (frame_of m)); is_bad = false }

pub record Refuses (old : Feeding) (piece : List ℕ) (at : ℕ) (new : Feeding) : Type 0 where
  pub at_is : at ≡ old.start
  pub none : BeginsNoFrame (old.held ++ piece)
  pub new_is : new ≡ bad_from old.start

-- what comes of a piece where no bytes before began no frame
abbrev pub FeedsGood : Feeding → List ℕ → Fed → Feeding → Type 0
FeedsGood old piece fed.NotYet new = Waits old piece new
FeedsGood old piece (fed.Msg m used) new = Gives old piece m used new
FeedsGood old piece (fed.BadFrame at) new = Refuses old piece at new

-- after bytes that begin no frame the answer is the same for good
abbrev pub StaysBad : Feeding → Fed → Feeding → Type 0
StaysBad old answer new = (answer ≡ fed.BadFrame old.start) × (new ≡ old)

abbrev pub by_state : Bool → Type 0 → Type 0 → Type 0
by_state true bad good = bad
by_state false bad good = good

-- what comes of a piece, and what is held after it
abbrev pub Feeds : Feeding → List ℕ → Fed → Feeding → Type 0
Feeds old piece answer new = by_state old.is_bad (StaysBad old answer new) (FeedsGood old piece answer new)

-- ---- whole streams

abbrev pub joined : List (List ℕ) → List ℕ
joined [] = []
joined (piece ∷ pieces) = piece ++ joined pieces

abbrev pub frames : List Msg → List ℕ
frames [] = []
frames (m ∷ ms) = frame_of m ++ frames ms

abbrev pub AllFit : List Msg → Type 0
AllFit [] = Unit {0}
AllFit (m ∷ ms) = MsgFits m × AllFit ms

-- the stream is these messages' frames, and then part of one
pub record Splits (stream : List ℕ) (messages : List Msg) (rest : List ℕ) : Type 0 where
  pub fit : AllFit messages
  pub whole : stream ≡ frames messages ++ rest
  pub partial : IsPartial rest

-- Pieces were fed, what a message left of one again, and these messages came.
pub data FeedsAll : Feeding → List (List ℕ) → List Msg → Feeding → Type 0 where
  done : {old : Feeding} → IsPartial old.held → FeedsAll old [] [] old
  waits : {old next last : Feeding} {piece : List ℕ} {pieces : List (List ℕ)} {ms : List Msg}
      → Feeds old piece fed.NotYet next → FeedsAll next pieces ms last → FeedsAll old (piece ∷ pieces) ms last
  gives : {old next last : Feeding} {piece : List ℕ} {pieces : List (List ℕ)} {ms : List Msg} (m : Msg) (used : ℕ)
      → Feeds old piece (fed.Msg m used) next → FeedsAll next (drop used piece ∷ pieces) ms last → FeedsAll old (piece ∷ pieces) (m ∷ ms) last

-- the stream is these messages' frames, and then bytes that begin no frame, at this offset, whose count stands still at
-- its end
pub record Breaks (stream : List ℕ) (messages : List Msg) (at : ℕ) : Type 0 where
  pub tail : List ℕ
  pub fit : AllFit messages
  pub whole : stream ≡ frames messages ++ tail
  pub none : BeginsNoFrame tail
  pub at_is : at ≡ min (length (frames messages)) (2 ^ 64 - 1)
