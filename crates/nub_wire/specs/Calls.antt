-- Calls of a link one after another, and what a debugger finds bad in them. They are said over any states and steps: those of a
-- link, whose steps only its calls give, and those of the worlds that a link tells.
use Rattle.std.specs.Prelude.{◌≡◌, ◌≢◌, ℕ, suc, ◌≤◌, List, [], ◌++◌, length, take}
use Rattle.nub_wire.specs.declared.message.Msg.{Msg}
use Rattle.nub_wire.specs.declared.link.Side.{Side}
use Rattle.nub_wire.specs.declared.reply.Heard.TheVariants.{Ends, GoesOn, Bad}
use Rattle.nub_wire.specs.Spelling.{frame_of, MsgFits}
use Rattle.nub_wire.specs.Feeding.{IsPartial, BeginsNoFrame}
use Rattle.nub_wire.specs.Replies.{heard}

-- ---- sends

-- sends, one after another, and all bytes that were taken
pub data Sends {S : Type 0} (took : S → List ℕ → ℕ → S → Type 0) : S → List ℕ → S → Type 0 where
  none_sent : {s : S} → Sends took s [] s
  sends : {s t u : S} (sent piece : List ℕ) (n : ℕ) → Sends took s sent t → took t piece n u → Sends took s (sent ++ take n piece) u

-- the last of some sends took none of a piece that was next in some bytes
pub record SendsNone {S : Type 0} (took : S → List ℕ → ℕ → S → Type 0) (bytes : List ℕ) (s u : S) : Type 0 where
  pub between : S
  pub front : List ℕ
  pub piece : List ℕ
  pub behind : List ℕ
  pub whole : front ++ (piece ++ behind) ≡ bytes
  pub some : piece ≢ []
  pub sent : Sends took s front between
  pub none : took between piece 0 u

-- ---- receives

-- receives, one after another, none into an empty buffer, and all bytes that they gave
pub data Hears {S : Type 0} (gave : S → ℕ → List ℕ → S → Type 0) : S → List ℕ → S → Type 0 where
  none_heard : {s : S} → Hears gave s [] s
  hears : {s t u : S} (got bytes : List ℕ) (size : ℕ) → Hears gave s got t → gave t (suc size) bytes u → Hears gave s (got ++ bytes) u

-- ---- an owed reply

-- A reply is owed from the last byte of a message sent until the frame that ends it has come whole: to which message, how
-- many bytes of output came, and the bytes behind the frames that came whole.
pub record Owed : Type 0 where
  pub asked : Msg
  pub printed : ℕ
  pub begun : List ℕ

abbrev pub owed_by : Msg → Owed
owed_by m = record { asked = m; printed = 0; begun = [] }

-- Since the first state a message was sent whole, and this is owed. Nothing more is received where what has come is no
-- part of a frame alone.
pub data Owes {S : Type 0} (took : S → List ℕ → ℕ → S → Type 0) (gave : S → ℕ → List ℕ → S → Type 0) (m : Msg) : S → Owed → S → Type 0 where
  sent_whole : {s t : S} → Sends took s (frame_of m) t → Owes took gave m s (owed_by m) t
  comes : {s t u : S} (printed size : ℕ) (begun bytes : List ℕ) → Owes took gave m s (record { asked = m; printed = printed; begun = begun }) t
      → IsPartial begun → gave t (suc size) bytes u → Owes took gave m s (record { asked = m; printed = printed; begun = begun ++ bytes }) u
  goes_on : {s t : S} (printed more : ℕ) (r : Msg) (rest : List ℕ) → Owes took gave m s (record { asked = m; printed = printed; begun = frame_of r ++ rest }) t
      → MsgFits r → heard m printed r ≡ GoesOn more → Owes took gave m s (record { asked = m; printed = more; begun = rest }) t

-- A bad reply to a message, with the frame that it keeps: a send took none of some bytes, a receive gave none though a
-- reply is owed, bytes came that begin no frame, or a frame that is no reply. The last call brought it. A reply that is
-- none is Outside in answer to input too, and more output than turns.
pub data BadReply {S : Type 0} (took : S → List ℕ → ℕ → S → Type 0) (gave : S → ℕ → List ℕ → S → Type 0) (m : Msg) : S → List ℕ → S → Type 0 where
  takes_none : {s u : S} → SendsNone took (frame_of m) s u → BadReply took gave m s [] u
  silent : {s t u : S} (o : Owed) (size : ℕ) → Owes took gave m s o t → IsPartial o.begun → gave t (suc size) [] u → BadReply took gave m s [] u
  no_frame : {s t : S} (o : Owed) → Owes took gave m s o t → length o.begun ≤ 1027 → BeginsNoFrame o.begun → BadReply took gave m s o.begun t
  no_reply : {s t : S} (printed : ℕ) (r : Msg) (rest : List ℕ) → Owes took gave m s (record { asked = m; printed = printed; begun = frame_of r ++ rest }) t
      → MsgFits r → heard m printed r ≡ Bad → BadReply took gave m s (frame_of r) t

-- ---- exchanges

-- a message was sent whole, and a reply that ends it was received whole
pub record Asks {S : Type 0} (took : S → List ℕ → ℕ → S → Type 0) (gave : S → ℕ → List ℕ → S → Type 0) (m r : Msg) (s u : S) : Type 0 where
  pub between : S
  pub sent : Sends took s (frame_of m) between
  pub got : Hears gave between (frame_of r) u
  pub ends : heard m 0 r ≡ Ends

-- the calls on one side
abbrev pub took_on : {S : Type 0} → (S → Side → List ℕ → ℕ → S → Type 0) → Side → S → List ℕ → ℕ → S → Type 0
took_on took side s piece n u = took s side piece n u

abbrev pub gave_on : {S : Type 0} → (S → Side → ℕ → List ℕ → S → Type 0) → Side → S → ℕ → List ℕ → S → Type 0
gave_on gave side s size bytes u = gave s side size bytes u
