-- Nubs and machines behind a link, what is on the way, and how a schedule moves it.
use Rattle.std.specs.Prelude.{◌≡◌, ◌≢◌, ℕ, zero, suc, ◌+◌, ◌-◌, ◌<◌, ◌≤◌, nat_le, min, Bool, true, false, ◌&&◌, not, is_none, List, [], ◌∷◌, ◌++◌, length, take, drop, Option, None, Some, option_map}
use Rattle.machine_state.specs.State.{Behaviour}
use Rattle.nub_wire.specs.declared.message.Msg.{Msg}
use Rattle.nub_wire.specs.declared.feeder.Fed.{Fed}
use Rattle.nub_wire.specs.declared.feeder.Fed.TheVariants as fed
use Rattle.nub_wire.specs.declared.link.Side.{Side}
use Rattle.nub_wire.specs.declared.link.Side.TheVariants.{First, Second}
use Rattle.nub_wire.specs.declared.link.Entry.{Entry}
use Rattle.nub_wire.specs.Spelling.{frame_of}
use Rattle.nub_wire.specs.Feeding.{Feeding, Feeds, nothing_fed}
use Rattle.nub_wire.specs.Nub.{Host, Replied, handled, turn_of, blocked}

-- What is behind a link: what its machines do, and what its nubs reply to a message where no resume is open, with the
-- nub and machine after it.
pub record Conduct : Type 0 where
  pub behaviour : Behaviour
  pub handles : Msg → Host → Replied

-- nubs over machines of a known behaviour
abbrev pub nubs_over : Behaviour → Conduct
nubs_over b = record { behaviour = b; handles = handled b }

-- One side: the bytes sent that didn't reach the nub; what its reader of frames holds; the nub and its machine; the
-- bytes of its answers that aren't ready, and those that are.
pub record LinkSide : Type 0 where
  pub sent : List ℕ
  pub feeding : Feeding
  pub host : Host
  pub answers : List ℕ
  pub ready : List ℕ

-- the one or two sides, and the entries of the schedule that are left
pub record World : Type 0 where
  pub first : LinkSide
  pub second : Option LinkSide
  pub schedule : List Entry

-- no message came yet
abbrev pub first_side : Host → LinkSide
first_side h = record { sent = []; feeding = nothing_fed; host = h; answers = []; ready = [] }

abbrev pub side_of : Side → World → Option LinkSide
side_of First w = Some w.first
side_of Second w = w.second

-- a side changed, where it is there; the rest stays
abbrev pub on_side : Side → (LinkSide → LinkSide) → World → World
on_side First f w = record w { first = f w.first }
on_side Second f w = record w { second = option_map f w.second }

-- ---- room

-- how many bytes there is room for each way
abbrev pub ROOM : ℕ
ROOM = 4096

-- the longest frame
abbrev pub LONGEST : ℕ
LONGEST = 1027

-- there is room for one more answer
abbrev pub is_roomy : LinkSide → Bool
is_roomy s = nat_le (length s.ready + length s.answers + LONGEST) ROOM

-- ---- send: as many bytes as there is room for, and none to a side that there isn't

abbrev pub fitting : List ℕ → Option LinkSide → ℕ
fitting piece None = 0
fitting piece (Some s) = min (length piece) (ROOM - length s.sent)

abbrev pub with_sent : List ℕ → LinkSide → LinkSide
with_sent bytes s = record s { sent = s.sent ++ bytes }

-- ---- bytes reach the nub

-- It takes no byte while a resume is open, nor after bytes that begin no frame, nor without room for an answer.
abbrev pub takes_bytes : LinkSide → Bool
takes_bytes s = is_none s.host.nub.left && (not s.host.nub.blocked && is_roomy s)

-- the frame of a message, if there is one
abbrev pub frame_if : Option Msg → List ℕ
frame_if None = []
frame_if (Some m) = frame_of m

abbrev pub replied : LinkSide → Replied → LinkSide
replied s (reply, h) = record s { host = h; answers = s.answers ++ frame_if reply }

-- what came of a byte: part of a frame, a message, or bytes that begin no frame
abbrev pub after_byte : Conduct → Fed → LinkSide → LinkSide
after_byte c fed.NotYet s = s
after_byte c (fed.Msg m used) s = replied s (c.handles m s.host)
after_byte c (fed.BadFrame at) s = record s { host = blocked s.host }

-- the first byte sent reaches the nub
pub record Reaches (c : Conduct) (s s' : LinkSide) : Type 0 where
  pub byte : ℕ
  pub rest : List ℕ
  pub sent_is : s.sent ≡ byte ∷ rest
  pub answer : Fed
  pub feeding : Feeding
  pub feeds : Feeds s.feeding (byte ∷ []) answer feeding
  pub new_is : s' ≡ after_byte c answer (record s { sent = rest; feeding = feeding })

-- at most n bytes sent reach the nub, fewer only where none are left or it takes no more
pub data Delivers (c : Conduct) : ℕ → LinkSide → LinkSide → Type 0 where
  enough : {s : LinkSide} → Delivers c 0 s s
  none_left : {n : ℕ} {s : LinkSide} → s.sent ≡ [] → Delivers c n s s
  takes_none : {n : ℕ} {s : LinkSide} → takes_bytes s ≡ false → Delivers c n s s
  reaches : {n : ℕ} {s t u : LinkSide} → takes_bytes s ≡ true → Reaches c s t → Delivers c n t u → Delivers c (suc n) s u

-- ---- an entry of a schedule

-- A nub runs at most n instructions, which may give several messages, and none without room for an answer. A message
-- comes after the fewest instructions that give it.
pub data Runs (c : Conduct) : ℕ → LinkSide → LinkSide → Type 0 where
  full : {n : ℕ} {s : LinkSide} → is_roomy s ≡ false → Runs c n s s
  quiet : {n : ℕ} {s : LinkSide} (h : Host) → is_roomy s ≡ true → turn_of c.behaviour n s.host ≡ (None, h) → Runs c n s (record s { host = h })
  tells : {n : ℕ} {s t : LinkSide} (k : ℕ) (m : Msg) (h : Host) → is_roomy s ≡ true → k ≤ n → turn_of c.behaviour k s.host ≡ (Some m, h)
      → ((j : ℕ) → j < k → (turn_of c.behaviour j s.host).0 ≡ None)
      → Runs c (n - k) (record s { host = h; answers = s.answers ++ frame_of m }) t → Runs c n s t

-- at most n bytes of the answers become ready
abbrev pub some_ready : ℕ → LinkSide → LinkSide
some_ready n s = record s { answers = drop n s.answers; ready = s.ready ++ take n s.answers }

-- the side of an entry: bytes reach the nub, it runs, and bytes of its answers become ready
pub record Moves (c : Conduct) (e : Entry) (s s' : LinkSide) : Type 0 where
  pub delivered : LinkSide
  pub ran : LinkSide
  pub delivers : Delivers c e.piece s delivered
  pub runs : Runs c e.instructions delivered ran
  pub new_is : s' ≡ some_ready e.piece ran

abbrev pub EntersSide : Conduct → Entry → Option LinkSide → World → World → Type 0
EntersSide c e None w w' = w' ≡ w
EntersSide c e (Some s) w w' = (t : LinkSide) × Moves c e s t × (w' ≡ on_side e.side (λ _. t) w)

-- an entry is taken; for a side that there isn't it does nothing
abbrev pub Enters : Conduct → Entry → World → World → Type 0
Enters c e w w' = EntersSide c e (side_of e.side w) w w'

-- ---- a wait once the schedule is used up

-- the nub is run until it answers: where it has no answer and a resume is open, to its next message
pub data UntilAnswer (c : Conduct) : LinkSide → LinkSide → Type 0 where
  answered : {s : LinkSide} → s.answers ≢ [] → UntilAnswer c s s
  shut : {s : LinkSide} → s.host.nub.left ≡ None → UntilAnswer c s s
  runs_on : {s : LinkSide} (n : ℕ) (m : Msg) (h : Host) → s.answers ≡ [] → turn_of c.behaviour n s.host ≡ (Some m, h)
      → UntilAnswer c s (record s { host = h; answers = frame_of m })

abbrev pub all_ready : LinkSide → LinkSide
all_ready s = record s { answers = []; ready = s.ready ++ s.answers }

-- all bytes sent are delivered, and the nub is run until it answers
pub record Answers (c : Conduct) (s s' : LinkSide) : Type 0 where
  pub delivered : LinkSide
  pub answered : LinkSide
  pub delivers : Delivers c (length s.sent) s delivered
  pub runs : UntilAnswer c delivered answered
  pub new_is : s' ≡ all_ready answered

-- all answers become ready, and where there are none, those that come
abbrev pub WaitsOut : Conduct → LinkSide → List ℕ → LinkSide → Type 0
WaitsOut c s [] s' = Answers c s s'
WaitsOut c s _ s' = s' ≡ all_ready s

-- ---- receive

-- A wait for a side ends once bytes are ready for it. Until then the entries of the schedule are taken one by one, and
-- behind the last of them all answers become ready.
pub data Waits (c : Conduct) (side : Side) : World → World → Type 0 where
  has_ready : {w : World} (s : LinkSide) → side_of side w ≡ Some s → s.ready ≢ [] → Waits c side w w
  enters : {w v u : World} (s : LinkSide) (e : Entry) (rest : List Entry) → side_of side w ≡ Some s → s.ready ≡ [] → w.schedule ≡ e ∷ rest
      → Enters c e (record w { schedule = rest }) v → Waits c side v u → Waits c side w u
  used_up : {w : World} (s t : LinkSide) → side_of side w ≡ Some s → s.ready ≡ [] → w.schedule ≡ [] → WaitsOut c s s.answers t
      → Waits c side w (on_side side (λ _. t) w)

abbrev pub ready_of : Option LinkSide → List ℕ
ready_of None = []
ready_of (Some s) = s.ready

abbrev pub without_ready : ℕ → LinkSide → LinkSide
without_ready n s = record s { ready = drop n s.ready }

-- after a wait as many bytes that are ready are given as the buffer takes
pub record Gets (c : Conduct) (side : Side) (size : ℕ) (bytes : List ℕ) (w w' : World) : Type 0 where
  pub waited : World
  pub waits : Waits c side w waited
  pub given : bytes ≡ take size (ready_of (side_of side waited))
  pub new_is : w' ≡ on_side side (without_ready size) waited

abbrev pub GetsFrom : Conduct → Side → Option LinkSide → ℕ → List ℕ → World → World → Type 0
GetsFrom c side None size bytes w w' = (bytes ≡ []) × (w' ≡ w)
GetsFrom c side (Some s) zero bytes w w' = (bytes ≡ []) × (w' ≡ w)
GetsFrom c side (Some s) size bytes w w' = Gets c side size bytes w w'

-- what a buffer gets; an empty one gets nothing, nor does one that waits for a side that there isn't
abbrev pub Receives : Conduct → Side → ℕ → List ℕ → World → World → Type 0
Receives c side size bytes w w' = GetsFrom c side (side_of side w) size bytes w w'

-- a link that tells its machines does so before and after
abbrev pub OnWorlds : (World → World → Type 0) → Option World → Option World → Type 0
OnWorlds R None None = Unit {0}
OnWorlds R (Some w) (Some w') = R w w'
OnWorlds R None (Some w) = ⊥
OnWorlds R (Some w) None = ⊥
