-- What a debugger hears of a nub that was neither killed nor met bytes that begin no frame.
use Rattle.std.specs.Prelude.{◌≡◌, ℕ, ◌+◌, ◌^◌, ◌<◌, ◌≤◌, List, [], length, Option, None, Some, Ok}
use Rattle.machine_state.specs.State.{MachineState, order_of}
use Rattle.machine_state.specs.Regions.{read_of}
use Rattle.nub_wire.specs.declared.message.Msg.{Msg}
use Rattle.nub_wire.specs.declared.message.Msg.TheVariants as msg
use Rattle.nub_wire.specs.declared.reply.Heard.{Heard}
use Rattle.nub_wire.specs.declared.reply.Heard.TheVariants.{Ends, GoesOn, Bad}
use Rattle.nub_wire.specs.Nub.{NubState, Replied}
use Rattle.nub_wire.specs.Replies.{heard}

-- The output that was told, that which is gathered, and the turns left are no more than the turns of the resume.
abbrev pub AreWithin : ℕ → ℕ → Option ℕ → List ℕ → Type 0
AreWithin turns printed None output = ⊥
AreWithin turns printed (Some left) output = printed + length output + left ≤ turns

-- a resume of so many turns is open, of which so many bytes of output were told
abbrev pub IsWithin : ℕ → ℕ → NubState → Type 0
IsWithin turns printed nub = AreWithin turns printed nub.left nub.output

-- no resume is open, and no output is left of an earlier one
pub record IsShut (nub : NubState) : Type 0 where
  pub none_open : nub.left ≡ None
  pub none_left : nub.output ≡ []

-- what is heard is right, and the nub after it goes on or is shut
abbrev pub IsHeard : ℕ → Heard → NubState → Type 0
IsHeard turns Ends nub = IsShut nub
IsHeard turns (GoesOn printed) nub = IsWithin turns printed nub
IsHeard turns Bad nub = ⊥

-- what a nub gives in a resume of so many turns, of which so many bytes of output were told
abbrev pub Resumes : ℕ → ℕ → Replied → Type 0
Resumes turns printed (None, h) = IsWithin turns printed h.nub
Resumes turns printed (Some r, h) = IsHeard turns (heard (msg.Resume turns) printed r) h.nub

-- ---- other messages

-- a byte that is read is below 256
abbrev pub GivesBytes : MachineState → Type 0
GivesBytes m = (at value : ℕ) → read_of (order_of m) m.memory at 1 ≡ Ok value → value < 256

-- what a debugger may ask a nub: its own messages, and no more input than a machine gets in all
abbrev pub MayAsk : Msg → MachineState → Type 0
MayAsk (msg.Input bytes) m = m.given + length bytes ≤ 2 ^ 24
MayAsk msg.Hello m = Unit {0}
MayAsk (msg.Fetch address s) m = Unit {0}
MayAsk (msg.Store address s value) m = Unit {0}
MayAsk (msg.Resume turns) m = Unit {0}
MayAsk msg.Kill m = Unit {0}
MayAsk _ m = ⊥

-- what is heard at once ends the reply, and the nub is shut; only a resume's reply may come later
abbrev pub IsAnswered : Msg → Replied → Type 0
IsAnswered asked (Some r, h) = (heard asked 0 r ≡ Ends) × IsShut h.nub
IsAnswered (msg.Resume turns) (None, h) = IsWithin turns 0 h.nub
IsAnswered asked (None, h) = ⊥
