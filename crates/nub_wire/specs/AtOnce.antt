-- What a nub at rest answers at once.
use Rattle.std.specs.Prelude.{◌≡◌, ℕ, ◌+◌, ◌^◌, ◌<◌, ◌≤◌, List, length, true, Result, Ok, Err}
use Rattle.ldb_words.specs.declared.event.Outside.{Outside}
use Rattle.machine_state.specs.Regions.{Regions, read_of, write_of}
use Rattle.machine_state.specs.State.{MachineState, Behaviour, order_of, with_input}
use Rattle.machine_state.specs.declared.layout.TheConstants.{CONTEXT}
use Rattle.nub_wire.specs.declared.message.Size.{Size}
use Rattle.nub_wire.specs.declared.message.Msg.{Msg}
use Rattle.nub_wire.specs.declared.message.Msg.TheVariants as msg
use Rattle.machine_state.specs.Sound.{IsMemory}
use Rattle.nub_wire.specs.Spelling.{size_byte, IsChunk}
use Rattle.nub_wire.specs.Replies.{ends_reply}
use Rattle.nub_wire.specs.Nub.{Host, host, handled, fetch_reply}
use Rattle.nub_wire.specs.Delivery.{Conduct, nubs_over, LinkSide}
use Rattle.nub_wire.specs.Rest.{IsAtRest}
use Rattle.nub_wire.specs.Exchange.{RepliesAtOnce}

-- the nubs meet their definition on fetches and stores
pub record MeetsMemory (c : Conduct) : Type 0 where
  pub fetches : (at : ℕ) (s : Size) (h : Host) → c.handles (msg.Fetch at s) h ≡ handled c.behaviour (msg.Fetch at s) h
  pub stores : (at : ℕ) (s : Size) (v : ℕ) (h : Host) → c.handles (msg.Store at s v) h ≡ handled c.behaviour (msg.Store at s v) h

abbrev pub fetch_of : MachineState → ℕ → Size → Msg
fetch_of m at s = fetch_reply (read_of (order_of m) m.memory at (size_byte s))

abbrev pub store_of : MachineState → ℕ → Size → ℕ → Result Regions Outside
store_of m at s v = write_of (order_of m) m.memory at (size_byte s) v

abbrev pub store_reply : Result Regions Outside → Msg
store_reply (Ok r) = msg.Done
store_reply (Err e) = msg.Outside

abbrev pub after_store : Result Regions Outside → Host → Host
after_store (Ok r) h = host h.nub (record h.machine { memory = r })
after_store (Err e) h = h

-- A nub at rest over a machine that holds bytes gives at once what a fetch reads, and nothing changes.
abbrev pub FetchLaw : Conduct → Type 0
FetchLaw c = (side : LinkSide) (at : ℕ) (s : Size) → MeetsMemory c → IsAtRest side → IsMemory side.host.machine.memory → at < 2 ^ 32
    → RepliesAtOnce c (msg.Fetch at s) side.host (fetch_of side.host.machine at s) side.host × (ends_reply (msg.Fetch at s) (fetch_of side.host.machine at s) ≡ true)

-- It does a store, or says Outside, and nothing else changes.
abbrev pub StoreLaw : Conduct → Type 0
StoreLaw c = (side : LinkSide) (at : ℕ) (s : Size) (v : ℕ) → MeetsMemory c → IsAtRest side → at < 2 ^ 32 → v < 2 ^ 32
    → RepliesAtOnce c (msg.Store at s v) side.host (store_reply (store_of side.host.machine at s v)) (after_store (store_of side.host.machine at s v) side.host)
    × (ends_reply (msg.Store at s v) (store_reply (store_of side.host.machine at s v)) ≡ true)

-- ---- nubs that meet their whole definition

-- A nub at rest gives at once the address of its context block; it takes input, up to 16,777,216 bytes in all; and it says
-- Done when it is killed.
pub record ShortLaws (b : Behaviour) : Type 0 where
  pub memory : MeetsMemory (nubs_over b)
  pub hello : (side : LinkSide) → IsAtRest side → RepliesAtOnce (nubs_over b) msg.Hello side.host (msg.Word CONTEXT) side.host
  pub input : (side : LinkSide) (bytes : List ℕ) → IsAtRest side → IsChunk bytes → side.host.machine.given + length bytes ≤ 2 ^ 24
      → RepliesAtOnce (nubs_over b) (msg.Input bytes) side.host msg.Done (host side.host.nub (with_input bytes side.host.machine))
  pub kill : (side : LinkSide) → IsAtRest side → RepliesAtOnce (nubs_over b) msg.Kill side.host msg.Done (host (record side.host.nub { killed = true }) side.host.machine)
