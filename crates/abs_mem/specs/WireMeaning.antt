-- What the memory behind a link means.
use Rattle.std.proofs.Common.{◌∙◌, subst}
use Rattle.std.specs.Prelude.{◌≡◌, refl, ℕ, List, Option, Some, None, Result, Ok, Err}
use Rattle.ldb_words.specs.declared.kinds.Order.{Order}
use Rattle.ldb_words.specs.declared.kinds.Kind.{Kind}
use Rattle.ldb_words.specs.declared.kinds.Kind.TheVariants.{Byte, Word, Address}
use Rattle.machine_state.specs.State.{MachineState, order_of}
use Rattle.nub_wire.specs.declared.link.Side.{Side}
use Rattle.nub_wire.specs.declared.message.Size.{Size}
use Rattle.nub_wire.specs.declared.message.Size.TheVariants as size
use Rattle.nub_wire.specs.declared.message.Msg.{Msg}
use Rattle.nub_wire.specs.declared.message.Msg.TheVariants as msg
use Rattle.nub_wire.specs.Nub.{NubState, Host}
use Rattle.nub_wire.specs.Delivery.{Conduct, LinkSide, World, side_of}
use Rattle.nub_wire.specs.Rest.{IsIdle, IsAtRest, other}
use Rattle.nub_wire.specs.Calls.{Asks, BadReply as BadlyReplied, took_on, gave_on}
use Rattle.nub_wire.specs.AtOnce.{MeetsMemory}
use Rattle.machine_state.specs.Sound.{IsMemory}
use Rattle.wire_talk.specs.declared.fault.TalkFault.{TalkFault}
use Rattle.wire_talk.specs.declared.fault.TalkFault.TheVariants as talk
use Rattle.frame_bytes.specs.declared.frame.Place.{Place}
use Rattle.frame_bytes.specs.Bytes.{Bytes, no_regions, no_places}
use Rattle.abs_mem.specs.Meaning.{Seen}
use Rattle.abs_mem.specs.declared.memory.MemFault.{MemFault}
use Rattle.abs_mem.specs.declared.memory.MemFault.TheVariants.{Outside, LinkFault, BadReply}

-- What a fetch or store leaves: the side and the order, the nub and the machine but for its memory, and the other side's
-- nub and machine where that side is idle.
pub record WireRest : Type 0 where
  pub side : Side
  pub order : Order
  pub nub : NubState
  pub machine : MachineState
  pub beside : Option Host

-- a nub and machine that are named are those of the other side, which is idle
abbrev pub IsBeside : Option LinkSide → Option Host → Type 0
IsBeside o None = Unit {0}
IsBeside None (Some h) = ⊥
IsBeside (Some s) (Some h) = IsIdle s × (s.host ≡ h)

-- the memory of a machine alone: no register's word, and no cell
abbrev pub memory_of : MachineState → Bytes
memory_of m = record { order = order_of m; regions = m.memory; registers = no_places; cell = None }

abbrev pub rest_of : Side → Order → Host → Option Host → WireRest
rest_of side order h beside = record { side = side; order = order; nub = h.nub; machine = record h.machine { memory = no_regions }; beside = beside }

-- The link tells its machines; its nubs meet their definition on fetches and stores; the side is at rest; its machine
-- holds bytes; and the order is that of the target.
pub record WireTells (c : Conduct) (o : Option World) (side : Side) (order : Order) (b : Bytes) (r : WireRest) : Type 0 where
  pub meets : MeetsMemory c
  pub world : World
  pub told : o ≡ Some world
  pub now : LinkSide
  pub there : side_of side world ≡ Some now
  pub rest : IsAtRest now
  pub holds : IsMemory now.host.machine.memory
  pub order_is : order ≡ order_of now.host.machine
  pub bytes_are : b ≡ memory_of now.host.machine
  pub rest_is : r ≡ rest_of side order now.host r.beside
  pub beside : IsBeside (side_of (other side) world) r.beside

abbrev pub wire_seen : Conduct → Option World → ℕ → Side → Order → Seen WireRest
wire_seen c o faults side order = record { faults = faults; tells = WireTells c o side order }

-- ---- its calls

-- exchanges, one after another, of which the last may be bad
pub data Exchanges {S : Type 0} (took : S → List ℕ → ℕ → S → Type 0) (gave : S → ℕ → List ℕ → S → Type 0) : S → Option (List ℕ) → S → Type 0 where
  none_more : {s : S} → Exchanges took gave s None s
  asks : {s t u : S} {o : Option (List ℕ)} (m r : Msg) → Asks took gave m r s t → Exchanges took gave t o u → Exchanges took gave s o u
  badly : {s u : S} {frame : List ℕ} (m : Msg) → BadlyReplied took gave m s frame u → Exchanges took gave s (Some frame) u

-- calls go on after calls of which none was bad
pub go_on : {S : Type 0} {took : S → List ℕ → ℕ → S → Type 0} {gave : S → ℕ → List ℕ → S → Type 0} {a b c : S} {n o : Option (List ℕ)} → Exchanges took gave a n b → n ≡ None
    → Exchanges took gave b o c → Exchanges took gave a o c
go_on none_more e more = more
go_on (asks m r ask rest) e more = asks m r ask (go_on rest e more)
go_on (badly m bad) e more = cc

-- exchanges on the side of a wire led from its link to another
pub record WireLeads {S : Type 0} (took : S → Side → List ℕ → ℕ → S → Type 0) (gave : S → Side → ℕ → List ℕ → S → Type 0) (s : S) (side : Side) (o : Option (List ℕ)) (s' : S) (side' : Side) : Type 0 where
  pub side_is : side' ≡ side
  pub calls : Exchanges (took_on took side) (gave_on gave side) s o s'

pub wire_stays : {S : Type 0} (took : S → Side → List ℕ → ℕ → S → Type 0) (gave : S → Side → ℕ → List ℕ → S → Type 0) (s : S) (side : Side) → WireLeads took gave s side None s side
wire_stays took gave s side = record { side_is = refl; calls = none_more }

pub wire_goes_on : {S : Type 0} (took : S → Side → List ℕ → ℕ → S → Type 0) (gave : S → Side → ℕ → List ℕ → S → Type 0) (a b c : S) (x y z : Side) (o : Option (List ℕ))
    → WireLeads took gave a x None b y → WireLeads took gave b y o c z → WireLeads took gave a x o c z
wire_goes_on took gave a b c x y z o h k =
    record { side_is = k.side_is ∙ h.side_is; calls = go_on h.calls refl (subst (λ (s : Side). Exchanges (took_on took s) (gave_on gave s) b o c) h.side_is k.calls) }

-- ---- messages

abbrev pub size_of : Kind → Size
size_of Byte = size.Byte
size_of Word = size.Word
size_of Address = size.Word

-- what a fetch answers, by the reply
abbrev pub fetched_by : Place → Result Msg TalkFault → Result ℕ MemFault
fetched_by p (Ok (msg.Word v)) = Ok v
fetched_by p (Ok _) = Err (Outside p)
fetched_by p (Err talk.LinkFault) = Err LinkFault
fetched_by p (Err (talk.BadReply frame)) = Err (BadReply frame)

-- what a store answers
abbrev pub stored_by : Place → Result Msg TalkFault → Result Unit MemFault
stored_by p (Ok msg.Done) = Ok tt
stored_by p (Ok _) = Err (Outside p)
stored_by p (Err talk.LinkFault) = Err LinkFault
stored_by p (Err (talk.BadReply frame)) = Err (BadReply frame)
