-- How a message is spelled: the length of what follows in two bytes, a tag, and the payload.
use Rattle.std.specs.Prelude.{ℕ, ◌/◌, ◌%◌, ◌^◌, ◌<◌, ◌≤◌, List, [], ◌∷◌, ◌++◌, length}
use Rattle.ldb_words.specs.declared.event.FaultKind.{FaultKind}
use Rattle.ldb_words.specs.declared.event.FaultKind.TheVariants as kind
use Rattle.machine_state.specs.Sound.{AllBelow}
use Rattle.nub_wire.specs.declared.message.Size.{Size}
use Rattle.nub_wire.specs.declared.message.Size.TheVariants as size
use Rattle.nub_wire.specs.declared.message.Reason.{Reason}
use Rattle.nub_wire.specs.declared.message.Reason.TheVariants as reason
use Rattle.nub_wire.specs.declared.message.Msg.{Msg}
use Rattle.nub_wire.specs.declared.message.Msg.TheVariants as msg

-- four bytes of a number, the highest first
abbrev pub word_bytes : ℕ → List ℕ
word_bytes n = (n / 2 ^ 24) ∷ (n / 2 ^ 16 % 256) ∷ (n / 2 ^ 8 % 256) ∷ (n % 256) ∷ []

abbrev pub size_byte : Size → ℕ
size_byte size.Byte = 1
size_byte size.Word = 4

abbrev pub reason_byte : Reason → ℕ
reason_byte reason.Break = 1
reason_byte reason.Pause = 2

abbrev pub kind_byte : FaultKind → ℕ
kind_byte kind.Hazard = 1
kind_byte kind.Illegal = 2
kind_byte kind.Align = 3
kind_byte kind.Outside = 4
kind_byte kind.Break = 5
kind_byte kind.Division = 6
kind_byte kind.Request = 7
kind_byte kind.Window = 8

-- the tag and the payload
abbrev pub body_of : Msg → List ℕ
body_of msg.Hello = 0x01 ∷ []
body_of (msg.Fetch address s) = 0x02 ∷ (word_bytes address ++ size_byte s ∷ [])
body_of (msg.Store address s value) = 0x03 ∷ (word_bytes address ++ size_byte s ∷ word_bytes value)
body_of (msg.Resume turns) = 0x04 ∷ word_bytes turns
body_of msg.Kill = 0x05 ∷ []
body_of (msg.Input bytes) = 0x06 ∷ bytes
body_of (msg.Word value) = 0x81 ∷ word_bytes value
body_of msg.Done = 0x82 ∷ []
body_of msg.Outside = 0x83 ∷ []
body_of (msg.Stopped why pc) = 0x84 ∷ reason_byte why ∷ word_bytes pc
body_of (msg.Output bytes) = 0x85 ∷ bytes
body_of (msg.Exited status) = 0x86 ∷ word_bytes status
body_of (msg.Faulted fault pc) = 0x87 ∷ kind_byte fault ∷ word_bytes pc
body_of msg.Turns = 0x88 ∷ []
body_of msg.Stack = 0x89 ∷ []

-- the length in two bytes, and the body
abbrev pub framed : List ℕ → List ℕ
framed body = (length body / 256) ∷ (length body % 256) ∷ body

-- the one spelling of a message
unfoldable pub frame_of : Msg → List ℕ
frame_of m = framed (body_of m)

-- each is a byte
abbrev pub AllBytes : List ℕ → Type 0
AllBytes bytes = AllBelow 256 bytes

-- 1 to 1,024 bytes
pub record IsChunk (bytes : List ℕ) : Type 0 where
  pub some : 1 ≤ length bytes
  pub fits : length bytes ≤ 1024
  pub each : AllBytes bytes

-- the numbers and bytes of a message fit
abbrev pub MsgFits : Msg → Type 0
MsgFits msg.Hello = Unit {0}
MsgFits (msg.Fetch address s) = address < 2 ^ 32
MsgFits (msg.Store address s value) = (address < 2 ^ 32) × (value < 2 ^ 32)
MsgFits (msg.Resume turns) = turns < 2 ^ 32
MsgFits msg.Kill = Unit {0}
MsgFits (msg.Input bytes) = IsChunk bytes
MsgFits (msg.Word value) = value < 2 ^ 32
MsgFits msg.Done = Unit {0}
MsgFits msg.Outside = Unit {0}
MsgFits (msg.Stopped why pc) = pc < 2 ^ 32
MsgFits (msg.Output bytes) = IsChunk bytes
MsgFits (msg.Exited status) = status < 2 ^ 32
MsgFits (msg.Faulted fault pc) = pc < 2 ^ 32
MsgFits msg.Turns = Unit {0}
MsgFits msg.Stack = Unit {0}
