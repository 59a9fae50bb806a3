-- What holds of every machine that can be reached, whichever its target.
use Rattle.std.specs.Prelude.{◌≡◌, ℕ, ◌^◌, ◌<◌, ◌≤◌, ◌⊎◌, List, [], ◌∷◌, length, slice_index, Option, Some, None}
use Rattle.machine_state.specs.declared.layout.TheConstants.{DATA_SIZE, STACK_SIZE, CONTEXT_SIZE}
use Rattle.machine_state.specs.Regions.{Regions, write_of}
use Rattle.machine_state.specs.State.{MachineState, Behaviour, order_of, with_memory, given_input}

-- each number is below a bound
abbrev pub AllBelow : ℕ → List ℕ → Type 0
AllBelow bound [] = Unit {0}
AllBelow bound (x ∷ xs) = (x < bound) × AllBelow bound xs

abbrev pub AreBytes : List ℕ → Type 0
AreBytes bytes = AllBelow 256 bytes

-- so many bytes
pub record IsRegion (size : ℕ) (bytes : List ℕ) : Type 0 where
  pub size_is : length bytes ≡ size
  pub each : AreBytes bytes

-- the regions have their sizes, the text the one that its image gave it, and hold bytes
pub record IsMemory (r : Regions) : Type 0 where
  pub text : AreBytes r.text_bytes
  pub text_fits : length r.text_bytes ≤ 2 ^ 24
  pub statics : IsRegion DATA_SIZE r.data_bytes
  pub stack : IsRegion STACK_SIZE r.stack_bytes
  pub context : IsRegion CONTEXT_SIZE r.context_bytes

-- so many words, of which the first is 0
pub record AreRegisters (count : ℕ) (words : List ℕ) : Type 0 where
  pub count_is : length words ≡ count
  pub each : AllBelow (2 ^ 32) words
  pub zero_register : slice_index words 0 ≡ 0

-- the input that is left is of what was given, at most 16,777,216 bytes
pub record IsInput (left : List ℕ) (given : ℕ) : Type 0 where
  pub each : AreBytes left
  pub within : length left ≤ given
  pub fits : given ≤ 2 ^ 24

abbrev pub IsByteIfAny : Option ℕ → Type 0
IsByteIfAny None = Unit {0}
IsByteIfAny (Some b) = b < 256

-- a machine of a target with so many general registers, of whose other words this holds
pub record IsSoundFor (target count : ℕ) (AreSpecial : List ℕ → Type 0) (m : MachineState) : Type 0 where
  pub target_is : m.target ≡ target
  pub registers : AreRegisters count m.registers
  pub special : AreSpecial m.special
  pub pc_fits : m.pc < 2 ^ 32
  pub next_pc_fits : m.next_pc < 2 ^ 32
  pub memory : IsMemory m.memory
  pub input : IsInput m.left m.given
  pub put_fits : IsByteIfAny m.put

-- an entry, a text and the bytes that the data begin with, as an image has them
pub record MayBegin (entry : ℕ) (text statics : List ℕ) : Type 0 where
  pub entry_fits : entry < 2 ^ 32
  pub text_bytes : AreBytes text
  pub text_fits : length text ≤ 2 ^ 24
  pub static_bytes : AreBytes statics
  pub statics_fit : length statics ≤ DATA_SIZE

-- the widths of accesses
abbrev pub IsWidth : ℕ → Type 0
IsWidth n = (n ≡ 1) ⊎ ((n ≡ 2) ⊎ (n ≡ 4))

-- whatever is done to a machine keeps it so: a step, a save, a restore, a write into its memory, input, and taking the byte
-- that was put
pub record Keeps (IsSound : MachineState → Type 0) (b : Behaviour) : Type 0 where
  pub next : (m : MachineState) → IsSound m → IsSound (b.next m).1
  pub saved : (m : MachineState) → IsSound m → IsSound (b.saved m).1
  pub restored : (m : MachineState) → IsSound m → IsSound (b.restored m)
  pub written : (m : MachineState) (at width value : ℕ) → IsWidth width → IsSound m → IsSound (with_memory (write_of (order_of m) m.memory at width value) m).1
  pub given : (m : MachineState) (bytes : List ℕ) → AreBytes bytes → IsSound m → IsSound (given_input bytes m).1
  pub taken : (m : MachineState) → IsSound m → IsSound (record m { put = None })
  pub argument : (m : MachineState) → IsSound m → b.argument m < 2 ^ 32
