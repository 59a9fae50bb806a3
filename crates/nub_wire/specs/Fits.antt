-- What a nub tells of its machine fits its messages.
use Rattle.std.specs.Prelude.{ℕ, ◌^◌, ◌<◌, List, Option, None, Some}
use Rattle.machine_state.specs.State.{MachineState, Behaviour, order_of, with_memory, given_input}
use Rattle.machine_state.specs.Regions.{write_of}
use Rattle.machine_state.specs.Sound.{AreBytes, IsMemory, IsByteIfAny, IsWidth}
use Rattle.nub_wire.specs.declared.message.Ending.{Ending}
use Rattle.nub_wire.specs.Endings.{reply_of}
use Rattle.nub_wire.specs.Spelling.{MsgFits}
use Rattle.nub_wire.specs.Nub.{Host}

-- the machines that can be reached from one by what is done to a machine
pub data Reached (b : Behaviour) (m : MachineState) : MachineState → Type 0 where
  begins : Reached b m m
  stepped : {n : MachineState} → Reached b m n → Reached b m (b.next n).1
  saved : {n : MachineState} → Reached b m n → Reached b m (b.saved n).1
  restored : {n : MachineState} → Reached b m n → Reached b m (b.restored n)
  taken : {n : MachineState} → Reached b m n → Reached b m (record n { put = None })
  stored : {n : MachineState} (at width value : ℕ) → IsWidth width → Reached b m n → Reached b m (with_memory (write_of (order_of n) n.memory at width value) n).1
  given : {n : MachineState} (bytes : List ℕ) → AreBytes bytes → Reached b m n → Reached b m (given_input bytes n).1

-- its memory holds bytes, what it put is a byte, and the argument of its last request is a word
pub record TellsWords (b : Behaviour) (m : MachineState) : Type 0 where
  pub memory : IsMemory m.memory
  pub put : IsByteIfAny m.put
  pub argument : b.argument m < 2 ^ 32

-- so it is of each machine that can be reached from it
abbrev pub AlwaysTellsWords : Behaviour → MachineState → Type 0
AlwaysTellsWords b m = (n : MachineState) → Reached b m n → TellsWords b n

abbrev pub EndFits : Option Ending → Type 0
EndFits None = Unit {0}
EndFits (Some e) = MsgFits (reply_of e)

-- and the end that a nub has kept fits its message
pub record TellsFitting (b : Behaviour) (h : Host) : Type 0 where
  pub machine : AlwaysTellsWords b h.machine
  pub ended : EndFits h.nub.ended
