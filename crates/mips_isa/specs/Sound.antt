-- What holds of every machine of this target that can be reached.
use Rattle.std.specs.Prelude.{◌≡◌, ℕ, ◌^◌, List, length}
use Rattle.machine_state.specs.declared.layout.TheConstants.{MIPS}
use Rattle.machine_state.specs.State.{MachineState}
use Rattle.machine_state.specs.Sound.{AllBelow, IsSoundFor}

-- HI and LO
abbrev pub AreHiLo : List ℕ → Type 0
AreHiLo words = (length words ≡ 2) × AllBelow (2 ^ 32) words

-- 32 registers, of which `$0` is 0
abbrev pub IsSound : MachineState → Type 0
IsSound m = IsSoundFor MIPS 32 AreHiLo m
