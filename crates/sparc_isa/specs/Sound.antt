-- What holds of every machine of this target that can be reached.
use Rattle.std.specs.Prelude.{◌≡◌, ◌≢◌, ℕ, ◌^◌, ◌<◌, List, length, slice_index}
use Rattle.machine_state.specs.declared.layout.TheConstants.{SPARC}
use Rattle.machine_state.specs.State.{MachineState}
use Rattle.machine_state.specs.Sound.{IsSoundFor}
use Rattle.sparc_isa.specs.Loaded.{REGISTERS}

-- Y, the condition codes, the current window, and the window that has the WIM bit, which is another one
pub record AreSpecial (words : List ℕ) : Type 0 where
  pub four : length words ≡ 4
  pub y_fits : slice_index words 0 < 2 ^ 32
  pub codes_fit : slice_index words 1 < 16
  pub current_fits : slice_index words 2 < 8
  pub invalid_fits : slice_index words 3 < 8
  pub current_valid : slice_index words 2 ≢ slice_index words 3

-- the globals and 8 windows, and `%g0` is 0
abbrev pub IsSound : MachineState → Type 0
IsSound m = IsSoundFor SPARC REGISTERS AreSpecial m
