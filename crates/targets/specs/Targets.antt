-- Machines of both targets: what they do by the target byte in their record, and the machine that an image starts.
use Rattle.std.specs.Prelude.{◌≡◌, ℕ, Bool, true, false, nat_eq, if◌then◌else◌, List, Option, Some, None, Result, Ok, Err}
use Rattle.machine_state.specs.State.{MachineState, Behaviour}
use Rattle.machine_state.specs.declared.layout.TheConstants.{SPARC}
use Rattle.mips_isa.specs.Loaded as mips
use Rattle.mips_isa.specs.Sound as mips_sound
use Rattle.sparc_isa.specs.Loaded as sparc
use Rattle.sparc_isa.specs.Sound as sparc_sound
use Rattle.obj_file.specs.Image.{ImageFields, image_bytes, first_wrong}

-- what machines of a target do
abbrev pub behaviour_of : (target : ℕ) → Behaviour
behaviour_of target = if nat_eq target SPARC then sparc.sparc_behaviour else mips.mips_behaviour

-- what machines do, each by the target in its record
abbrev pub machine_behaviour : Behaviour
machine_behaviour = record {
  next = λ m. (behaviour_of m.target).next m;
  saved = λ m. (behaviour_of m.target).saved m;
  restored = λ m. (behaviour_of m.target).restored m;
  argument = λ m. (behaviour_of m.target).argument m;
}

-- the machine of an image at its start
unfoldable pub loaded : ImageFields → MachineState
loaded i = if nat_eq i.target SPARC then sparc.first_state i.entry i.text i.statics else mips.first_state i.entry i.text i.statics

-- an image's bytes give the machine at its start, or are malformed at an offset
abbrev pub Loads : List ℕ → Result MachineState ℕ → Type 0
Loads bytes (Ok m) = (i : ImageFields) × (first_wrong bytes ≡ None) × (bytes ≡ image_bytes i) × (m ≡ loaded i)
Loads bytes (Err at) = first_wrong bytes ≡ Some at

-- what holds of every machine that can be reached, by its target
abbrev pub by_target : Bool → Type 0 → Type 0 → Type 0
by_target true on_sparc on_mips = on_sparc
by_target false on_sparc on_mips = on_mips

abbrev pub IsSound : MachineState → Type 0
IsSound m = by_target (nat_eq m.target SPARC) (sparc_sound.IsSound m) (mips_sound.IsSound m)
