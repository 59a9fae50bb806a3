-- Machines of both targets stay sound.
use Rattle.std.proofs.Common.{◌≡◌, refl, ap, ℕ, ◌+◌, ◌^◌, ◌≤◌, ◌<◌, nat_eq, Bool, true, false, if◌then◌else◌, List, length, None, arith}
use Rattle.machine_state.specs.Regions.{write_of}
use Rattle.machine_state.specs.State.{MachineState, Behaviour, order_of, with_memory, given_input}
use Rattle.machine_state.specs.declared.layout.TheConstants.{SPARC, DATA_SIZE}
use Rattle.machine_state.specs.Sound.{AreBytes, IsWidth, Keeps, MayBegin}
use Rattle.mips_isa.specs.Loaded as mips
use Rattle.mips_isa.specs.Sound as mips_sound
use Rattle.mips_isa.proofs.Sound as mips_law
use Rattle.sparc_isa.specs.Loaded as sparc
use Rattle.sparc_isa.specs.Sound as sparc_sound
use Rattle.sparc_isa.proofs.Sound as sparc_law
use Rattle.obj_file.specs.Image.{ImageFields, IsImage}
use Rattle.targets.specs.Targets.{behaviour_of, machine_behaviour, loaded, by_target, IsSound}

chosen_first : (b : Bool) (A B : Type 0) → b ≡ true → A → by_target b A B
chosen_first true A B e x = x
chosen_first false A B e x = cc

chosen_second : (b : Bool) (A B : Type 0) → b ≡ false → B → by_target b A B
chosen_second true A B e x = cc
chosen_second false A B e x = x

of_sparc : (m : MachineState) → sparc_sound.IsSound m → IsSound m
of_sparc m s = chosen_first (nat_eq m.target SPARC) _ _ (ap (λ (t : ℕ). nat_eq t SPARC) s.target_is) s

of_mips : (m : MachineState) → mips_sound.IsSound m → IsSound m
of_mips m s = chosen_second (nat_eq m.target SPARC) _ _ (ap (λ (t : ℕ). nat_eq t SPARC) s.target_is) s

-- what is done to a machine of either target
abbrev Of : Bool → MachineState → Type 0
Of b m = by_target b (sparc_sound.IsSound m) (mips_sound.IsSound m)

abbrev behaviour_by : Bool → Behaviour
behaviour_by b = if b then sparc.sparc_behaviour else mips.mips_behaviour

next_by : (b : Bool) (m : MachineState) → Of b m → IsSound ((behaviour_by b).next m).1
next_by true m s = of_sparc _ (sparc_law.keeps_sound.next m s)
next_by false m s = of_mips _ (mips_law.keeps_sound.next m s)

saved_by : (b : Bool) (m : MachineState) → Of b m → IsSound ((behaviour_by b).saved m).1
saved_by true m s = of_sparc _ (sparc_law.keeps_sound.saved m s)
saved_by false m s = of_mips _ (mips_law.keeps_sound.saved m s)

restored_by : (b : Bool) (m : MachineState) → Of b m → IsSound ((behaviour_by b).restored m)
restored_by true m s = of_sparc _ (sparc_law.keeps_sound.restored m s)
restored_by false m s = of_mips _ (mips_law.keeps_sound.restored m s)

argument_by : (b : Bool) (m : MachineState) → Of b m → (behaviour_by b).argument m < 2 ^ 32
argument_by true m s = sparc_law.keeps_sound.argument m s
argument_by false m s = mips_law.keeps_sound.argument m s

written_by : (b : Bool) (m : MachineState) (at width value : ℕ) → IsWidth width → Of b m → IsSound (with_memory (write_of (order_of m) m.memory at width value) m).1
written_by true m at width value w s = of_sparc _ (sparc_law.keeps_sound.written m at width value w s)
written_by false m at width value w s = of_mips _ (mips_law.keeps_sound.written m at width value w s)

given_by : (b : Bool) (m : MachineState) (bytes : List ℕ) → AreBytes bytes → Of b m → IsSound (given_input bytes m).1
given_by true m bytes h s = of_sparc _ (sparc_law.keeps_sound.given m bytes h s)
given_by false m bytes h s = of_mips _ (mips_law.keeps_sound.given m bytes h s)

taken_by : (b : Bool) (m : MachineState) → Of b m → IsSound (record m { put = None })
taken_by true m s = of_sparc _ (sparc_law.keeps_sound.taken m s)
taken_by false m s = of_mips _ (mips_law.keeps_sound.taken m s)

pub keeps_sound : Keeps IsSound machine_behaviour
keeps_sound = record {
  next = λ (m : MachineState) (s : IsSound m). next_by (nat_eq m.target SPARC) m s;
  saved = λ (m : MachineState) (s : IsSound m). saved_by (nat_eq m.target SPARC) m s;
  restored = λ (m : MachineState) (s : IsSound m). restored_by (nat_eq m.target SPARC) m s;
  written = λ (m : MachineState) (at width value : ℕ) (w : IsWidth width) (s : IsSound m). written_by (nat_eq m.target SPARC) m at width value w s;
  given = λ (m : MachineState) (bytes : List ℕ) (h : AreBytes bytes) (s : IsSound m). given_by (nat_eq m.target SPARC) m bytes h s;
  taken = λ (m : MachineState) (s : IsSound m). taken_by (nat_eq m.target SPARC) m s;
  argument = λ (m : MachineState) (s : IsSound m). argument_by (nat_eq m.target SPARC) m s;
}

first_by : (b : Bool) (entry : ℕ) (text statics : List ℕ) → MayBegin entry text statics → IsSound (if b then sparc.first_state entry text statics else mips.first_state entry text statics)
first_by true entry text statics h = of_sparc _ (sparc_law.first_sound entry text statics h)
first_by false entry text statics h = of_mips _ (mips_law.first_sound entry text statics h)

pub first_sound : (i : ImageFields) → IsImage i → AreBytes i.text → AreBytes i.statics → IsSound (loaded i)
unfolding loaded
first_sound i h t d =
    let fits : i.entry < 2 ^ 32 = omega (arith, h.entry_below, h.most_text) in
    first_by (nat_eq i.target SPARC) i.entry i.text i.statics (record { entry_fits = fits; text_bytes = t; text_fits = h.most_text; static_bytes = d; statics_fit = h.most_data })
