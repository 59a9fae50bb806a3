-- What nubs tell of sound machines fits their messages.
use Rattle.std.proofs.Common.{◌≡◌, refl, sym, subst, ℕ, ◌^◌, ◌<◌, nat_eq, Bool, true, false, List, [], None}
use Rattle.machine_state.specs.State.{MachineState}
use Rattle.machine_state.specs.Sound.{IsMemory, IsByteIfAny}
use Rattle.machine_state.specs.declared.layout.TheConstants.{SPARC}
use Rattle.mips_isa.specs.Sound as mips_sound
use Rattle.sparc_isa.specs.Sound as sparc_sound
use Rattle.obj_file.specs.Image.{ImageFields}
use Rattle.targets.specs.Targets.{machine_behaviour, loaded, by_target, IsSound}
use Rattle.targets.proofs.Sound.{keeps_sound}
use Rattle.nub_wire.specs.Nub.{first_host}
use Rattle.nub_wire.specs.Delivery.{LinkSide, first_side}
use Rattle.nub_wire.specs.Rest.{IsAtRest}
use Rattle.nub_wire.specs.Fits.{Reached, begins, stepped, saved, restored, taken, stored, given, TellsWords, AlwaysTellsWords, TellsFitting}
use Rattle.near_link.specs.Near.{BeginsSide}
use Rattle.near_link.specs.Fitting.{IsReady, SoundMachinesTellWords, FreshSidesAreReady}

reached_sound : {m n : MachineState} → IsSound m → Reached machine_behaviour m n → IsSound n
reached_sound s begins = s
reached_sound s (stepped {n = n} x) = keeps_sound.next n (reached_sound s x)
reached_sound s (saved {n = n} x) = keeps_sound.saved n (reached_sound s x)
reached_sound s (restored {n = n} x) = keeps_sound.restored n (reached_sound s x)
reached_sound s (taken {n = n} x) = keeps_sound.taken n (reached_sound s x)
reached_sound s (stored {n = n} at width value w x) = keeps_sound.written n at width value w (reached_sound s x)
reached_sound s (given {n = n} bytes each x) = keeps_sound.given n bytes each (reached_sound s x)

memory_by : (b : Bool) (m : MachineState) → by_target b (sparc_sound.IsSound m) (mips_sound.IsSound m) → IsMemory m.memory
memory_by true m s = s.memory
memory_by false m s = s.memory

put_by : (b : Bool) (m : MachineState) → by_target b (sparc_sound.IsSound m) (mips_sound.IsSound m) → IsByteIfAny m.put
put_by true m s = s.put_fits
put_by false m s = s.put_fits

pub sound_tells_words : SoundMachinesTellWords
sound_tells_words m s n r =
    let t : IsSound n = reached_sound s r in
    record { memory = memory_by (nat_eq n.target SPARC) n t; put = put_by (nat_eq n.target SPARC) n t; argument = keeps_sound.argument n t }

fresh_rests : (m : MachineState) → IsAtRest (first_side (first_host machine_behaviour m))
fresh_rests m = record {
  idle = record { none_sent = refl; none_begun = refl; good = refl; none_answered = refl; none_ready = refl; none_open = refl; takes = refl };
  lives = refl;
  none_gathered = refl;
}

fresh_fits : (m : MachineState) → IsSound (first_host machine_behaviour m).machine → TellsFitting machine_behaviour (first_host machine_behaviour m)
fresh_fits m s = record { machine = sound_tells_words (first_host machine_behaviour m).machine s; ended = tt }

pub fresh_ready : FreshSidesAreReady
fresh_ready i s x =
    let sound : IsSound (first_host machine_behaviour (loaded i)).machine = subst (λ (y : LinkSide). IsSound y.host.machine) x.0.side_is x.1 in
    subst IsReady (sym x.0.side_is) (record { rests = fresh_rests (loaded i); fitting = fresh_fits (loaded i) sound })
