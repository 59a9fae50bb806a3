-- What is behind a near link: nubs over machines of both targets.
use Rattle.std.specs.Prelude.{◌≡◌, ℕ, List, [], ◌∷◌, Option, Some, None}
use Rattle.machine_state.specs.State.{MachineState}
use Rattle.obj_file.specs.Image.{ImageFields}
use Rattle.nub_wire.specs.declared.link.Entry.{Entry}
use Rattle.nub_wire.specs.Nub.{first_host}
use Rattle.nub_wire.specs.Delivery.{Conduct, nubs_over, LinkSide, World, first_side}
use Rattle.nub_wire.specs.Rest.{IsFresh}
use Rattle.targets.specs.Targets.{machine_behaviour, loaded, IsSound}
use Rattle.near_link.specs.declared.machine.NearMachine.{NearMachine}
use Rattle.near_link.specs.declared.machine.NearMachine.TheVariants.{Mips, Sparc}

-- the record of a machine, whichever its target
abbrev pub machine_in : NearMachine → MachineState
machine_in (Mips m) = m
machine_in (Sparc m) = m

-- nubs over machines of both targets
abbrev pub near_conduct : Conduct
near_conduct = nubs_over machine_behaviour

-- a fresh side of the machine of an image
abbrev pub BeginsSide : ImageFields → LinkSide → Type 0
BeginsSide i s = IsFresh machine_behaviour (loaded i) s × IsSound s.host.machine

-- a link begins with a fresh side of each of one or two images, and a schedule
abbrev pub Begins : List ImageFields → List Entry → World → Type 0
Begins (i ∷ []) schedule w = BeginsSide i w.first × (w.second ≡ None) × (w.schedule ≡ schedule)
Begins (i ∷ j ∷ []) schedule w = BeginsSide i w.first × ((s : LinkSide) × (w.second ≡ Some s) × BeginsSide j s) × (w.schedule ≡ schedule)
Begins _ schedule w = ⊥
