-- How a session begins: what is known of the nubs and the tables before it, and what it has then.
use Rattle.std.specs.Prelude.{◌≡◌, ℕ, List, codes, bytes_eq, if◌then◌else◌, Option, Some, None, Result, Ok, Err}
use Rattle.ldb_edge.specs.Count.{Rose}
use Rattle.machine_state.specs.declared.layout.TheConstants.{MIPS, SPARC}
use Rattle.machine_state.specs.State.{MachineState, Behaviour, given_input, with_input}
use Rattle.nub_wire.specs.declared.link.Side.{Side}
use Rattle.nub_wire.specs.declared.link.Side.TheVariants.{First, Second}
use Rattle.nub_wire.specs.Nub.{Host, host, first_host}
use Rattle.nub_wire.specs.Delivery.{Conduct, World}
use Rattle.resuming.specs.Standing.{Stands}
use Rattle.ps_store.specs.declared.object.Part.TheVariants.{Command}
use Rattle.ps_store.specs.declared.object.StringId.{StringId}
use Rattle.ps_store.specs.StoreState.{StoreState}
use Rattle.ps_store.specs.Store.{bytes_of}
use Rattle.ps_step.specs.Results.{◌>>=◌}
use Rattle.table_model.specs.Reading.{Walked, top_of, string_at}
use Rattle.claims.specs.Side.{SessionState, first_side, first_session}
use Rattle.side_meaning.specs.Standing.{no_objects}
use Rattle.side_meaning.specs.Sessions.{IsNew}
use Rattle.session.specs.declared.answers.StartFault.{StartFault}
use Rattle.session.specs.declared.answers.StartFault.TheVariants.{Target, NoMemory}
use Rattle.session.specs.declared.sides.SideRecord.{SideRecord}
use Rattle.session.specs.Meant.{IsThere, debugged}

-- the target that a table names: SPARC, or else MIPS
abbrev pub target_by : StoreState → Walked StringId → ℕ
target_by s (Ok name) = if bytes_eq (bytes_of s name) (codes "sparc") then SPARC else MIPS
target_by s (Err lack) = MIPS

abbrev pub named_target : StoreState → Walked StringId
named_target s = top_of s >>= λ top. string_at s top (codes "target")

abbrev pub target_in : StoreState → ℕ
target_in s = target_by s (named_target s)

-- A nub that had no message is there with the saved machine of its image, to which no input was given. The machine is of the table's
-- target, and nothing of a command is in the table.
pub record IsFirst (b : Behaviour) (c : Conduct) (o : Option World) (side : Side) (m : MachineState) (beside : Option Host) (table : StoreState) : Type 0 where
  pub stands : Stands b c side o (first_host b m) beside
  pub none_given : (b.saved m).1.given ≡ 0
  pub target : target_in table ≡ (b.saved m).1.target
  pub nothing : table.command ≡ no_objects

-- two of them on one link, each beside the other
pub record AreFirst (b : Behaviour) (c : Conduct) (o : Option World) (m n : MachineState) (table other : StoreState) : Type 0 where
  pub first : IsFirst b c o First m (Some (first_host b n)) table
  pub second : IsFirst b c o Second n (Some (first_host b m)) other

-- the nub and machine once this input was given
abbrev pub given_to : List ℕ → Host → Host
given_to input h = host h.nub (with_input input h.machine)

abbrev pub begun_host : Behaviour → (input : List ℕ) → MachineState → Host
begun_host b input m = given_to input (first_host b m)

-- a side is begun, for which nothing else was done; what is made in its table from here on is a command's
pub record IsBegun (b : Behaviour) (c : Conduct) (o : Option World) (side : SideRecord) (input : List ℕ) (m : MachineState) (beside : Option Host) (table : StoreState) : Type 0 where
  pub there : IsThere b c o side (begun_host b input m) beside
  pub new : IsNew (debugged side (begun_host b input m)) (record table { part = Command }) (given_input input (b.saved m).1).1

-- it begins, or there is no memory, or the link failed, which it has counted
abbrev pub StartsAs : {A : Type 0} → (faults faults' : ℕ) → (A → Type 0) → Result A StartFault → Type 0
StartsAs faults faults' Done (Ok x) = Done x
StartsAs faults faults' Done (Err NoMemory) = Unit {0}
StartsAs faults faults' Done (Err Target) = Rose faults faults'

-- There is a link of this kind whose count of faults is higher: there is none where the count can't rise.
abbrev pub HasRisen : {A : Type 0} → (faults : A → ℕ) → (old : A) → Type 0
HasRisen {A} faults old = (new : A) × Rose (faults old) (faults new)

-- the machine session of one side at its start
abbrev pub one_session : Behaviour → (input : List ℕ) → MachineState → StoreState → SessionState
one_session b input m table = first_session (first_side b input table m) None

-- and of two, which get the same input
abbrev pub two_session : Behaviour → (input : List ℕ) → (m n : MachineState) → (table other : StoreState) → SessionState
two_session b input m n table other = first_session (first_side b input table m) (Some (first_side b input other n))
