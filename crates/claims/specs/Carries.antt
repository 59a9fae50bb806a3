-- Whole sessions, and when images with their tables carry a program.
use Rattle.std.specs.Prelude.{◌≡◌, ◌⊎◌, ◌≤◌, ◌^◌, ℕ, List, [], ◌∷◌, ◌++◌, length, Option, Some, None, Ok}
use Rattle.std.specs.List.{AllByRecursion}
use Rattle.machine_state.specs.declared.layout.TheConstants.{MIPS, SPARC}
use Rattle.machine_state.specs.State.{MachineState, Behaviour}
use Rattle.targets.specs.Targets.{machine_behaviour, Loads}
use Rattle.c_tree.specs.declared.rows.Program.{Program}
use Rattle.ps_store.specs.StoreState.{StoreState}
use Rattle.c_session.specs.declared.command.Command.{Command}
use Rattle.c_session.specs.declared.command.Command.TheVariants as command
use Rattle.c_session.specs.Commands.{Sides, OneSide, TwoSides}
use Rattle.c_session.specs.Allowed.{Allowed}
use Rattle.claims.specs.Side.{SideState, SessionState, first_side, first_session}
use Rattle.claims.specs.Lines.{Reply}
use Rattle.claims.specs.Tables.{RunsTable}
use Rattle.claims.specs.Outcome.{Answers}

-- ---- lists of lines

abbrev IsQuit : Option Command → Type 0
IsQuit (Some command.Quit) = Unit {0}
IsQuit c = ⊥

-- The lines from a session on: the transcript, and what the first side's machine put in all. `quit` and the end of the lines end it.
abbrev pub Converses : Behaviour → SessionState → List (Option Command) → (transcript : Reply) → (output : List ℕ) → Type 0
Converses b st [] transcript output = (transcript ≡ []) × (output ≡ st.written)
Converses b st (c ∷ cs) transcript output =
    (IsQuit c × (transcript ≡ []) × (output ≡ st.written))
    ⊎ ((reply rest : Reply) × (next : SessionState) × Answers b st c reply next × (transcript ≡ reply ++ rest) × Converses b next cs rest output)

-- ---- images and tables

-- the bytes of an image and of its table
pub record Built : Type 0 where
  pub image : List ℕ
  pub table : List ℕ

-- one, or one for each target
pub record Builts : Type 0 where
  pub first : Built
  pub second : Option Built

-- a machine at its start, and the store that its table left
pub record Starting : Type 0 where
  pub machine : MachineState
  pub table : StoreState

-- an image of a target and its table give a machine and a store
pub record Starts (prelude : StoreState) (b : Built) (target : ℕ) (s : Starting) : Type 0 where
  pub loads : Loads b.image (Ok s.machine)
  pub is_for : s.machine.target ≡ target
  pub runs : RunsTable prelude b.table target (Ok s.table)

pub record Startings : Type 0 where
  pub first : Starting
  pub second : Option Starting

-- one alone is for any target; of two the first is for MIPS and the second for SPARC
abbrev pub StartAs : StoreState → Builts → Startings → Type 0
StartAs prelude bs s = elim bs.second as (λ o. Type 0) [
  | None ↦ (s.second ≡ None) × ((target : ℕ) × Starts prelude bs.first target s.first)
  | Some b ↦ Starts prelude bs.first MIPS s.first × ((t : Starting) × (s.second ≡ Some t) × Starts prelude b SPARC t)
]

abbrev begins_side : List ℕ → Starting → SideState
begins_side input s = first_side machine_behaviour input s.table s.machine

abbrev pub begins : (input : List ℕ) → Startings → SessionState
begins input s = first_session (begins_side input s.first) (elim s.second [ None ↦ None | Some t ↦ Some (begins_side input t) ])

abbrev pub sides_of : Startings → Sides
sides_of s = elim s.second [ None ↦ OneSide | Some t ↦ TwoSides ]

abbrev IsNoPs : Option Command → Type 0
IsNoPs (Some (command.Ps text)) = ⊥
IsNoPs c = Unit {0}

-- Images with their tables carry a program, where `prelude` is the store that the prelude leaves: each image loads and each table
-- runs, and for every input that a target takes and every list of lines without `ps`, what a session over them tells and puts is
-- allowed by the program.
pub record Carries (prelude : StoreState) (p : Program) (bs : Builts) : Type 0 where
  pub start : Startings
  pub starts : StartAs prelude bs start
  pub allowed : (input : List ℕ) (lines : List (Option Command)) (transcript : Reply) (output : List ℕ) → length input ≤ 2 ^ 24 → AllByRecursion IsNoPs lines
      → Converses machine_behaviour (begins input start) lines transcript output → Allowed p (sides_of start) input lines transcript output
