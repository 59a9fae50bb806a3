-- What a table's text comes to, as the claims on whole sessions have it.
use Rattle.std.specs.Prelude.{◌≡◌, ◌⊎◌, ℕ, false, List, Result, Ok, Err}
use Rattle.machine_state.specs.declared.layout.TheConstants.{MIPS, SPARC}
use Rattle.ps_store.specs.StoreState.{StoreState}
use Rattle.ps_step.specs.declared.fault.PsFault.TheVariants as ps
use Rattle.ps_print.specs.Loaded.{loaded}
use Rattle.claims.specs.Tables.{RunsTable, RunFault}
use Rattle.claims.specs.Tables as claims
use Rattle.table_run.specs.declared.run.TableFault.{TableFault}
use Rattle.table_run.specs.declared.run.TableFault.TheVariants.{Raised, Spent, Shape, NoMemory}
use Rattle.table_run.specs.Shape.{is_unused}
use Rattle.table_run.specs.Tables.{IsTableOf}

-- The same store, error or end of the steps. Of another shape is also a table that left something in the part of commands, which these
-- claims don't look at.
abbrev pub RunsAs : (prelude : StoreState) → (text : List ℕ) → (target : ℕ) → Result StoreState TableFault → Type 0
RunsAs prelude text target (Ok s) = RunsTable prelude text target (Ok s)
RunsAs prelude text target (Err (Raised e)) = RunsTable prelude text target (Err (RunFault (ps.Error e)))
RunsAs prelude text target (Err Spent) = RunsTable prelude text target (Err (RunFault ps.Spent))
RunsAs prelude text target (Err Shape) = RunsTable prelude text target (Err claims.Shape) ⊎ ((s : StoreState) × RunsTable prelude text target (Ok s) × (is_unused s.command ≡ false))
RunsAs prelude text target (Err NoMemory) = Unit {0}

-- So it is with each text, behind the store that the prelude leaves.
abbrev pub TablesRun : Type 0
TablesRun =
    (prelude : StoreState) (text : List ℕ) (target : ℕ) (r : Result StoreState TableFault) → prelude ≡ loaded.store → (target ≡ MIPS) ⊎ (target ≡ SPARC) → IsTableOf text target r → RunsAs prelude text target r

-- A text is the table of a target: it comes to a store, as the claims have it too, and to no fault but want of memory.
pub record MakesTable (text : List ℕ) (target : ℕ) : Type 0 where
  pub store : StoreState
  pub comes : IsTableOf text target (Ok store)
  pub claimed : RunsTable loaded.store text target (Ok store)
  pub only : (f : TableFault) → IsTableOf text target (Err f) → f ≡ NoMemory
