-- A run over the memory of a target, by the bytes that are told.
use Rattle.std.proofs.Common.{◌≡◌, ◌≢◌, refl, sym, subst, ℕ, List, [], ◌∷◌, Option, Some, None, Result, Ok, Err}
use Rattle.machine_state.specs.Regions.{Regions}
use Rattle.ps_store.specs.declared.object.PsObj.{PsObj}
use Rattle.ps_step.specs.declared.fault.PsFault.{PsFault}
use Rattle.ps_step.specs.declared.fault.PsFault.TheVariants as ps
use Rattle.ps_step.specs.declared.item.Item.{Item}
use Rattle.ps_step.specs.declared.item.Item.TheVariants.{Object}
use Rattle.ps_step.specs.declared.machine.PsCore.{PsCore}
use Rattle.ps_step.specs.State.{with_execution}
use Rattle.ps_run.specs.Runs.{Answer, RunsObject}
use Rattle.ps_run.specs.Reaching.{RanShort}
use Rattle.abs_mem.specs.Meaning.{Seen}
use Rattle.abs_mem.specs.declared.memory.MemFault.{MemFault}
use Rattle.abs_mem.specs.declared.memory.MemFault.TheVariants.{Outside, LinkFault, BadReply}
use Rattle.ps_ops.specs.declared.dialect.Operators.{Operators}
use Rattle.told_runs.specs.Told.{Does, Tells, IsTold, IsNoBadReply}
use Rattle.told_runs.proofs.Told.{told, never}
use Rattle.told_runs.proofs.Short.{short_told}
use Rattle.table_asks.specs.declared.inquiry.Inquiry.{Inquiry}
use Rattle.table_asks.specs.Asking.{left_of}
use Rattle.table_asks.specs.Faults.{fault_of_run}
use Rattle.table_asks.specs.Running.{RunsOver, RunsSoFar}
use Rattle.table_asks.proofs.Ran.{fails}

module _ {W R : Type 0} (seen : W → Seen R) (leads : W → Option (List ℕ) → W → Type 0) (what : PsObj) (i i' : Inquiry) (o o' : Operators W) where
  abbrev taken : Operators W
  taken = record o' { fault = None }

  abbrev Ran : Answer → Type 0
  Ran r = RunsObject (Does seen leads) (left_of i) what o i.core r (left_of i') o' i'.core

  -- the fault that was kept is taken, which tells nothing
  over : (r : Answer) → r ≢ Err ps.Link → r ≢ Err ps.NoMemory → Ran r → (regions : Regions) (rest : R) → Tells seen o regions rest
      → (execution : List Item) × IsTold seen rest regions (left_of i) o (with_execution i.core (Object what ∷ [])) r (left_of i') taken (with_execution i'.core execution)
  over r l w h regions rest t =
      let run = h w in
      let is = told seen leads rest regions (left_of i) o (with_execution i.core (Object what ∷ [])) r (left_of i') o' (with_execution i'.core run.0) l w run.1 t in
      (run.0, record { regions' = is.regions'; tells = is.tells; runs = is.runs })

  pub told_answered : Ran (Ok tt) → (regions : Regions) (rest : R) → Tells seen o regions rest
      → (execution : List Item) × IsTold seen rest regions (left_of i) o (with_execution i.core (Object what ∷ [])) (Ok tt) (left_of i') o' (with_execution i'.core execution)
  told_answered h regions rest t =
      let run = h (λ k. cc) in
      (run.0, told seen leads rest regions (left_of i) o (with_execution i.core (Object what ∷ [])) (Ok tt) (left_of i') o' (with_execution i'.core run.0) (λ k. cc) (λ k. cc) run.1 t)

  so_far : RanShort (Does seen leads) (left_of i) o (with_execution i.core (Object what ∷ [])) o' → RunsSoFar seen what i o taken
  so_far h regions rest t =
      let is = short_told seen leads rest regions (left_of i) o (with_execution i.core (Object what ∷ [])) t o' h in
      record { regions' = is.regions'; left' = is.left'; dial = is.dial; core = is.core; tells = is.tells; reaches = is.reaches; target = is.target }

  -- that fault was kept by the run
  told_link : (kept : Option MemFault) → ((regions : Regions) (rest : R) → Tells seen o regions rest → IsNoBadReply kept) → RunsOver seen what i o (Err (fault_of_run ps.Link kept)) i' taken
  told_link (Some LinkFault) h = tt
  told_link (Some (BadReply frame)) h = h
  told_link (Some (Outside p)) h = tt
  told_link None h = tt

  pub told_stopped : (f : PsFault) (kept : Option MemFault) → kept ≡ o'.fault → Ran (Err f) → (fails f ≡ Err ps.NoMemory → RanShort (Does seen leads) (left_of i) o (with_execution i.core (Object what ∷ [])) o') → RunsOver seen what i o (Err (fault_of_run f kept)) i' taken
  told_stopped (ps.Error e) kept same h k = over (Err (ps.Error e)) (λ k. cc) (λ k. cc) h
  told_stopped ps.Spent kept same h k = over (Err ps.Spent) (λ k. cc) (λ k. cc) h
  told_stopped ps.NoMemory kept same h k = so_far (k refl)
  told_stopped ps.Link kept same h k =
      told_link kept (λ regions rest t.
      let run = h (λ k. cc) in
      subst IsNoBadReply (sym same) (never seen leads rest regions (left_of i) o (with_execution i.core (Object what ∷ [])) (Err ps.Link) (left_of i') o' (with_execution i'.core run.0) refl run.1 t))
