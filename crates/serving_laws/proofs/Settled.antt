-- A table whose units were all run has none to be run first where an object is looked up.
use Rattle.std.proofs.Common.{subst, ℕ}
use Rattle.ps_store.specs.StoreState.{StoreState}
use Rattle.table_model.specs.declared.found.Found.{Found}
use Rattle.table_model.specs.Reading.{Walked}
use Rattle.std.specs.Prelude.{Option}
use Rattle.ps_bare.specs.Deferred.{IsDeferred}
use Rattle.ps_bare.proofs.Lacking.{Lacks, found_at_lacks}
use Rattle.c_bytes.specs.Lvalues.{Scene, bytes_with}
use Rattle.serving_laws.specs.Evaluated.{IsSettled}

pub run_settled : (sc : Scene) (s : StoreState) → ((u : ℕ) → IsDeferred s u → ⊥) → IsSettled sc s
run_settled sc s run p u e = run u (subst (λ (r : Walked (Option Found)). Lacks s r) e (found_at_lacks s sc.target.row (bytes_with sc 0) p sc.target.context))
