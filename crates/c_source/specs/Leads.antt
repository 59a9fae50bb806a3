-- What the steps of a program come to.
use Rattle.std.specs.Prelude.{◌≡◌, ℕ, suc, zero, Result, Ok, Err}
use Rattle.c_tree.specs.declared.rows.Program.{Program}
use Rattle.runs.specs.Runs.{Why, Goes, Undefined}
use Rattle.c_source.specs.Control.{State}
use Rattle.c_source.specs.Source.{step}

module _ (p : Program) where
  -- n steps without a stop
  abbrev pub Steps : ℕ → State → State → Type 0
  Steps zero s u = s ≡ u
  Steps (suc n) s u = (c : ℕ) × (v : State) × (step p s ≡ Goes c v) × Steps n v u

  -- steps without a stop come to the state for this result, or to a step that is undefined for this reason
  abbrev pub Leads : {A : Type 0} → State → Result A Why → (A → State) → Type 0
  Leads s (Ok x) to = (n : ℕ) × Steps n s (to x)
  Leads s (Err w) to = (n : ℕ) × (u : State) × Steps n s u × (step p u ≡ Undefined w)
