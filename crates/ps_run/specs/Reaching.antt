-- How far a run came of which memory ran out.
use Rattle.std.specs.Prelude.{◌≡◌, ℕ, suc, Ok, Err}
use Rattle.ps_step.specs.declared.fault.PsFault.TheVariants.{NoMemory}
use Rattle.ps_step.specs.declared.machine.PsCore.{PsCore}
use Rattle.ps_run.specs.Step.{Next, Asks, step}
use Rattle.ps_run.specs.Runs.{Operates, Asked}

module _ {D : Type 0} (Op : Operates D) (left : ℕ) (d : D) (c : PsCore) where
  -- Reaches left d c left' d' c': a run goes from here to there in whole steps, and may go on.
  pub data Reaches : ℕ → D → PsCore → Type 0 where
    here : Reaches left d c
    stepped : {n : ℕ} {d₁ : D} {c₁ c₂ : PsCore} → Reaches (suc n) d₁ c₁ → step c₁ ≡ Next c₂ → Reaches n d₁ c₂
    answered : {n k op : ℕ} {d₁ d₂ : D} {c₁ c₂ c₃ : PsCore} → Reaches (suc n) d₁ c₁ → step c₁ ≡ Asks op c₂ → Asked Op d₁ c₂ op n (Ok tt) d₂ c₃ k → Reaches k d₂ c₃

  -- Memory ran out of a run from here, and left the dialect so: where a step lacked it, as it was by then; or as the operator left it that lacked it.
  pub data RanShort : D → Type 0 where
    in_step : {n : ℕ} {d₁ : D} {c₁ : PsCore} → Reaches n d₁ c₁ → RanShort d₁
    in_operator : {n k op : ℕ} {d₁ d₂ : D} {c₁ c₂ c₃ : PsCore} → Reaches (suc n) d₁ c₁ → step c₁ ≡ Asks op c₂ → Asked Op d₁ c₂ op n (Err NoMemory) d₂ c₃ k → RanShort d₂
