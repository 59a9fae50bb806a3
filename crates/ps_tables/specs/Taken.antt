-- Steps of a run that ask nothing of a dialect.
use Rattle.std.specs.Prelude.{◌≡◌, ℕ, zero, suc}
use Rattle.ps_step.specs.declared.machine.PsCore.{PsCore}
use Rattle.ps_run.specs.Step.{Next, step}

-- so many steps lead from a state to another
abbrev pub Takes : ℕ → PsCore → PsCore → Type 0
Takes zero c c' = c ≡ c'
Takes (suc n) c c' = (c₁ : PsCore) × (step c ≡ Next c₁) × Takes n c₁ c'
