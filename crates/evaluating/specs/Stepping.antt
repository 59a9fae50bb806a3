-- What the operators of a command do under a run whose own steps don't count.
use Rattle.std.specs.Prelude.{◌≡◌, ℕ}
use Rattle.abs_mem.specs.Meaning.{Seen}
use Rattle.ps_step.specs.declared.machine.PsCore.{PsCore}
use Rattle.ps_run.specs.Runs.{Answer}
use Rattle.ps_ops.specs.Acting.{OperatesOn}
use Rattle.ps_ops.specs.declared.dialect.Operators.{Operators}
use Rattle.told_runs.specs.Told.{desk, target}

-- one of them was done, in steps of its own
pub record DoesApart {W R : Type 0} (seen : W → Seen R) (o : Operators W) (c : PsCore) (op : ℕ) (answer : Answer) (o' : Operators W) (c' : PsCore) : Type 0 where
  pub left : ℕ
  pub left' : ℕ
  pub view : o'.view ≡ o.view
  pub operates : OperatesOn (desk o) (target seen o) c op left answer (desk o') (target seen o') c' left' o'.fault
