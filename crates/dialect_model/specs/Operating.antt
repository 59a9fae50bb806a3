-- The dialect of a command: an operator that needs the functions of a unit has them run first, and acts again.
use Rattle.std.specs.Prelude.{◌≡◌, ℕ, Ok, Err}
use Rattle.ps_step.specs.declared.fault.PsError.{PsError}
use Rattle.ps_step.specs.declared.fault.PsFault.{PsFault}
use Rattle.ps_step.specs.declared.fault.PsFault.TheVariants.{Error, NoMemory}
use Rattle.ps_step.specs.declared.machine.PsCore.{PsCore}
use Rattle.ps_run.specs.Runs.{Answer}
use Rattle.dialect_model.specs.Dial.{Dial, Raises, Needs}
use Rattle.dialect_model.specs.Operators.{act}
use Rattle.dialect_model.specs.Forcing.{ForcesUnit}

-- Operates d c op left answer d' c' left': units that were run stay run, be the answer an error or want of memory.
pub data Operates : Dial → PsCore → ℕ → ℕ → Answer → Dial → PsCore → ℕ → Type 0 where
  acted : (d d' : Dial) (c c' : PsCore) (op left : ℕ) → act op d c ≡ Ok (d', c') → Operates d c op left (Ok tt) d' c' left
  raised : (d : Dial) (c : PsCore) (op left : ℕ) (e : PsError) → act op d c ≡ Err (Raises e) → Operates d c op left (Err (Error e)) d c left
  forced : (d d' : Dial) (c c₁ c' : PsCore) (op u left m left' : ℕ) (r : Answer) → act op d c ≡ Err (Needs u)
      → ForcesUnit u c left (Ok tt) m c₁ → Operates d c₁ op m r d' c' left' → Operates d c op left r d' c' left'
  broken : (d : Dial) (c c' : PsCore) (op u left m : ℕ) (f : PsFault) → act op d c ≡ Err (Needs u)
      → ForcesUnit u c left (Err f) m c' → Operates d c op left (Err f) d c' m
  wanting : (d : Dial) (c : PsCore) (op left : ℕ) → Operates d c op left (Err NoMemory) d c left
