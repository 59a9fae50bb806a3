-- What a walk leaves of what stands beside the interpreter.
use Rattle.ps_ops.specs.declared.dialect.Operators.{Operators}

-- the same over another memory of the target
abbrev pub with_target : {W : Type 0} → Operators W → W → Operators W
with_target o w = record o { memory = record o.memory { below = record o.memory.below { below = record o.memory.below.below { below = w } } } }
