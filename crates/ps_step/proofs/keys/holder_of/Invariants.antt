use Rattle.std.proofs.Common.{◌≡◌, drop}
use Rattle.ps_step.specs.Keys.{holder_of}
use Rattle.ps_step.proofs.keys.holder_of.Given as goal

-- what is left decides
abbrev pub invariant-loop-depth : goal.invariant-loop-depth
invariant-loop-depth l = holder_of l.store (drop l.depth l.dictionaries) l.key ≡ holder_of l.store l.dictionaries l.key
