use Rattle.std.proofs.Common.{◌≡◌, drop}
use Rattle.ps_step.specs.Keys.{found_in}
use Rattle.ps_step.proofs.keys.key_found.Given as goal

-- what is left decides
abbrev pub invariant-loop-depth : goal.invariant-loop-depth
invariant-loop-depth l = found_in l.store (drop l.depth l.dictionaries) l.key ≡ found_in l.store l.dictionaries l.key
