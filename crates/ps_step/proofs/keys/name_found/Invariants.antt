use Rattle.std.proofs.Common.{◌≡◌, drop}
use Rattle.ps_store.specs.declared.key.Key.TheVariants.{Name}
use Rattle.ps_store.specs.Store.{bytes_of}
use Rattle.ps_step.specs.Keys.{found_in}
use Rattle.ps_step.proofs.keys.name_found.Given as goal

-- what is left decides
abbrev pub invariant-loop-depth : goal.invariant-loop-depth
invariant-loop-depth l = found_in l.store (drop l.depth l.dictionaries) (Name (bytes_of l.store l.name)) ≡ found_in l.store l.dictionaries (Name (bytes_of l.store l.name))
