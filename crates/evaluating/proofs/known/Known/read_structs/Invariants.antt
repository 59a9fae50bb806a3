use Rattle.std.proofs.Common.{◌≡◌}
use Rattle.ps_store.specs.Store.{closed_part}
use Rattle.evaluating.proofs.known.Known.read_structs.Given as goal

abbrev pub invariant-loop-number : goal.invariant-loop-number
invariant-loop-number l = closed_part l.store ≡ closed_part l.initial.store
