use Rattle.std.proofs.Common.{◌≡◌}
use Rattle.ps_store.specs.Store.{closed_part}
use Rattle.evaluating.proofs.known.Known.read_members.Given as goal

abbrev pub invariant-loop-i : goal.invariant-loop-i
invariant-loop-i l = closed_part l.store ≡ closed_part l.initial.store
