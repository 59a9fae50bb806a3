use Rattle.std.proofs.Common.{◌≡◌, ◌+◌, drop}
use Rattle.flat_gen.specs.Layout.{rooms}
use Rattle.flat_gen.proofs.layout.rooms.Given as goal

-- with what the locals that are left take, it is all
abbrev pub invariant-loop-local : goal.invariant-loop-local
invariant-loop-local l = l.bytes + rooms (drop l.local-index l.locals) ≡ rooms l.locals
