use Rattle.std.proofs.Common.{◌≡◌, ◌++◌, map, drop}
use Rattle.flat_gen.specs.Movers.{mover}
use Rattle.flat_gen.proofs.movers.movers_of.Given as goal

abbrev pub invariant-loop-row : goal.invariant-loop-row
invariant-loop-row l = l.movers.items ++ map (mover l.slots) (drop l.row-index l.slots.structs) ≡ map (mover l.slots) l.slots.structs
