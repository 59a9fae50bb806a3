use Rattle.std.proofs.Common.{◌≡◌, ◌++◌, drop}
use Rattle.gen_parts.specs.Rows.{local_places}
use Rattle.gen_parts.proofs.rows.places_of.Given as goal

-- with the places of the locals that are left, it is all places
abbrev pub invariant-loop-local : goal.invariant-loop-local
invariant-loop-local l = l.places.items ++ local_places l.function l.number (drop l.local-index l.locals) ≡ local_places l.function 0 l.locals
