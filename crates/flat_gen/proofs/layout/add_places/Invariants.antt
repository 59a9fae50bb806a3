use Rattle.std.proofs.Common.{◌≡◌, ◌+◌, ◌++◌, drop}
use Rattle.flat_gen.specs.Layout.{rooms, places_from}
use Rattle.flat_gen.proofs.layout.add_places.Given as goal

abbrev pub invariant-loop-local : goal.invariant-loop-local
invariant-loop-local l =
    (l.places.items ++ places_from l.end (drop l.local-index l.locals) ≡ l.initial.places.items ++ places_from l.at l.locals)
    × (l.end + rooms (drop l.local-index l.locals) ≡ l.at + rooms l.locals)
