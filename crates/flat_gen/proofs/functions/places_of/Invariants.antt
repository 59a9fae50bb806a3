use Rattle.std.proofs.Common.{◌≡◌, ◌++◌, map, drop}
use Rattle.flat_gen.specs.Codes.{place_of}
use Rattle.flat_gen.proofs.functions.places_of.Given as goal

abbrev pub invariant-loop-place : goal.invariant-loop-place
invariant-loop-place l = l.found.items ++ map (place_of l.within.starts.now) (drop l.place-index l.places) ≡ map (place_of l.within.starts.now) l.places
