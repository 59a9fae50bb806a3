use Rattle.std.proofs.Common.{◌≡◌, ◌++◌, drop, map}
use Rattle.gen_parts.specs.Uses.{offset_of}
use Rattle.gen_parts.proofs.rows.points_of.Given as goal

abbrev pub invariant-loop-place : goal.invariant-loop-place
invariant-loop-place l = l.points.items ++ map (offset_of l.spots.places.now) (drop l.place-index l.places) ≡ map (offset_of l.spots.places.now) l.places
