use Rattle.std.proofs.Common.{◌≡◌, ◌++◌, drop, map}
use Rattle.c_file.specs.Files as spec
use Rattle.c_linkage.specs.Wanted.{awaited}
use Rattle.c_initial.specs.Starts.{late_place}
use Rattle.c_file.proofs.declarations.add_awaited.Given as goal

abbrev pub invariant-loop-place : goal.invariant-loop-place
invariant-loop-place l = (map awaited l.late.items ++ spec.awaited l.unit (map late_place (drop l.place-index l.places))) ≡ (map awaited l.initial.late.items ++ spec.awaited l.unit (map late_place l.places))
