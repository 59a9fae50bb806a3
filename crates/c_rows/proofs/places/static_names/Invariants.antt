use Rattle.std.proofs.Common.{◌≡◌, ◌||◌, ℕ, List, map, drop}
use Rattle.c_linkage.specs.FileNames.{file_name}
use Rattle.c_rows.specs.Fresh.{sees}
use Rattle.c_rows.specs.Placed.{has_static}
use Rattle.c_rows.proofs.places.static_names.Given as goal

abbrev pub invariant-loop-f : goal.invariant-loop-f
invariant-loop-f l = (u : ℕ) (t : List ℕ) → (sees l.statics u t || has_static u t (map file_name (drop l.f-index l.names))) ≡ has_static u t (map file_name l.names)
