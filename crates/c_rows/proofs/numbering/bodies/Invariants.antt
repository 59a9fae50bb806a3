use Rattle.std.proofs.Common.{◌≡◌, ◌++◌, map, drop}
use Rattle.c_linkage.specs.Names.{defining}
use Rattle.c_linkage.specs.Defined.{bodies_of}
use Rattle.c_rows.proofs.numbering.bodies.Given as goal

abbrev pub invariant-loop-d : goal.invariant-loop-d
invariant-loop-d l = (map defining l.bodies.items ++ bodies_of (map defining (drop l.d-index l.definitions))) ≡ bodies_of (map defining l.definitions)
