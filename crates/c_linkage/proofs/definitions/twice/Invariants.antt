use Rattle.std.proofs.Common.{◌≡◌, map, drop, None}
use Rattle.c_linkage.specs.Names.{defining}
use Rattle.c_linkage.specs.Known.{known_in}
use Rattle.c_linkage.proofs.Again.{first_again}
use Rattle.c_linkage.proofs.definitions.twice.Given as goal

abbrev pub invariant-loop-d : goal.invariant-loop-d
invariant-loop-d l = first_again (known_in l.names) (map defining (drop l.d-index l.definitions)) ≡ first_again (λ t. None) (map defining l.definitions)
