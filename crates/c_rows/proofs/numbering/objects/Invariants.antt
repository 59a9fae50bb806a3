use Rattle.std.proofs.Common.{◌≡◌, ◌++◌, map, drop, false}
use Rattle.c_linkage.specs.Names.{defining}
use Rattle.c_rows.specs.Fresh.{fresh, sees}
use Rattle.c_rows.proofs.numbering.objects.Given as goal

abbrev pub invariant-loop-d : goal.invariant-loop-d
invariant-loop-d l = (map defining l.objects.items ++ fresh (sees l.seen) (map defining (drop l.d-index l.definitions))) ≡ fresh (λ u t. false) (map defining l.definitions)
