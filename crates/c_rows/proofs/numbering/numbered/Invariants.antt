use Rattle.std.proofs.Common.{◌≡◌, ◌≤◌, ℕ, Bool, List, map, drop, length}
use Rattle.c_linkage.specs.Names.{defining}
use Rattle.c_linkage.specs.Defined.{number_from}
use Rattle.c_rows.specs.Linked.{linked_in}
use Rattle.c_rows.proofs.numbering.numbered.Given as goal

abbrev pub invariant-numbering : goal.invariant-numbering
invariant-numbering l = record {
  inside : l.i ≤ length l.definitions;
  finds : (u : ℕ) (s : Bool) (t : List ℕ) → linked_in l.numbers u s t ≡ number_from l.i (map defining (drop l.i l.definitions)) u s t;
}

abbrev pub decreases-numbering : goal.decreases-numbering
decreases-numbering l = l.i
