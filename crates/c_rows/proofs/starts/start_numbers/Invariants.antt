use Rattle.std.proofs.Common.{◌≡◌, ◌≤◌, ℕ, List, map, drop, length}
use Rattle.c_linkage.specs.FileNumbers.{number_at}
use Rattle.c_linkage.specs.Wanted.{started}
use Rattle.c_rows.specs.Objects.{start_number}
use Rattle.c_rows.proofs.starts.start_numbers.Given as goal

abbrev pub invariant-numbering : goal.invariant-numbering
invariant-numbering l = record {
  inside : l.i ≤ length l.starts;
  finds : (u : ℕ) (t : List ℕ) → number_at l.numbers u t ≡ start_number l.i (map started (drop l.i l.starts)) u t;
}

abbrev pub decreases-numbering : goal.decreases-numbering
decreases-numbering l = l.i
