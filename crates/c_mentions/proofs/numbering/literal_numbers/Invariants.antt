use Rattle.std.proofs.Common.{◌≡◌, ◌+◌, ◌≤◌, ℕ, map, drop, length}
use Rattle.std.specs.BTreeMap.{get}
use Rattle.std.specs.Ordering.{nat_cmp}
use Rattle.c_judge.specs.Scope.{or_else_number}
use Rattle.c_mentions.specs.Literals.{literal, number_at}
use Rattle.c_mentions.proofs.numbering.literal_numbers.Given as goal

abbrev pub invariant-numbering : goal.invariant-numbering
invariant-numbering l = (l.i ≤ length l.literals) × ((at : ℕ) → or_else_number 0 (get nat_cmp l.numbers at) ≡ number_at (l.first + l.i) (map literal (drop l.i l.literals)) at)

abbrev pub decreases-numbering : goal.decreases-numbering
decreases-numbering l = l.i
