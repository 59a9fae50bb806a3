use Rattle.std.proofs.Common.{◌≡◌, ◌≤◌, ℕ, List, length, drop, map}
use Rattle.c_defs.specs.Numbers.{number_in}
use Rattle.c_defs.specs.Numbers.{number_from}
use Rattle.c_judge.specs.Scope.{tag_of}
use Rattle.c_judge.proofs.session.number_tags.Given as goal

abbrev pub invariant-numbering : goal.invariant-numbering
invariant-numbering l = record {
  inside : l.i ≤ length l.defs;
  found : (t : List ℕ) → number_in l.numbers t ≡ number_from l.i (map tag_of (drop l.i l.defs)) t;
}

abbrev pub decreases-numbering : goal.decreases-numbering
decreases-numbering l = l.i
