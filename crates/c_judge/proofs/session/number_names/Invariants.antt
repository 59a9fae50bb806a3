use Rattle.std.proofs.Common.{◌≡◌, ◌≤◌, ℕ, List, length, drop, map}
use Rattle.c_defs.specs.Numbers.{number_in}
use Rattle.c_defs.specs.Numbers.{number_from}
use Rattle.c_judge.specs.Session.{symbol_name}
use Rattle.c_judge.proofs.session.number_names.Given as goal

abbrev pub invariant-numbering : goal.invariant-numbering
invariant-numbering l = record {
  inside : l.i ≤ length l.names;
  found : (t : List ℕ) → number_in l.numbers t ≡ number_from l.i (map symbol_name (drop l.i l.names)) t;
}

abbrev pub decreases-numbering : goal.decreases-numbering
decreases-numbering l = l.i
