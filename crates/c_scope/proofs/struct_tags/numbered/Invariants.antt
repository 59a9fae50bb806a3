use Rattle.std.proofs.Common.{◌≡◌, ◌≤◌, ℕ, List, length, drop, map}
use Rattle.c_defs.specs.Numbers.{number_in}
use Rattle.c_defs.specs.Numbers.{number_from}
use Rattle.c_scope.specs.StructTags.{text}
use Rattle.c_scope.proofs.struct_tags.numbered.Given as goal

abbrev pub invariant-numbering : goal.invariant-numbering
invariant-numbering l = record {
  inside : l.i ≤ length l.texts;
  found : (t : List ℕ) → number_in l.numbers t ≡ number_from l.i (map text (drop l.i l.texts)) t;
}

abbrev pub decreases-numbering : goal.decreases-numbering
decreases-numbering l = l.i
