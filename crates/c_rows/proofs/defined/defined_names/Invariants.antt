use Rattle.std.proofs.Common.{◌≡◌, ℕ, Bool, List, ◌||◌, map, drop, vec_len}
use Rattle.c_linkage.specs.Names.{defining, is_defined}
use Rattle.c_rows.specs.Sets.{defined_in}
use Rattle.c_rows.proofs.defined.defined_names.Given as goal

abbrev pub invariant-loop-d : goal.invariant-loop-d
invariant-loop-d l = record {
  files : vec_len l.names.statics ≡ l.fn.units;
  names : (u : ℕ) (s : Bool) (t : List ℕ) → (defined_in l.names u s t || is_defined (map defining (drop l.d-index l.definitions)) u s t) ≡ is_defined (map defining l.definitions) u s t;
}
