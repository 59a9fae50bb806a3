use Rattle.std.proofs.Common.{◌≡◌, ℕ, List, false, vec_len, slice_get}
use Rattle.c_rows.specs.Sets.{in_file}
use Rattle.c_rows.proofs.defined.none.Given as goal

abbrev pub invariant-loop : goal.invariant-loop
invariant-loop l = record {
  files : vec_len l.statics ≡ l.counter;
  names : (u : ℕ) (t : List ℕ) → in_file (slice_get l.statics.items u) t ≡ false;
}
