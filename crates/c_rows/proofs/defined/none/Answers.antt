use Rattle.std.proofs.Common.{◌≡◌, List, sym, subst, slice_get, false, arith}
use Rattle.std.proofs.lemmas.Grind.{common_steps}
use Rattle.c_defs.specs.declared.numbers.Numbers.{Numbers}
use Rattle.c_rows.specs.Sets.{in_file}
use Rattle.c_rows.proofs.Sets.{no_more}
use Rattle.c_rows.proofs.defined.none.Goals as goal

pub loop-preserved : goal.loop-preserved
loop-preserved c = record {
  files = grind (arith, common_steps);
  names = λ u t. subst (λ (l : List Numbers). in_file (slice_get l u) t ≡ false) (sym c.in_ok-push.ensures.items) (no_more c.loop.statics.items c.new.result c.loop.invariant.names c.new.ensures u t);
}
