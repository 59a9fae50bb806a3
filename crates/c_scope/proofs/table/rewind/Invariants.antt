use Rattle.std.proofs.Common.{◌≡◌, ℕ, List, [], length}
use Rattle.c_defs.specs.Numbers.{number_in}
use Rattle.c_scope.specs.Environment.{number_of}
use Rattle.c_scope.specs.Table.{outermost}
use Rattle.c_scope.specs.Tabled.{visible_from, Hide}
use Rattle.c_scope.proofs.table.rewind.Given as goal

abbrev pub invariant-ending : goal.invariant-ending
invariant-ending l = record {
  finds : (name : List ℕ) → number_in l.numbers name ≡ number_of (visible_from [] l.shadowing.items) name;
  hide : Hide [] l.shadowing.items;
  visible : outermost l.height (visible_from [] l.shadowing.items) ≡ outermost l.height (visible_from [] l.fn.shadowing.items);
}

abbrev pub decreases-ending : goal.decreases-ending
decreases-ending l = length l.shadowing.items
