use Rattle.std.proofs.Common.{◌≡◌, ◌++◌, ◌-◌, replicate}
use Rattle.c_tree.specs.declared.rows.Start.TheVariants.{Number}
use Rattle.c_rows.proofs.starts.add_zeros.Given as goal

abbrev pub invariant-loop : goal.invariant-loop
invariant-loop l = (l.starts.items ++ replicate (l.n - l.counter) (Number 0)) ≡ (l.initial.starts.items ++ replicate l.n (Number 0))
