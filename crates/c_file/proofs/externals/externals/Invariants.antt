use Rattle.std.proofs.Common.{drop}
use Rattle.c_file.proofs.HeldExternals.{Held}
use Rattle.c_file.proofs.externals.externals.Given as goal

abbrev pub invariant-loop-e : goal.invariant-loop-e
invariant-loop-e l = Held l.es l.initial.state l.state (drop l.e-index l.es)
