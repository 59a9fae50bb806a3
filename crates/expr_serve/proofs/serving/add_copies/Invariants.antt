use Rattle.std.proofs.Common.{◌≡◌, ◌++◌, map, take}
use Rattle.expr_serve.specs.Serving.{struct_as}
use Rattle.expr_serve.proofs.serving.add_copies.Given as goal

abbrev pub invariant-loop-def : goal.invariant-loop-def
invariant-loop-def l = map struct_as l.defs.items ≡ map struct_as (l.initial.defs.items ++ take l.def-index l.more)
