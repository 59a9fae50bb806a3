use Rattle.std.proofs.Common.{◌≡◌, ◌++◌, drop}
use Rattle.ps_text.specs.Code.{render}
use Rattle.expr_serve.specs.Types.{filled_structs}
use Rattle.expr_serve.proofs.types.fill_structs.Given as goal

abbrev pub invariant-loop-def : goal.invariant-loop-def
invariant-loop-def l = l.text ++ render (filled_structs l.defs l.s (drop l.def-index l.defs)) ≡ l.initial.text ++ render (filled_structs l.defs 0 l.defs)
