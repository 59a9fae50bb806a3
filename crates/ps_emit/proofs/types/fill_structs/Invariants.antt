use Rattle.std.proofs.Common.{◌≡◌, ◌++◌, drop}
use Rattle.ps_text.specs.Code.{render}
use Rattle.ps_emit.specs.Types.{filled_structs}
use Rattle.ps_emit.proofs.types.fill_structs.Given as goal

abbrev pub invariant-loop-def : goal.invariant-loop-def
invariant-loop-def l = l.text ++ render (filled_structs l.s (drop l.def-index l.defs)) ≡ l.initial.text ++ render (filled_structs 0 l.defs)
