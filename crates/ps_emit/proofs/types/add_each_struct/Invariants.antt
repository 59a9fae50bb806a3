use Rattle.std.proofs.Common.{◌≡◌, ◌++◌, drop}
use Rattle.ps_text.specs.Code.{render}
use Rattle.ps_emit.specs.Types.{each_struct}
use Rattle.ps_emit.proofs.types.add_each_struct.Given as goal

abbrev pub invariant-loop-def : goal.invariant-loop-def
invariant-loop-def l = l.text ++ render (each_struct (drop l.def-index l.defs)) ≡ l.initial.text ++ render (each_struct l.defs)
