use Rattle.std.proofs.Common.{◌≡◌, ◌++◌, ◌-◌, drop}
use Rattle.ps_text.specs.Code.{render}
use Rattle.ps_emit.specs.Functions.{functions_code}
use Rattle.ps_emit.proofs.functions.add_functions.Given as goal

abbrev pub invariant-loop-f : goal.invariant-loop-f
invariant-loop-f l = l.text ++ render (functions_code l.program l.rows l.made (drop l.f-index l.functions)) ≡ l.initial.text ++ render (functions_code l.program l.rows 0 l.functions)
