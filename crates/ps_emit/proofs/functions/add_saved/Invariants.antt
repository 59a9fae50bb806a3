use Rattle.std.proofs.Common.{◌≡◌, ◌++◌, ◌-◌, drop}
use Rattle.ps_text.specs.Code.{render}
use Rattle.ps_emit.specs.Functions.{saved_code}
use Rattle.ps_emit.proofs.functions.add_saved.Given as goal

abbrev pub invariant-loop-i : goal.invariant-loop-i
invariant-loop-i l = l.text ++ render (saved_code (drop l.i l.saved)) ≡ l.initial.text ++ render (saved_code l.saved)
