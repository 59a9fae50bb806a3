use Rattle.std.proofs.Common.{◌≡◌, ◌++◌, ◌-◌, drop}
use Rattle.ps_text.specs.Code.{render}
use Rattle.ps_emit.specs.Table.{anchors_code}
use Rattle.ps_emit.proofs.tables.add_anchors.Given as goal

abbrev pub invariant-loop-i : goal.invariant-loop-i
invariant-loop-i l = l.text ++ render (anchors_code l.k (drop l.i l.anchors)) ≡ l.initial.text ++ render (anchors_code 0 l.anchors)
