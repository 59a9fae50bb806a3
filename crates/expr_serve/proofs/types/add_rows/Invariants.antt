use Rattle.std.proofs.Common.{◌≡◌, ◌++◌, drop}
use Rattle.ps_text.specs.Code.{render}
use Rattle.expr_serve.specs.Types.{each_row}
use Rattle.expr_serve.proofs.types.add_rows.Given as goal

abbrev pub invariant-loop-member : goal.invariant-loop-member
invariant-loop-member l = l.text ++ render (each_row l.defs (drop l.member-index l.members)) ≡ l.initial.text ++ render (each_row l.defs l.members)
