use Rattle.std.proofs.Common.{◌≡◌, drop}
use Rattle.std.specs.List.{list_any}
use Rattle.expr_serve.specs.Serving.{is_tagged}
use Rattle.expr_serve.proofs.serving.has_tag.Given as goal

abbrev pub invariant-loop-def : goal.invariant-loop-def
invariant-loop-def l = list_any (is_tagged l.tag) (drop l.def-index l.defs) ≡ list_any (is_tagged l.tag) l.defs
