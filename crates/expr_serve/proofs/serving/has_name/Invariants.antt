use Rattle.std.proofs.Common.{◌≡◌, drop}
use Rattle.std.specs.List.{list_any}
use Rattle.expr_serve.specs.Serving.{is_named}
use Rattle.expr_serve.proofs.serving.has_name.Given as goal

abbrev pub invariant-loop-symbol : goal.invariant-loop-symbol
invariant-loop-symbol l = list_any (is_named l.name) (drop l.symbol-index l.symbols) ≡ list_any (is_named l.name) l.symbols
