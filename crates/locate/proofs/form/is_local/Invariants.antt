use Rattle.std.proofs.Common.{◌≡◌, drop}
use Rattle.table_model.specs.Symbols.{is_local}
use Rattle.locate.proofs.form.is_local.Given as goal

-- what is left decides
abbrev pub invariant-loop-object : goal.invariant-loop-object
invariant-loop-object l = is_local l.store (drop l.object-index l.objects) ≡ is_local l.store l.objects
