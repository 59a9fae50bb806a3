use Rattle.std.proofs.Common.{◌≡◌, drop, None}
use Rattle.table_read.specs.Saved.{kept_from}
use Rattle.table_read.proofs.saved.kept_through.Given as goal

-- what is left decides, unless a place was told
abbrev pub invariant-loop-object : goal.invariant-loop-object
invariant-loop-object l = kept_from l.store l.base l.register l.kept (drop l.object-index l.saved) ≡ kept_from l.store l.base l.register None l.saved
