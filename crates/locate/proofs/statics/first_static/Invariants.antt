use Rattle.std.proofs.Common.{◌≡◌, drop}
use Rattle.table_model.specs.Reading.{first_from}
use Rattle.table_model.specs.Objects.{static_object}
use Rattle.locate.proofs.statics.first_static.Given as goal

-- what is left decides
abbrev pub invariant-loop-entry : goal.invariant-loop-entry
invariant-loop-entry l = first_from (λ n x. static_object l.store l.address x) l.entry-index (drop l.entry-index l.entries) ≡ first_from (λ n x. static_object l.store l.address x) 0 l.entries
