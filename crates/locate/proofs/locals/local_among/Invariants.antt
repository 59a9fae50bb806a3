use Rattle.std.proofs.Common.{◌≡◌, ◌-◌, ◌<◌}
use Rattle.table_model.specs.Objects.{local_among}
use Rattle.locate.proofs.locals.local_among.Given as goal

-- what is left of the chain decides
abbrev pub invariant-loop-passed : goal.invariant-loop-passed
invariant-loop-passed l = record {
  left : local_among (99999 - l.passed) l.store l.base l.address l.next ≡ local_among 99999 l.store l.base l.address l.fn.scope;
  more : l.passed < 100000;
}
