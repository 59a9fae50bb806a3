use Rattle.std.proofs.Common.{◌≡◌, length}
use Rattle.ps_store.specs.Store.{closed_part}
use Rattle.ps_step.specs.Composites.{putting_objects}
use Rattle.ps_step.proofs.composites.put_objects.Given as goal

-- what is left decides
abbrev pub invariant-loop-place : goal.invariant-loop-place
invariant-loop-place l = record {
  closed : closed_part l.store ≡ closed_part l.fn.store;
  rest : putting_objects l.store l.d l.rest ≡ putting_objects l.fn.store l.d l.items;
}

abbrev pub decreases-loop-place : goal.decreases-loop-place
decreases-loop-place l = length l.rest
