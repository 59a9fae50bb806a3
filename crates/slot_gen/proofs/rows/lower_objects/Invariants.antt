use Rattle.std.proofs.Common.{take}
use Rattle.slot_gen.specs.Rows.{EachFrom, IsObjectOf}
use Rattle.slot_gen.proofs.rows.lower_objects.Given as goal

abbrev pub invariant-loop-row : goal.invariant-loop-row
invariant-loop-row l = EachFrom (IsObjectOf l.program) 0 (take l.row-index l.objects) l.rows.items
