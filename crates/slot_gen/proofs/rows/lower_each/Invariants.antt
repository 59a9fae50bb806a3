use Rattle.std.proofs.Common.{◌≡◌, take}
use Rattle.slot_gen.specs.Rows.{EachFrom, IsLocalOf}
use Rattle.slot_gen.proofs.rows.lower_each.Given as goal

abbrev pub invariant-loop-local : goal.invariant-loop-local
invariant-loop-local l = record {
  made : EachFrom (IsLocalOf l.program l.registers) 0 (take l.local-index l.locals) l.rows.items;
  number : l.x ≡ l.local-index;
}
