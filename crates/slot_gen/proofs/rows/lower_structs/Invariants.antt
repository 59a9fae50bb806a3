use Rattle.std.proofs.Common.{◌≡◌, take}
use Rattle.slot_gen.specs.Rows.{EachFrom, IsStructOf}
use Rattle.slot_gen.proofs.rows.lower_structs.Given as goal

abbrev pub invariant-loop-def : goal.invariant-loop-def
invariant-loop-def l = record {
  made : EachFrom (IsStructOf l.program) 0 (take l.def-index l.defs) l.rows.items;
  number : l.number ≡ l.def-index;
}
