use Rattle.std.proofs.Common.{◌≡◌, take}
use Rattle.slot_gen.specs.Rows.{EachFrom, IsFunctionOf}
use Rattle.slot_gen.proofs.rows.lower_functions.Given as goal

abbrev pub invariant-loop-function : goal.invariant-loop-function
invariant-loop-function l = record {
  made : EachFrom (IsFunctionOf l.program) 0 (take l.function-index l.functions) l.rows.items;
  number : l.number ≡ l.function-index;
}
