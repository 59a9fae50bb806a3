use Rattle.std.proofs.Common.{◌≡◌, ◌+◌, ◌*◌, ◌^◌, ◌≤◌, take}
use Rattle.ldb_top.specs.Words.{value_of}
use Rattle.ldb_top.proofs.number.value_of.Given as goal

abbrev pub invariant-loop-digit : goal.invariant-loop-digit
invariant-loop-digit l = record {
  so_far : l.number ≡ value_of (take l.digit-index l.digits);
  small : l.number + 23 ≤ 23 * 10 ^ l.digit-index;
}
