use Rattle.std.proofs.Common.{◌≡◌, ◌≤◌, drop}
use Rattle.c_lex.specs.Numbers.{number_from}
use Rattle.c_lex.proofs.number.number_from.Given as goal

abbrev pub invariant-loop-b : goal.invariant-loop-b
invariant-loop-b l = record {
  same : number_from l.base l.number (drop l.b-index l.digits) ≡ number_from l.base 0 l.digits;
  small : l.number ≤ 4294967295;
}
