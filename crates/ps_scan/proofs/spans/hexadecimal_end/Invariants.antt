use Rattle.std.proofs.Common.{◌≡◌, ◌≤◌, ◌-◌, drop, length}
use Rattle.ps_scan.specs.Spans.{hexadecimal_end}
use Rattle.ps_scan.proofs.spans.hexadecimal_end.Given as goal

-- what is left decides
abbrev pub invariant-loop-i : goal.invariant-loop-i
invariant-loop-i l = record {
  within : l.i ≤ length l.text;
  after : l.fn.at ≤ l.i;
  rest : hexadecimal_end l.i (drop l.i l.text) ≡ hexadecimal_end l.fn.at (drop l.fn.at l.text);
}

abbrev pub decreases-loop-i : goal.decreases-loop-i
decreases-loop-i l = length l.text - l.i
