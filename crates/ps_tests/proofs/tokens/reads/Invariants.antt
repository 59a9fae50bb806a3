use Rattle.std.proofs.Common.{◌≤◌, length}
use Rattle.ps_tests.proofs.tokens.reads.Given as goal

abbrev pub invariant-loop-row : goal.invariant-loop-row
invariant-loop-row g l = l.at ≤ length l.text
