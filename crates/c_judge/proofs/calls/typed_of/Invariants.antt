use Rattle.std.proofs.Common.{◌≡◌, map}
use Rattle.c_judge.specs.Calls.{typed_in}
use Rattle.c_judge.proofs.calls.typed_of.Given as goal

abbrev pub invariant-loop-part : goal.invariant-loop-part
invariant-loop-part l = l.typed.items ≡ map typed_in l.yielded
