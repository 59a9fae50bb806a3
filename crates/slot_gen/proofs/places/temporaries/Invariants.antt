use Rattle.std.proofs.Common.{◌≤◌, ℕ, drop}
use Rattle.slot_gen.specs.Bounds.{AreBelow}
use Rattle.slot_gen.proofs.places.temporaries.Given as goal

-- what bounds the operators that follow and is at least this number bounds all, and what bounds all is at least this number
abbrev pub invariant-loop-i : goal.invariant-loop-i
invariant-loop-i l = record {
  below : (m : ℕ) → l.most ≤ m → AreBelow m (drop l.i l.code) → AreBelow m l.code;
  least : (m : ℕ) → AreBelow m l.code → l.most ≤ m;
}
