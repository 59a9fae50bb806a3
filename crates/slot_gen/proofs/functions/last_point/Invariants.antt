use Rattle.std.proofs.Common.{◌≡◌, drop}
use Rattle.c_tree.specs.Points.{last_of}
use Rattle.slot_gen.proofs.Forms.{last_or}
use Rattle.slot_gen.proofs.functions.last_point.Given as goal

abbrev pub invariant-loop-q : goal.invariant-loop-q
invariant-loop-q l = last_or l.last (drop l.q-index l.points) ≡ last_of l.points
