use Rattle.std.proofs.Common.{◌≡◌, ◌++◌, drop, map}
use Rattle.gen_parts.specs.Rows.{saved_place}
use Rattle.gen_parts.proofs.rows.saved_of.Given as goal

abbrev pub invariant-loop-register : goal.invariant-loop-register
invariant-loop-register l = l.rows.items ++ map (saved_place l.frame) (drop l.register-index l.saved) ≡ map (saved_place l.frame) l.saved
