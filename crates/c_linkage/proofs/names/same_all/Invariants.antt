use Rattle.std.proofs.Common.{◌≡◌, map, drop}
use Rattle.c_typing.specs.Plain.{plain}
use Rattle.c_linkage.specs.Names.{same_all}
use Rattle.c_linkage.proofs.names.same_all.Given as goal

abbrev pub invariant-loop-i : goal.invariant-loop-i
invariant-loop-i l = same_all (map plain (drop l.i l.s)) (map plain (drop l.i l.t)) ≡ same_all (map plain l.s) (map plain l.t)
