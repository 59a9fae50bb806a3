use Rattle.std.proofs.Common.{◌≡◌, ◌++◌, map, drop}
use Rattle.c_typing.specs.Plain.{plain}
use Rattle.c_linkage.specs.Names.{defining}
use Rattle.c_rows.specs.Objects.{object_said, said_all}
use Rattle.c_rows.proofs.starts.object_rows.Given as goal

abbrev pub invariant-loop-i : goal.invariant-loop-i
invariant-loop-i l = (map object_said l.rows.items ++ said_all l.places l.starts (map defining (drop l.i l.objects)) (map plain (drop l.i l.types))) ≡ said_all l.places l.starts (map defining l.objects) (map plain l.types)
