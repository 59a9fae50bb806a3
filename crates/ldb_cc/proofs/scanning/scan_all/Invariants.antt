use Rattle.std.proofs.Common.{map, take}
use Rattle.ldb_cc.specs.Scanning.{AreScanned, items_of}
use Rattle.ldb_cc.proofs.scanning.scan_all.Given as goal

abbrev pub invariant-loop-i : goal.invariant-loop-i
invariant-loop-i l = AreScanned (map items_of (take l.i l.texts)) l.scanned
