use Rattle.std.proofs.Common.{map, take}
use Rattle.ldb_cc.specs.Scanning.{items_of}
use Rattle.ldb_cc.specs.Parsing.{AreParsed}
use Rattle.ldb_cc.proofs.parsing.parse_all.Given as goal

abbrev pub invariant-loop-i : goal.invariant-loop-i
invariant-loop-i l = AreParsed (map items_of l.texts) (map items_of (take l.i l.texts)) l.trees
