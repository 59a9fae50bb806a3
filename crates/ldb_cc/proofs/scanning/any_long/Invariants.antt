use Rattle.std.proofs.Common.{◌≡◌, map, drop}
use Rattle.std.specs.List.{list_any}
use Rattle.ldb_cc.specs.Sources.{is_long}
use Rattle.ldb_cc.specs.Scanning.{items_of}
use Rattle.ldb_cc.proofs.scanning.any_long.Given as goal

abbrev pub invariant-loop-text : goal.invariant-loop-text
invariant-loop-text l = list_any is_long (map items_of (drop l.text-index l.texts)) ≡ list_any is_long (map items_of l.texts)
