use Rattle.std.proofs.Common.{◌≡◌, Some, map, take, length, string_bytes}
use Rattle.ldb_edge.specs.Known.{FileMap}
use Rattle.ldb_cc.specs.Scanning.{items_of}
use Rattle.cc_call.specs.Found.{AreRead}
use Rattle.cc_call.proofs.reading.read_all.Given as goal

abbrev pub invariant-loop-i : goal.invariant-loop-i
invariant-loop-i g l = record {
  read_so_far : (known : FileMap) → g.F.Files.held l.fn.files ≡ Some known → AreRead known (map string_bytes (take l.i l.names)) (map items_of l.texts.items);
  count : length l.texts.items ≡ l.i;
  same : g.F.Files.held l.files ≡ g.F.Files.held l.fn.files;
  read : g.F.Files.read_faults l.files ≡ g.F.Files.read_faults l.fn.files;
  write : g.F.Files.write_faults l.files ≡ g.F.Files.write_faults l.fn.files;
}
