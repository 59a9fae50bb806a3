use Rattle.std.proofs.Common.{◌≡◌, ◌+◌, ◌-◌, Some, vec_len}
use Rattle.std.specs.FinMap as map
use Rattle.ldb_edge.specs.Known.{FileMap}
use Rattle.cc_call.proofs.Fronted.{IsFront}
use Rattle.ldb_top.proofs.reading.read_front.Given as goal

abbrev pub invariant-loop-buf : goal.invariant-loop-buf
invariant-loop-buf g l = record {
  front : (known : FileMap) → g.F.Files.held l.fn.files ≡ Some known → IsFront (map.get known l.name) l.bytes.items;
  held : g.F.Files.held l.files ≡ g.F.Files.held l.fn.files;
  read : g.F.Files.read_faults l.files ≡ g.F.Files.read_faults l.fn.files;
  write : g.F.Files.write_faults l.files ≡ g.F.Files.write_faults l.fn.files;
}

abbrev pub decreases-loop-buf : goal.decreases-loop-buf
decreases-loop-buf g l = l.most + 1 - vec_len l.bytes
