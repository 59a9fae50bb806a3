use Rattle.std.proofs.Common.{◌≡◌, ◌≤◌, ◌++◌, map, drop}
use Rattle.c_tree.specs.Layout.{AreLaid}
use Rattle.c_struct.specs.Structs.{written}
use Rattle.c_struct.specs.Opened.{written_member}
use Rattle.c_struct.proofs.laying.lay.Given as goal

abbrev pub invariant-loop-m : goal.invariant-loop-m
invariant-loop-m l = record {
  laid : AreLaid l.defs 0 l.laid l.end;
  members : (map written l.laid ++ map written_member (drop l.m-index l.written)) ≡ map written_member l.written;
  within : l.end ≤ 1048576;
}
