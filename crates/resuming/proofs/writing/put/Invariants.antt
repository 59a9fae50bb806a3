use Rattle.std.proofs.Common.{◌≡◌, ◌-◌, ◌≤◌, length, take}
use Rattle.ldb_edge.specs.Known.{known_and}
use Rattle.resuming.proofs.writing.put.Given as goal

abbrev pub invariant-loop-done : goal.invariant-loop-done
invariant-loop-done g l = record {
  front : g.S.Sink.taken l.sink ≡ known_and (g.S.Sink.taken l.fn.sink) (take l.done l.bytes);
  within : l.done ≤ length l.bytes;
  counts : g.S.Sink.faults l.sink ≡ g.S.Sink.faults l.fn.sink;
  led : g.S.Sink.leads l.fn.sink l.sink;
}

abbrev pub decreases-loop-done : goal.decreases-loop-done
decreases-loop-done g l = length l.bytes - l.done
