use Rattle.std.proofs.Common.{◌≡◌, length}
use Rattle.slot_gen.proofs.Placed.{Noted}
use Rattle.slot_gen.proofs.places.places.Given as goal

abbrev pub invariant-loop-op : goal.invariant-loop-op
invariant-loop-op l = record {
  noted : Noted l.code l.first l.op-index l.places.items;
  many : length l.places.items ≡ length l.points;
  number : l.at ≡ l.op-index;
}
