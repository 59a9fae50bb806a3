use Rattle.std.proofs.Common.{◌≡◌, ◌+◌, ◌≤◌, sum, map, drop}
use Rattle.c_typing.specs.Plain.{plain}
use Rattle.c_rows.specs.Rooms.{room_of}
use Rattle.c_rows.proofs.static_room.objects_room.Given as goal

abbrev pub invariant-loop-t : goal.invariant-loop-t
invariant-loop-t l = record {
  most : l.total ≤ 1048576;
  all : l.total + sum (map (room_of l.defs) (map plain (drop l.t-index l.types))) ≡ sum (map (room_of l.defs) (map plain l.types));
}
