use Rattle.std.proofs.Common.{◌≡◌, ◌+◌, ◌≤◌, sum, map, drop}
use Rattle.c_mentions.specs.Tags.{now}
use Rattle.c_rows.specs.Rooms.{text_room}
use Rattle.c_rows.proofs.static_room.strings_room.Given as goal

abbrev pub invariant-loop-text : goal.invariant-loop-text
invariant-loop-text l = record {
  most : l.total ≤ 1048576;
  all : l.total + sum (map text_room (map now (drop l.text-index l.strings))) ≡ l.fn.objects + sum (map text_room (map now l.strings));
}
