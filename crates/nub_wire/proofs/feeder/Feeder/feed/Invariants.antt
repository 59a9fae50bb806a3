use Rattle.std.proofs.Common.{◌≡◌, ◌≤◌, ◌++◌, take, false}
use Rattle.nub_wire.specs.Spelling.{AllBytes}
use Rattle.nub_wire.specs.Held.{IsQuiet}
use Rattle.nub_wire.proofs.feeder.Feeder.feed.Given as goal

abbrev pub invariant-loop-index : goal.invariant-loop-index
invariant-loop-index l = record {
  held_is : l.self-inside.held.items ≡ l.initial.self-inside.held.items ++ take l.index l.piece;
  each : AllBytes l.self-inside.held.items;
  quiet : IsQuiet l.self-inside.held.items l.self-inside.missing;
  some : 1 ≤ l.self-inside.missing;
  start_is : l.self-inside.start ≡ l.initial.self-inside.start;
  is_good : l.self-inside.is_bad ≡ false;
}
