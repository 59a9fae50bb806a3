use Rattle.std.proofs.Common.{ℕ, ◌<◌, ◌≤◌}
use Rattle.std.specs.Prelude.{slice_index_or}
use Rattle.table_points.specs.declared.row.Point.{Point}
use Rattle.table_points.specs.Rows.{row_in}
use Rattle.claims.specs.Side.{Stops}
use Rattle.session.specs.Rooms.{event_room, held_room}
use Rattle.session.specs.declared.replies.TheConstants.{EVENT_ROOM}
use Rattle.session.proofs.replies.room_for.Given as goal

abbrev pub invariant-loop-point : goal.invariant-loop-point
invariant-loop-point l = record {
  least : l.least ≤ l.most;
  other : EVENT_ROOM ≤ l.most;
  each : (k : ℕ) (d : Point) → k < l.point-index → held_room (event_room (Stops (row_in l.table (slice_index_or l.points k d)))) ≤ l.most;
}
