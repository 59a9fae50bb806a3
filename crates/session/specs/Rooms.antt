-- A line that is written where memory was taken before, and the room that the line of an event wants.
use Rattle.std.specs.Prelude.{◌≡◌, ◌≤◌, ℕ, ◌+◌, List, [], ◌++◌, length, min, vec_capacity, Option, Some, None}
use Rattle.claims.specs.Side.{SideEvent, Stops}
use Rattle.session.specs.Events.{event_line}
use Rattle.session.specs.declared.line.Line.{Line}
use Rattle.session.specs.declared.replies.TheConstants.{EVENT_ROOM}

abbrev pub text_of : Line → List ℕ
text_of line = line.bytes.items

abbrev pub room_of : Line → ℕ
room_of line = vec_capacity line.bytes

-- these bytes come behind what stands in a line, where there is room for them
pub record Adds (old new : Line) (bytes : List ℕ) : Type 0 where
  pub room : room_of old ≤ room_of new
  pub text : length (text_of old) + length bytes ≤ room_of old → text_of new ≡ text_of old ++ bytes

-- nothing stands in a line yet, and there is room for so many bytes
abbrev pub IsEmptyFor : ℕ → Line → Type 0
IsEmptyFor n line = (text_of line ≡ []) × (n ≤ room_of line)

-- the room for the line of an event: that of a stop has two names
abbrev pub event_room : SideEvent → ℕ
event_room (Stops p) = EVENT_ROOM + (length p.file + length p.function)
event_room event = EVENT_ROOM

-- the line of an event is no longer than that
abbrev pub IsWithin : SideEvent → Type 0
IsWithin e = length (event_line e) ≤ event_room e

-- so many bytes as memory may have, where that is fewer
abbrev pub held_room : ℕ → ℕ
held_room n = min n 18446744073709551615

-- room for the event that a side keeps, if it keeps one
abbrev pub RoomForKept : ℕ → Option SideEvent → Type 0
RoomForKept room None = Unit {0}
RoomForKept room (Some e) = held_room (event_room e) ≤ room
