-- The event of a side over its table, and the line that tells it.
use Rattle.std.specs.Prelude.{ℕ, List, ◌++◌, codes, Option, option_map}
use Rattle.ps_store.specs.StoreState.{StoreState}
use Rattle.table_points.specs.Rows.{row_in}
use Rattle.debug_side.specs.declared.event.Event.{Event}
use Rattle.debug_side.specs.declared.event.Event.TheVariants as event
use Rattle.claims.specs.Side.{SideEvent, Stops, Pauses, Exits, Faults, OutOfTurns, OutOfStack}
use Rattle.claims.specs.Lines.{event_text}

abbrev pub event_in : StoreState → Event → SideEvent
event_in s (event.Stops p) = Stops (row_in s p)
event_in s (event.Pauses pc) = Pauses pc
event_in s (event.Exits status) = Exits status
event_in s (event.Faults kind pc) = Faults kind pc
event_in s event.OutOfTurns = OutOfTurns
event_in s event.OutOfStack = OutOfStack

abbrev pub events_in : StoreState → Option Event → Option SideEvent
events_in s e = option_map (event_in s) e

-- the line of an event, with its LF
abbrev pub event_line : SideEvent → List ℕ
event_line e = event_text e ++ codes "\n"
