-- The point of a stop, and the event of a run.
use Rattle.std.specs.Prelude.{◌≡◌, ℕ, ◌%◌, ◌&&◌, nat_eq, nat_lt, Bool, true, false, if◌then◌else◌, List, [], ◌∷◌, Option, Some, None}
use Rattle.ldb_words.specs.declared.event.FaultKind.TheVariants as kind
use Rattle.machine_state.specs.declared.layout.TheConstants.{DATA}
use Rattle.nub_wire.specs.declared.message.Ending.{Ending}
use Rattle.nub_wire.specs.declared.message.Ending.TheVariants as ending
use Rattle.nub_wire.specs.declared.message.Reason.TheVariants as reason
use Rattle.table_points.specs.declared.row.Point.{Point}
use Rattle.debug_side.specs.declared.event.Event.{Event}
use Rattle.debug_side.specs.declared.event.Event.TheVariants as event
use Rattle.debug_side.specs.declared.point.SideRow.{SideRow}

abbrev pub address_of : Point → ℕ
address_of p = p.at

-- the first of some points at an address
abbrev pub point_at : List Point → ℕ → Option Point
point_at [] at = None
point_at (p ∷ ps) at = if nat_eq p.at at then Some p else point_at ps at

abbrev pub stop_or : Option Point → Event → Event
stop_or None e = e
stop_or (Some p) e = event.Stops p

-- a point with a breakpoint, else one of a step; a break where none was put is a fault
abbrev pub stop_of : (breaks words : List Point) → (pc : ℕ) → Event
stop_of breaks words pc = stop_or (point_at breaks pc) (stop_or (point_at words pc) (event.Faults kind.Break pc))

abbrev pub event_of : (breaks words : List Point) → Ending → Event
event_of breaks words (ending.Stopped reason.Break pc) = stop_of breaks words pc
event_of breaks words (ending.Stopped reason.Pause pc) = event.Pauses pc
event_of breaks words (ending.Exited status) = event.Exits status
event_of breaks words (ending.Faulted fault pc) = event.Faults fault pc
event_of breaks words ending.Turns = event.OutOfTurns
event_of breaks words ending.Stack = event.OutOfStack

abbrev pub stop_address : Event → Option ℕ
stop_address (event.Stops p) = Some p.at
stop_address e = None

-- the event of a resume: the one that a side keeps, else that of its run's end
abbrev pub met : Option Event → (breaks words : List Point) → Event → Type 0
met (Some k) breaks words e = e ≡ k
met None breaks words e = (ending : Ending) × (e ≡ event_of breaks words ending)

abbrev pub Met : SideRow → Event → Type 0
Met row e = met row.kept row.breaks.items row.step_words.items e

-- where a side stands behind its event: one that keeps its event isn't moved
abbrev pub stood : Option Event → Option ℕ → Event → Option ℕ
stood (Some k) at e = at
stood None at e = stop_address e

abbrev pub is_turns : Event → Bool
is_turns event.OutOfTurns = true
is_turns e = false

-- no store of a program changes the word, and no two such words overlap
abbrev pub stands_in_text : Point → Bool
stands_in_text p = nat_eq (p.at % 4) 0 && nat_lt p.at DATA

-- the words of a step are left where they may stay, and where a side that kept no event used up its turns
abbrev pub keeps_words : (stay : Bool) → Option Event → Event → Bool
keeps_words true kept e = true
keeps_words false (Some k) e = false
keeps_words false None e = is_turns e

-- the points at which a word of a step is left behind an event
abbrev pub words_left : SideRow → Event → List Point
words_left row e = if keeps_words row.words_stay row.kept e then row.step_words.items else []
