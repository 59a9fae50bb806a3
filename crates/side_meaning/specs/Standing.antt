-- How a side, as a debugger has it, stands for a side of the machine session.
use Rattle.std.specs.Prelude.{◌≡◌, ◌≢◌, ◌⊎◌, ℕ, true, false, List, [], map, option_map, Option, Some, None, Ok}
use Rattle.std.specs.List.{list_all}
use Rattle.nub_wire.specs.declared.message.Ending.{Ending}
use Rattle.nub_wire.specs.Nub.{Host}
use Rattle.frame_bytes.specs.Bytes.{bytes_of}
use Rattle.ps_store.specs.Held.{Held}
use Rattle.ps_store.specs.declared.object.Part.TheVariants.{Command}
use Rattle.ps_store.specs.StoreState.{StoreState}
use Rattle.table_model.specs.Places.{all_points}
use Rattle.table_points.specs.declared.row.Point.{Point}
use Rattle.table_points.specs.Rows.{row_in}
use Rattle.debug_side.specs.declared.event.Event.{Event}
use Rattle.debug_side.specs.declared.event.Event.TheVariants as event
use Rattle.debug_side.specs.declared.point.SideRow.{SideRow}
use Rattle.debug_side.specs.Meant.{stands_in_text}
use Rattle.debug_side.specs.Told.{behind}
use Rattle.debug_side.specs.Planting.{PutsWords}
use Rattle.claims.specs.Side.{SideEvent, Stops, Pauses, Exits, Faults, OutOfTurns, OutOfStack, is_final, SideState}

-- its table and its chosen frame, what is kept of it, and its nub with its machine
pub record Debugged : Type 0 where
  pub table : StoreState
  pub frame : ℕ
  pub row : SideRow
  pub host : Host

-- ---- events

abbrev pub event_in : StoreState → Event → SideEvent
event_in s (event.Stops p) = Stops (row_in s p)
event_in s (event.Pauses pc) = Pauses pc
event_in s (event.Exits status) = Exits status
event_in s (event.Faults kind pc) = Faults kind pc
event_in s event.OutOfTurns = OutOfTurns
event_in s event.OutOfStack = OutOfStack

abbrev pub events_in : StoreState → Option Event → Option SideEvent
events_in s e = option_map (event_in s) e

-- where the nub's run ended for good the side keeps an event after which nothing runs
abbrev pub EndsWith : (kept : Option SideEvent) → (ended : Option Ending) → Type 0
EndsWith None ended = ended ≡ None
EndsWith (Some k) ended = (ended ≡ None) ⊎ (is_final k ≡ true)

-- ---- tables

abbrev pub no_objects : Held
no_objects = record { arrays = []; dicts = []; strings = []; units = 0 }

-- the same table, where what is made is a command's, and no objects of a command beside it
pub record IsTable (s t : StoreState) : Type 0 where
  pub same : t ≡ record s { part = Command }
  pub command : s.command ≡ no_objects

-- ---- words of a step

-- the nub and machine with the no-ops back at the words of a step
abbrev pub cleared : SideRow → Host → Host
cleared row h = behind false h.machine.target row.step_words.items h

-- the words of a step are known to the other side too, or none are there
pub record IsPlanted (s : StoreState) (row : SideRow) (h : Host) (a : SideState) : Type 0 where
  pub words : a.step_words ≡ map (row_in s) row.step_words.items
  pub machine : a.machine ≡ h.machine

-- the words of a step are left in the text, where the other side has them no more
pub record IsLeft (row : SideRow) (h : Host) (a : SideState) : Type 0 where
  pub stay : row.words_stay ≡ true
  pub words : a.step_words ≡ []
  pub machine : a.machine ≡ (cleared row h).machine

-- What the words of a step were put at: all points of the table. They stand in the text, and a step from where the no-ops are back would
-- put the very words that stand.
pub record IsAgain (d : Debugged) (t : StoreState) : Type 0 where
  pub points : List Point
  pub all : all_points t ≡ Ok (map (row_in d.table) points)
  pub in_text : list_all stands_in_text points ≡ true
  pub puts : PutsWords d.host.machine.target (bytes_of (cleared d.row d.host).machine) points d.row.step_words.items (bytes_of d.host.machine)

-- so it is where such words may stay, if there are any
abbrev pub StaysAgain : Debugged → StoreState → Type 0
StaysAgain d t = d.row.words_stay ≡ true → (d.row.step_words.items ≡ []) ⊎ IsAgain d t

-- ---- a side

-- the same breakpoints, kept event, and place of the stop; and the machine, but for words that are left
pub record IsAlike (s : StoreState) (row : SideRow) (h : Host) (a : SideState) : Type 0 where
  pub breaks : a.breaks ≡ map (row_in s) row.breaks.items
  pub stands_at : a.stands_at ≡ row.stands_at
  pub kept : a.kept ≡ events_in s row.kept
  pub words : IsPlanted s row h a ⊎ IsLeft row h a

-- That its turns were used up is no event that a side keeps.
pub record StandsFor (d : Debugged) (a : SideState) : Type 0 where
  pub table : IsTable d.table a.table
  pub frame : a.frame ≡ d.frame
  pub alike : IsAlike d.table d.row d.host a
  pub ended : EndsWith a.kept d.host.nub.ended
  pub unended : a.kept ≢ Some OutOfTurns
  pub again : StaysAgain d a.table

-- a side that has no event yet runs with the words that are known
abbrev pub MayResume : Debugged → SideState → Type 0
MayResume d a = d.row.kept ≡ None → IsPlanted d.table d.row d.host a
