-- A `break` or `clear` that is done on the first side is undone there, where the second one has no memory for it.
use Rattle.std.specs.Prelude.{◌≡◌, ℕ, List, [], map, Option, Result, Ok, Err}
use Rattle.ldb_edge.specs.Count.{Rose}
use Rattle.machine_state.specs.Regions.{Regions}
use Rattle.machine_state.specs.State.{Behaviour}
use Rattle.nub_wire.specs.declared.link.Side.{Side}
use Rattle.nub_wire.specs.Nub.{Host}
use Rattle.nub_wire.specs.Delivery.{Conduct, World}
use Rattle.frame_bytes.specs.Bytes.{Bytes}
use Rattle.abs_mem.specs.WireMeaning.{memory_of}
use Rattle.abs_mem.specs.declared.memory.MemFault.TheVariants.{LinkFault, BadReply}
use Rattle.wire_talk.specs.declared.fault.TalkFault.{TalkFault}
use Rattle.wire_talk.specs.declared.fault.TalkFault.TheVariants as talk
use Rattle.resuming.specs.Standing.{Stands}
use Rattle.break_plant.specs.Planted.{noop_of}
use Rattle.table_points.specs.declared.row.Point.{Point}
use Rattle.debug_side.specs.Meant.{address_of}
use Rattle.debug_side.specs.Wrote.{words_put}
use Rattle.debug_side.specs.There.{words_at, all_there}
use Rattle.debug_side.specs.Told.{with_regions}
use Rattle.debug_side.specs.declared.there.WordThere.{WordThere}
use Rattle.debug_side.specs.declared.there.ReadFault.{ReadFault}
use Rattle.debug_side.specs.declared.there.ReadFault.TheVariants as read
use Rattle.table_asks.specs.declared.fault.AskFault.{AskFault}
use Rattle.table_asks.specs.declared.fault.AskFault.TheVariants.{NoMemory, Broken}
use Rattle.c_session.specs.declared.command.Command.{Command}
use Rattle.c_session.specs.declared.command.Command.TheVariants as command

-- why what stands at breakpoints isn't read, as a fault of a command
abbrev pub unread : ReadFault → AskFault
unread read.NoMemory = NoMemory
unread (read.Talk talk.LinkFault) = Broken LinkFault
unread (read.Talk (talk.BadReply frame)) = Broken (BadReply frame)

-- what stands at breakpoints, for a command that writes over it
abbrev pub words_before : Command → Bytes → List Point → List WordThere
words_before (command.Clear spot) b ps = words_at b ps
words_before c b ps = []

-- The memory once the command is undone: the no-op is where `break` put the break word, and what was read is where `clear` put the no-op.
abbrev pub undone_in : Command → (target : ℕ) → (added : List Point) → List WordThere → Bytes → Regions
undone_in (command.Break spot) target added words b = words_put b.order (noop_of target) (map address_of added) b.regions
undone_in (command.Clear spot) target added words b = all_there b.order words b.regions
undone_in c target added words b = b.regions

abbrev pub undone_host : Command → (target : ℕ) → (added : List Point) → List WordThere → Host → Host
undone_host c target added words h = with_regions h (undone_in c target added words (memory_of h.machine))

-- why a command isn't done that was undone
abbrev pub wanting : Result (Unit {0}) TalkFault → AskFault
wanting (Ok x) = NoMemory
wanting (Err talk.LinkFault) = Broken LinkFault
wanting (Err (talk.BadReply frame)) = Broken (BadReply frame)

module _ (faults faults' : ℕ) where
  -- It was read over a link whose nubs meet their definition. A link that failed has counted it, and brought no bad reply.
  abbrev pub ReadsBefore : (Stays : Type 0) → (words : List WordThere) → Result (List WordThere) AskFault → Type 0
  ReadsBefore Stays words (Ok read) = (faults' ≡ faults) × Stays × (read ≡ words)
  ReadsBefore Stays words (Err NoMemory) = (faults' ≡ faults) × Stays
  ReadsBefore Stays words (Err (Broken LinkFault)) = Rose faults faults'
  ReadsBefore Stays words (Err fault) = ⊥

  -- words are put back, over such a link
  abbrev pub PutsBack : (Done : Type 0) → Result (Unit {0}) TalkFault → Type 0
  PutsBack Done (Ok x) = (faults' ≡ faults) × Done
  PutsBack Done (Err talk.LinkFault) = Rose faults faults'
  PutsBack Done (Err (talk.BadReply frame)) = ⊥

  -- why a command isn't done on either side once the second one was asked: memory was wanting there, or the link failed
  abbrev pub IsGivenUp : (Done : Type 0) → AskFault → Type 0
  IsGivenUp Done NoMemory = Done
  IsGivenUp Done (Broken LinkFault) = Rose faults faults'
  IsGivenUp Done fault = ⊥
