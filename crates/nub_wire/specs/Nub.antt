-- The nub: its reply to each message, and the nub and machine after it.
use Rattle.std.specs.Prelude.{ℕ, zero, suc, ◌+◌, nat_eq, Bool, true, false, if◌then◌else◌, List, [], ◌++◌, length, option_to_list, Option, None, Some, Result, Ok, Err}
use Rattle.ldb_words.specs.declared.event.Event.{Event}
use Rattle.ldb_words.specs.declared.event.Event.TheVariants as event
use Rattle.ldb_words.specs.declared.event.Outside.{Outside}
use Rattle.machine_state.specs.State.{MachineState, Behaviour, order_of, with_memory, given_input}
use Rattle.machine_state.specs.Regions.{read_of, write_of}
use Rattle.machine_state.specs.declared.layout.TheConstants.{CONTEXT}
use Rattle.nub_wire.specs.declared.message.Msg.{Msg}
use Rattle.nub_wire.specs.declared.message.Msg.TheVariants as msg
use Rattle.nub_wire.specs.declared.message.Ending.{Ending}
use Rattle.machine_state.specs.declared.target.Cause.{Cause}
use Rattle.machine_state.specs.declared.target.Cause.TheVariants as cause
use Rattle.nub_wire.specs.Spelling.{size_byte}
use Rattle.nub_wire.specs.Endings.{ending_of, reply_of, is_final}

-- Whether it was killed; whether bytes began no frame; how its run ended, if it ended for good or this is still to be
-- told; the turns left of an open resume, if one is open; the output gathered. The machine counts the input got in all.
pub record NubState : Type 0 where
  pub killed : Bool
  pub blocked : Bool
  pub ended : Option Ending
  pub left : Option ℕ
  pub output : List ℕ

-- a nub and its machine
pub record Host : Type 0 where
  pub nub : NubState
  pub machine : MachineState

abbrev pub Replied : Type 0
Replied = Option Msg × Host

abbrev pub host : NubState → MachineState → Host
host nub machine = record { nub = nub; machine = machine }

-- before any message: the context block is saved
abbrev pub first_host : Behaviour → MachineState → Host
first_host b m = host (record { killed = false; blocked = false; ended = None; left = None; output = [] }) (b.saved m).1

-- ---- messages

-- where the context block has pc: its word 34
abbrev pub PC_PLACE : ℕ
PC_PLACE = CONTEXT + 136

abbrev pub fetch_reply : Result ℕ Outside → Msg
fetch_reply (Ok value) = msg.Word value
fetch_reply (Err e) = msg.Outside

abbrev pub done_or_outside : Bool → Msg
done_or_outside done = if done then msg.Done else msg.Outside

abbrev pub after_done : NubState → Bool × MachineState → Replied
after_done nub p = (Some (done_or_outside p.0), host nub p.1)

-- a resume of a run that ended for good gets its reply again, which changes nothing
abbrev pub resumed : Behaviour → ℕ → Option Ending → Host → Replied
resumed b turns (Some e) h = (Some (reply_of e), h)
resumed b turns None h = (None, host (record h.nub { left = Some turns }) (b.restored h.machine))

unfoldable pub served : Behaviour → Msg → Host → Replied
served b msg.Hello h = (Some (msg.Word CONTEXT), h)
served b (msg.Fetch address s) h = (Some (fetch_reply (read_of (order_of h.machine) h.machine.memory address (size_byte s))), h)
served b (msg.Store address s value) h = after_done h.nub (with_memory (write_of (order_of h.machine) h.machine.memory address (size_byte s) value) h.machine)
served b (msg.Resume turns) h = resumed b turns h.nub.ended h
served b msg.Kill h = (Some msg.Done, host (record h.nub { killed = true }) h.machine)
served b (msg.Input bytes) h = after_done h.nub (given_input bytes h.machine)
served b (msg.Word value) h = (Some msg.Outside, h)
served b msg.Done h = (Some msg.Outside, h)
served b msg.Outside h = (Some msg.Outside, h)
served b (msg.Stopped why pc) h = (Some msg.Outside, h)
served b (msg.Output bytes) h = (Some msg.Outside, h)
served b (msg.Exited status) h = (Some msg.Outside, h)
served b (msg.Faulted fault pc) h = (Some msg.Outside, h)
served b msg.Turns h = (Some msg.Outside, h)
served b msg.Stack h = (Some msg.Outside, h)

-- the reply to a message, if it doesn't come later, where no resume is open
unfoldable pub handled : Behaviour → Msg → Host → Replied
handled b m h = if h.nub.blocked then (None, h) else if h.nub.killed then (Some msg.Outside, h) else served b m h

-- bytes came that begin no frame: nothing is answered from then on
abbrev pub blocked : Host → Host
blocked h = host (record h.nub { blocked = true }) h.machine

-- ---- turns of an open resume

abbrev pub word_or_zero : Result ℕ Outside → ℕ
word_or_zero (Ok value) = value
word_or_zero (Err e) = 0

-- the context's pc
abbrev pub pc_of : MachineState → ℕ
pc_of m = word_or_zero (read_of (order_of m) m.memory PC_PLACE 4)

abbrev pub ended_by : Behaviour → Cause → NubState → Bool × MachineState → Host
ended_by b c nub s = host (record nub { ended = Some (ending_of c s.0 (pc_of s.1)) }) s.1

-- the run ended: the windows are flushed and the context block is saved
unfoldable pub concluded : Behaviour → Cause → Host → Host
concluded b c h = ended_by b c h.nub (b.saved h.machine)

-- where no turns are left the run has ended
abbrev pub settle : Behaviour → Option Ending → Option ℕ → Host → Host
settle b None (Some zero) h = concluded b cause.Turns h
settle b None (Some (suc n)) h = h
settle b None None h = h
settle b (Some e) left h = h

unfoldable pub settled : Behaviour → Host → Host
settled b h = settle b h.nub.ended h.nub.left h

-- the output gathered, as a message
abbrev pub told_output : Host → Replied
told_output h = (Some (msg.Output h.nub.output), host (record h.nub { output = [] }) h.machine)

-- the message that ends the resume; an end for good is kept
abbrev pub told_ending : Ending → Host → Replied
told_ending e h = (Some (reply_of e), host (record h.nub { ended = if is_final e then Some e else None; left = None }) h.machine)

-- output goes before the end, and where 1,024 bytes have gathered
abbrev pub due : Option Ending → Host → Replied
due (Some e) h = if nat_eq (length h.nub.output) 0 then told_ending e h else told_output h
due None h = if nat_eq (length h.nub.output) 1024 then told_output h else (None, h)

-- the message that is due in an open resume, if one is
unfoldable pub due_of : Behaviour → Host → Replied
due_of b h = let s = settled b h in due s.nub.ended s

-- the output with the byte that was put
abbrev pub with_output : Host → Host
with_output h = host (record h.nub { output = h.nub.output ++ option_to_list h.machine.put }) (record h.machine { put = None })

unfoldable pub requested : Behaviour → ℕ → Host → Host
requested b n h =
    if nat_eq n 2 then with_output h
    else if nat_eq n 3 then concluded b (cause.Exit (b.argument h.machine)) h
    else if nat_eq n 4 then concluded b cause.Pause h
    else if nat_eq n 5 then concluded b cause.Stack h
    else h

-- a step that completed is a turn
abbrev pub turned : ℕ → NubState → MachineState → Host
turned n nub m = host (record nub { left = Some n }) m

unfoldable pub acted : Behaviour → ℕ → NubState → Event × MachineState → Host
acted b n nub (event.Went, m) = turned n nub m
acted b n nub (event.Break, m) = concluded b cause.Break (host nub m)
acted b n nub (event.Request number, m) = requested b number (turned n nub m)
acted b n nub (event.Fault kind, m) = concluded b (cause.Fault kind) (host nub m)

abbrev pub advance : Behaviour → Option ℕ → Host → Host
advance b (Some (suc n)) h = acted b n h.nub (b.next h.machine)
advance b (Some zero) h = h
advance b None h = h

-- one instruction of an open resume
unfoldable pub advanced : Behaviour → Host → Host
advanced b h = advance b h.nub.left h

abbrev pub or_then : Replied → (Host → Replied) → Replied
or_then (Some m, h) go = (Some m, h)
or_then (None, h) go = go h

-- at most n instructions, up to the next message that is due
unfoldable pub running : Behaviour → ℕ → Host → Replied
running b zero h = due_of b h
running b (suc n) h = or_then (due_of b h) (λ h'. running b n (advanced b h'))

abbrev pub if_open : Option ℕ → Replied → Replied → Replied
if_open None shut going = shut
if_open (Some n) shut going = going

-- at most n instructions of an open resume, and the next message; nothing where none is open
unfoldable pub turn_of : Behaviour → ℕ → Host → Replied
turn_of b n h = if_open h.nub.left (None, h) (running b n h)
