-- How what a command asks of one side, by an inquiry of its table, stands for a command of the machine session.
use Rattle.std.specs.Prelude.{◌≡◌, ℕ, true, List, [], ◌∷◌, ◌++◌, Option, Some, None, Result, Ok, Err}
use Rattle.machine_state.specs.declared.layout.TheConstants.{CONTEXT}
use Rattle.machine_state.specs.Sound.{IsMemory}
use Rattle.ps_store.specs.declared.object.Part.TheVariants.{Command}
use Rattle.ps_store.specs.Held.{Held}
use Rattle.ps_store.specs.Cut.{mark_of, cut}
use Rattle.dialect_model.specs.Dial.{Dial, Target, Numbered}
use Rattle.dialect_model.specs.TableUse.{TableUse, use_of, Trouble, Kind, Wanting, Eval}
use Rattle.dialect_model.specs.TableUse.{Refused as RefusedFor, Spent as StepsSpent}
use Rattle.c_session.specs.declared.command.Spot.{Spot}
use Rattle.table_asks.specs.declared.fault.Cause.{Cause}
use Rattle.table_asks.specs.declared.fault.AskFault.{AskFault}
use Rattle.table_asks.specs.declared.fault.AskFault.TheVariants.{Refused, Raised, Spent, NoMemory, Broken}
use Rattle.table_asks.specs.declared.inquiry.Inquiry.{Inquiry}
use Rattle.table_asks.specs.Asking.{Comes, left_of}
use Rattle.asking.specs.Refusals.{refusal_of}
use Rattle.asking.specs.Lines.{line}
use Rattle.asking.specs.Doing.{Change as Stored}
use Rattle.asking.specs.Frames as asked_frames
use Rattle.asking.specs.Breaks as asked_breaks
use Rattle.asking.specs.Raw as asked_raw
use Rattle.claims.specs.Side.{SideState, Change, OnSide, Troubled, MOST_STEPS, row_of, memory_of, with_memory, with_table_of, dial_of}
use Rattle.claims.specs.Outcome as outcome
use Rattle.claims.specs.Frames as side_frames
use Rattle.claims.specs.Breaks as side_breaks
use Rattle.claims.specs.Raw as side_raw

-- ---- parts of commands

-- the same trouble, refused for the same reason
abbrev pub trouble_in : Trouble Cause → Troubled
trouble_in (RefusedFor cause) = RefusedFor (refusal_of cause)
trouble_in (Kind e) = Kind e
trouble_in StepsSpent = StepsSpent
trouble_in Wanting = Wanting

module _ {A B : Type 0} (P : A → B → Type 0) where
  abbrev pub Matches : Result A (Trouble Cause) → Result B Troubled → Type 0
  Matches (Ok x) (Ok y) = P x y
  Matches (Err e) (Err f) = f ≡ trouble_in e
  Matches (Ok x) (Err f) = ⊥
  Matches (Err e) (Ok y) = ⊥

  -- a result that matches, to which the other part may come
  pub record Matched (n : OnSide B) (t : TableUse) (r : Result A (Trouble Cause)) (t' : TableUse) : Type 0 where
    pub result : Result B Troubled
    pub matches : Matches r result
    pub comes : n t result t'

  -- Whatever the one part comes to, the other one may come to as well.
  abbrev pub Covers : Eval Cause A → OnSide B → Type 0
  Covers m n = (t : TableUse) (r : Result A (Trouble Cause)) (t' : TableUse) → m t r t' → Matched n t r t'

-- ---- replies

-- the text of lines
abbrev pub joined : List (List ℕ) → List ℕ
joined [] = []
joined (l ∷ ls) = line l ++ joined ls

-- the text says the lines of a change, which leaves this side
abbrev pub Says : SideState → List ℕ → Change → Type 0
Says a text change = (text ≡ joined change.lines) × (change.side ≡ a)

-- the same of a change that is stored to the target
abbrev pub Stores : SideState → Stored → Change → Type 0
Stores a x change = Says (record (with_memory x.bytes.regions a) { breaks = x.breaks }) x.text change × (x.bytes ≡ memory_of change.side)

-- ---- a whole command

-- an answer of the part; none for want of memory, or where the link failed
abbrev pub answer_of : {A : Type 0} → Result A AskFault → Option (Result A (Trouble Cause))
answer_of (Ok x) = Some (Ok x)
answer_of (Err (Refused cause)) = Some (Err (RefusedFor cause))
answer_of (Err (Raised e)) = Some (Err (Kind e))
answer_of (Err Spent) = Some (Err StepsSpent)
answer_of (Err NoMemory) = None
answer_of (Err (Broken f)) = None

abbrev pub NOTHING : Held
NOTHING = record { arrays = []; dicts = []; strings = []; units = 0 }

-- between commands the inquiry has the table of the side, and nothing of a command
pub record Stands (i : Inquiry) (a : SideState) : Type 0 where
  pub table : a.table ≡ record i.core.store { part = Command }
  pub nothing : i.core.store.command ≡ NOTHING

-- a command is begun
pub record Begun (i j : Inquiry) : Type 0 where
  pub taken : j.steps.taken ≡ 0
  pub limit : j.steps.limit ≡ MOST_STEPS
  pub store : j.core.store ≡ record i.core.store { part = Command }

-- it is ended: what it made is dropped
abbrev pub IsEnded : (i k l : Inquiry) → Type 0
IsEnded i k l = l.core.store ≡ record k.core.store { part = Command; command = cut k.core.store.command (mark_of i.core.store.command) }

-- the command of the machine session came to an answer that matches, and the inquiry has the table of the side that it leaves
pub record Meant {A : Type 0} (P : A → Change → Type 0) (m : OnSide Change) (a : SideState) (r : Result A (Trouble Cause)) (l : Inquiry) : Type 0 where
  pub result : Result Change Troubled
  pub side : SideState
  pub matches : Matches P r result
  pub comes : outcome.Comes m a result side
  pub stands : Stands l side

-- Each answer of a part of a command, between the command's begin and its end, is one of the machine session's command.
abbrev pub AreMeant : {A : Type 0} → (A → Change → Type 0) → Eval Cause A → OnSide Change → SideState → Type 0
AreMeant {A} P asked m a =
    (i j k l : Inquiry) (result : Result A AskFault) (r : Result A (Trouble Cause)) → Stands i a → Begun i j → Comes asked j result k → answer_of result ≡ Some r → IsEnded i k l
    → Meant P m a r l

abbrev pub FramesAreMeant : Type 0
FramesAreMeant = (a : SideState) → AreMeant (Says a) (asked_frames.listing (row_of a) CONTEXT (memory_of a)) (side_frames.listing a) a

abbrev pub FrameIsMeant : Type 0
FrameIsMeant = (a : SideState) (n : ℕ) → AreMeant (Says (record a { frame = n })) (asked_frames.choosing (row_of a) CONTEXT n (memory_of a)) (side_frames.choosing a n) a

abbrev pub BreakIsMeant : Type 0
BreakIsMeant = (a : SideState) (spot : Spot) → AreMeant (Stores a) (asked_breaks.breaking a.machine.target a.breaks (memory_of a) spot) (side_breaks.breaking a spot) a

abbrev pub ClearIsMeant : Type 0
ClearIsMeant = (a : SideState) (spot : Spot) → AreMeant (Stores a) (asked_breaks.clearing a.machine.target a.breaks (memory_of a) spot) (side_breaks.clearing a spot) a

-- ---- `regs`

abbrev pub RegsAreMeant : Type 0
RegsAreMeant = (a : SideState) → IsMemory a.machine.memory → asked_raw.regs_line a.machine.target CONTEXT (memory_of a) ≡ Some (line (side_raw.regs_text a))

-- ---- `ps`, over the dial in which it begins

-- the side with the bytes of a target
abbrev pub with_bytes_of : Option Target → SideState → SideState
with_bytes_of None a = a
with_bytes_of (Some target) a = with_memory target.regions a

-- The machine session's `ps` came to an answer that matches, and what the text stored stays.
pub record PsMeant (a : SideState) (text : List ℕ) (r : Result (List ℕ) (Trouble Cause)) (d : Dial) (k l : Inquiry) : Type 0 where
  pub result : Result Change Troubled
  pub side : SideState
  pub matches : Matches (Says side) r result
  pub comes : side_raw.RunsPs a text result side
  pub side_is : side ≡ with_table_of (with_bytes_of d.target a) k.core.store
  pub stands : Stands l side

abbrev pub PsIsMeant : Type 0
PsIsMeant =
    (a : SideState) (text : List ℕ) (i j k l : Inquiry) (r : Result (List ℕ) (Trouble Cause)) (d d' : Dial) → Stands i a → Begun i j → d ≡ dial_of a (Numbered a.frame) true
    → asked_raw.RunsPs d text (use_of j.core.store (left_of j)) r d' k.core.store (left_of k) → IsEnded i k l → PsMeant a text r d' k l
