-- What the commands of one side are to the machine session, where the memory of the target tells the bytes of the side's machine.
use Rattle.std.specs.Prelude.{◌≡◌, ℕ, List, Some, Result, Ok, Err}
use Rattle.machine_state.specs.Regions.{Regions}
use Rattle.machine_state.specs.declared.layout.TheConstants.{CONTEXT}
use Rattle.frame_bytes.specs.Bytes.{Bytes}
use Rattle.abs_mem.specs.Meaning.{Seen}
use Rattle.table_model.specs.Rows.{PointRow}
use Rattle.dialect_model.specs.Dial.{Target}
use Rattle.dialect_model.specs.TableUse.{Trouble, Eval}
use Rattle.c_session.specs.declared.command.Spot.{Spot}
use Rattle.table_asks.specs.declared.fault.Cause.{Cause}
use Rattle.table_asks.specs.declared.fault.AskFault.{AskFault}
use Rattle.table_asks.specs.declared.inquiry.Inquiry.{Inquiry}
use Rattle.table_asks.specs.Asking.{ComesOver}
use Rattle.asking.specs.Doing.{Change as Stored, ChangesOver}
use Rattle.asking.specs.Frames as asked_frames
use Rattle.asking.specs.Breaks as asked_breaks
use Rattle.asking.specs.Printing.{EndsOver}
use Rattle.asking.specs.Printing as asked_printing
use Rattle.claims.specs.Side.{SideState, Change, OnSide, Troubled, row_of, target_of, memory_of}
use Rattle.claims.specs.Outcome as outcome
use Rattle.claims.specs.Frames as side_frames
use Rattle.claims.specs.Breaks as side_breaks
use Rattle.claims.specs.Printing as side_printing
use Rattle.asking_meaning.specs.Meant.{Matches, joined, answer_of, Stands, Begun, IsEnded}

abbrev pub SaysText : List ℕ → Change → Type 0
SaysText text change = text ≡ joined change.lines

-- what stays where a command isn't done
abbrev pub if_done : {A B : Type 0} → Result A (Trouble Cause) → B → B → B
if_done (Ok x) new old = new
if_done (Err e) new old = old

-- The machine session's command came to an answer that matches, and to a side with this frame and these breakpoints, whose table the inquiry has and whose bytes the memory tells.
pub record MeantOver {R : Type 0} (m : OnSide Change) (a : SideState) (r : Result (List ℕ) (Trouble Cause)) (frame : ℕ) (breaks : List PointRow) (l : Inquiry) (s : Seen R) (rest : R) : Type 0 where
  pub result : Result Change Troubled
  pub side : SideState
  pub matches : Matches SaysText r result
  pub comes : outcome.Comes m a result side
  pub frame_is : side.frame ≡ frame
  pub breaks_are : side.breaks ≡ breaks
  pub stands : Stands l side
  pub tells : s.tells (memory_of side) rest

module _ {R : Type 0} (s s' : Seen R) where
  -- a command that only asks, between its begin and its end; it leaves this frame where it is done
  abbrev pub AsksAreMeant : (Bytes → Eval Cause (List ℕ)) → OnSide Change → SideState → (frame : ℕ) → Type 0
  AsksAreMeant asked m a frame =
      (rest : R) (i j k l : Inquiry) (result : Result (List ℕ) AskFault) (r : Result (List ℕ) (Trouble Cause)) → s.tells (memory_of a) rest → Stands i a → Begun i j
      → ComesOver asked j s result k s' → answer_of result ≡ Some r → IsEnded i k l → MeantOver m a r (if_done r frame a.frame) a.breaks l s' rest

  -- a command that stores, and leaves these breakpoints where it is done
  abbrev pub StoresAreMeant : (Bytes → Eval Cause Stored) → OnSide Change → SideState → Type 0
  StoresAreMeant asked m a =
      (rest : R) (i j k l : Inquiry) (result : Result (List ℕ) AskFault) (r : Result (List ℕ) (Trouble Cause)) (breaks : List PointRow) → s.tells (memory_of a) rest → Stands i a → Begun i j
      → ChangesOver asked j s result breaks k s' → answer_of result ≡ Some r → IsEnded i k l → MeantOver m a r a.frame (if_done r breaks a.breaks) l s' rest

  -- a command that runs PostScript and stores nothing, where its operators see the target of the side
  abbrev pub RunsAreMeant : (Target → Eval Cause (List ℕ)) → OnSide Change → SideState → Type 0
  RunsAreMeant asked m a =
      (rest : R) (i j k l : Inquiry) (result : Result (List ℕ) AskFault) (r : Result (List ℕ) (Trouble Cause)) (at : Regions → Target) → s.tells (memory_of a) rest → Stands i a → Begun i j
      → at a.machine.memory ≡ target_of a → EndsOver asked at j s result k s' → answer_of result ≡ Some r → IsEnded i k l → MeantOver m a r a.frame a.breaks l s' rest

  abbrev pub FramesAreTold : Type 0
  FramesAreTold = (a : SideState) → AsksAreMeant (asked_frames.listing (row_of a) CONTEXT) (side_frames.listing a) a a.frame

  abbrev pub FrameIsTold : Type 0
  FrameIsTold = (a : SideState) (n : ℕ) → AsksAreMeant (asked_frames.choosing (row_of a) CONTEXT n) (side_frames.choosing a n) a n

  abbrev pub BreakIsTold : Type 0
  BreakIsTold = (a : SideState) (spot : Spot) → StoresAreMeant (λ b. asked_breaks.breaking a.machine.target a.breaks b spot) (side_breaks.breaking a spot) a

  abbrev pub ClearIsTold : Type 0
  ClearIsTold = (a : SideState) (spot : Spot) → StoresAreMeant (λ b. asked_breaks.clearing a.machine.target a.breaks b spot) (side_breaks.clearing a spot) a

  abbrev pub PrintIsTold : Type 0
  PrintIsTold = (a : SideState) (name : List ℕ) → RunsAreMeant (asked_printing.printing a.frame name) (side_printing.printing a name) a
