-- What each command answers, and what it changes.
use Rattle.std.specs.Prelude.{ℕ, suc, List, [], ◌∷◌, ◌++◌, Bool, not, ◌==◌, Option, Some, None, Ok, Err, slice_get, length, map, take, filter, codes, decimal, if◌then◌else◌}
use Rattle.std.specs.List.{list_any}
use Rattle.ldb_words.specs.declared.kinds.Undef.{Undef}
use Rattle.ldb_words.specs.declared.kinds.Undef.TheVariants.{Overflow, Division, Shift, Pointer}
use Rattle.runs.specs.Runs.{Why, Reason, Stale}
use Rattle.runs.specs.Runs as runs
use Rattle.c_tree.specs.declared.types.CType.{CType}
use Rattle.c_tree.specs.declared.types.CType.TheVariants.{Void, Pointer', Array'}
use Rattle.c_tree.specs.declared.rows.Program.{Program}
use Rattle.c_tree.specs.declared.rows.ObjectRow.{ObjectRow}
use Rattle.c_tree.specs.declared.rows.SymbolRow.{SymbolRow}
use Rattle.c_tree.specs.declared.rows.Referent.{Referent}
use Rattle.c_tree.specs.declared.rows.Referent.TheVariants as refers
use Rattle.c_tree.specs.Types.{type_of}
use Rattle.c_session.specs.declared.command.Command.{Command}
use Rattle.c_session.specs.declared.command.Command.TheVariants as command
use Rattle.c_store.specs.Store.{Value, Object, World}
use Rattle.c_store.specs.Frames.{ActivationRecord, bound}
use Rattle.c_source.specs.Blocks.{local_type}
use Rattle.c_source.specs.Control.{State}
use Rattle.c_source.specs.Begin.{records}
use Rattle.c_source.specs.Names.{named, place_text, activation_text}
use Rattle.c_session.specs.Places.{point_at}
use Rattle.c_source.specs.Meaning.{Given, Told, values_meant, assigned}
use Rattle.c_reading.specs.Readings.{Use, AsValue, AsAssignment, Unreadable, BadSyntax, NoScope, BadType, Reading, Unread, Read, Reads, is_identifier}

-- ---- refusals, in the order in which they are asked

pub data Refusal : Type 0 where
  BadLine HasEnded IsRunning NoPlace NoFrame : Refusal
  BadText : (why : Unreadable) → Refusal
  IsUndefined : (reason : Undef) → Refusal

abbrev undef_text : Undef → List ℕ
undef_text Overflow = codes "undefined overflow"
undef_text Division = codes "undefined division"
undef_text Shift = codes "undefined shift"
undef_text Pointer = codes "undefined pointer"

abbrev text_reason : Unreadable → List ℕ
text_reason BadSyntax = codes "syntax"
text_reason NoScope = codes "scope"
text_reason BadType = codes "type"

abbrev reason_text : Refusal → List ℕ
reason_text BadLine = codes "line"
reason_text HasEnded = codes "ended"
reason_text IsRunning = codes "running"
reason_text NoPlace = codes "place"
reason_text NoFrame = codes "frame"
reason_text (BadText why) = text_reason why
reason_text (IsUndefined r) = undef_text r

abbrev pub refusal_text : Refusal → List ℕ
refusal_text r = codes "refused " ++ reason_text r

-- ---- sessions

-- `step` stops at each point, and `continue` at those with a breakpoint
pub data Resume : Type 0 where
  ByStep ByContinue : Resume

-- a session over one target, or over two at once
pub data Sides : Type 0 where
  OneSide TwoSides : Sides

-- Where the sides stand in a resume that is not answered yet. With two sides one of them may stand at its event, while the other is on its way.
pub data Positions : Type 0 where
  One : (s : State) → Positions
  Both : (s t : State) → Positions
  FirstAlone : (s : State) → Positions
  SecondAlone : (t : State) → Positions

-- A resume that ran out of turns leaves each side at a position of its own, or at its event.
pub data Mode : Type 0 where
  Fresh : (s : State) → Mode
  Stopped : (s : State) → Mode
  Running : (how : Resume) (positions : Positions) → Mode
  Ended : Mode

pub record Session : Type 0 where
  pub mode : Mode
  pub breaks : List ℕ
  pub frame : ℕ
  pub limit : ℕ

-- what a command answers
pub data Answer : Type 0 where
  Refuses : (r : Refusal) → Answer
  -- these lines, and the session after them
  Says : (lines : List (List ℕ)) (after : Session) → Answer
  -- `value` and what these leaf values show
  Shows : (w : World) (t : CType) (vs : List Value) → Answer
  -- `set`
  Sets : (s : State) → Answer
  -- an evaluation that used a stale pointer, and an assignment that did
  ShowsAny : Answer
  EndsClaim : Answer
  Resumes : (how : Resume) (positions : Positions) → Answer
  Quits : Answer
  -- what a command about machines or the debugger tells, which no program knows: so many lines, or one that says why not; where the command prints what it likes, any lines
  Raw : (lines : Option ℕ) → Answer
  -- a value of the wrong shape, or none where one is wanted: it never comes in an accepted program
  IllTyped : Answer

abbrev pub has : List ℕ → ℕ → Bool
has qs q = list_any (λ r. r == q) qs

abbrev without : ℕ → List ℕ → List ℕ
without q qs = filter (λ r. not (r == q)) qs

-- each side stands at the stop
abbrev pub all_at : Sides → State → Positions
all_at OneSide s = One s
all_at TwoSides s = Both s s

abbrev line_count : Sides → ℕ
line_count OneSide = 1
line_count TwoSides = 2

module _ (p : Program) (sides : Sides) (session : Session) where
  -- ---- breakpoints

  abbrev pub break_at : Option ℕ → Answer
  break_at None = Refuses NoPlace
  break_at (Some q) = Says ((codes "break " ++ place_text p q) ∷ []) (if has session.breaks q then session else record session { breaks = q ∷ session.breaks })

  abbrev pub clear_at : Option ℕ → Answer
  clear_at None = Refuses NoPlace
  clear_at (Some q) = if has session.breaks q then Says ((codes "clear " ++ place_text p q) ∷ []) (record session { breaks = without q session.breaks }) else Refuses NoPlace

  -- ---- frames

  abbrev point_or_0 : Option ℕ → ℕ
  point_or_0 None = 0
  point_or_0 (Some q) = q

  abbrev pub point_of : ActivationRecord → ℕ
  point_of a = point_or_0 a.point

  abbrev frame_text : ℕ → ActivationRecord → List ℕ
  frame_text n a = codes "frame " ++ decimal n ++ codes " " ++ activation_text p (point_of a)

  abbrev frame_texts : ℕ → List ActivationRecord → List (List ℕ)
  frame_texts n [] = []
  frame_texts n (a ∷ rest) = frame_text n a ∷ frame_texts (suc n) rest

  -- the list of frames is cut at 20,000
  abbrev pub frames_of : State → List ActivationRecord
  frames_of s = take 20000 (records s)

  abbrev pub all_frames : List ActivationRecord → Answer
  all_frames fs = Says ((codes "frames " ++ decimal (length fs)) ∷ frame_texts 0 fs) session

  abbrev pub frame_at : ℕ → Option ActivationRecord → Answer
  frame_at n None = Refuses NoFrame
  frame_at n (Some a) = Says (frame_text n a ∷ []) (record session { frame = n })

  -- ---- `print`

  abbrev cells_of : Option Object → List Value
  cells_of None = []
  cells_of (Some o) = map (λ c. c.value) o.cells

  abbrev pub print_object : World → CType → Option ℕ → Answer
  print_object w t None = IllTyped
  print_object w t (Some o) = Shows w t (cells_of (slice_get w.objects o))

  abbrev pub row_type : Option ObjectRow → CType
  row_type None = Void
  row_type (Some row) = row.ctype

  -- a function's name is of no object
  abbrev pub print_referent : World → ActivationRecord → Referent → Answer
  print_referent w a (refers.Object o) = print_object w (row_type (slice_get p.objects o)) (Some o)
  print_referent w a (refers.Local x) = print_object w (local_type p a.function x) (bound x a.locals)
  print_referent w a (refers.Function f) = Refuses (BadText BadType)
  print_referent w a refers.Declared = Refuses (BadText BadType)

  abbrev pub print_symbol : World → ActivationRecord → Option SymbolRow → Answer
  print_symbol w a None = Refuses (BadText NoScope)
  print_symbol w a (Some s) = print_referent w a s.refers

  -- ---- `eval` and `assign`

  -- an array is shown as the pointer that it becomes
  abbrev pub shown_type : CType → CType
  shown_type (Array' b t n) = Pointer' b t
  shown_type t = t

  abbrev pub eval_gives : World → CType → Told (List Value) → Answer
  eval_gives w t (Ok vs) = Shows w (shown_type t) vs
  eval_gives w t (Err (Reason u)) = Refuses (IsUndefined u)
  eval_gives w t (Err Stale) = ShowsAny
  eval_gives w t (Err runs.IllTyped) = IllTyped

  abbrev pub eval_read : World → ActivationRecord → Reading → Answer
  eval_read w a (Unread why) = Refuses (BadText why)
  eval_read w a (Read e) = eval_gives w (type_of e) (values_meant p (record { world = w; activation = a }) e)

  -- it changes the leaves that the assignment's steps change, and nothing else
  abbrev pub assign_gives : State → Told Given → Answer
  assign_gives s (Ok g) = Sets (record s { here = record s.here { world = g.world } })
  assign_gives s (Err (Reason u)) = Refuses (IsUndefined u)
  assign_gives s (Err Stale) = EndsClaim
  assign_gives s (Err runs.IllTyped) = IllTyped

  abbrev pub assign_read : State → ActivationRecord → Reading → Answer
  assign_read s a (Unread why) = Refuses (BadText why)
  assign_read s a (Read e) = assign_gives s (assigned p (record { world = s.here.world; activation = a }) e)

  abbrev pub in_frame : Option ActivationRecord → (ActivationRecord → Answer) → Answer
  in_frame None go = Refuses NoFrame
  in_frame (Some a) go = go a

  abbrev pub chosen : State → Option ActivationRecord
  chosen s = slice_get (records s) session.frame

  -- ---- commands by the session's state

  abbrev pub with_limit : ℕ → Answer
  with_limit n = Says ((codes "limit " ++ decimal n) ∷ []) (record session { limit = n })

  -- x is what the command's text was read as, where it has one
  abbrev pub in_stopped : (x : Reading) → State → Command → Answer
  in_stopped x s (command.Break place) = break_at (point_at p place)
  in_stopped x s (command.Clear place) = clear_at (point_at p place)
  in_stopped x s command.Continue = Resumes ByContinue (all_at sides s)
  in_stopped x s command.Step = Resumes ByStep (all_at sides s)
  in_stopped x s (command.Turns n) = with_limit n
  in_stopped x s command.Frames = all_frames (frames_of s)
  in_stopped x s (command.Frame n) = frame_at n (slice_get (frames_of s) n)
  in_stopped x s (command.Print name) = in_frame (chosen s) (λ a. if is_identifier name then print_symbol s.here.world a (named p name (point_of a)) else Refuses (BadText BadSyntax))
  in_stopped x s (command.Eval text) = in_frame (chosen s) (λ a. eval_read s.here.world a x)
  in_stopped x s (command.Assign text) = in_frame (chosen s) (λ a. assign_read s a x)
  in_stopped x s command.Quit = Quits
  in_stopped x s command.Regs = Raw (Some (line_count sides))
  in_stopped x s (command.Code text) = Raw (Some 1)
  in_stopped x s (command.Ps text) = Raw None

  abbrev pub in_fresh : (x : Reading) → State → Command → Answer
  in_fresh x s command.Frames = Refuses IsRunning
  in_fresh x s (command.Frame n) = Refuses IsRunning
  in_fresh x s (command.Print name) = Refuses IsRunning
  in_fresh x s (command.Eval text) = Refuses IsRunning
  in_fresh x s (command.Assign text) = Refuses IsRunning
  in_fresh x s (command.Code text) = Refuses IsRunning
  in_fresh x s (command.Ps text) = Refuses IsRunning
  in_fresh x s c = in_stopped x s c

  -- `continue` goes on with the interrupted resume, whichever command began it
  abbrev pub in_running : Resume → Positions → Command → Answer
  in_running how ps command.Continue = Resumes how ps
  in_running how ps (command.Turns n) = with_limit n
  in_running how ps command.Regs = Raw (Some (line_count sides))
  in_running how ps command.Quit = Quits
  in_running how ps c = Refuses IsRunning

  abbrev pub in_ended : Command → Answer
  in_ended command.Quit = Quits
  in_ended c = Refuses HasEnded

  abbrev pub by_mode : (x : Reading) → Mode → Command → Answer
  by_mode x (Fresh s) c = in_fresh x s c
  by_mode x (Stopped s) c = in_stopped x s c
  by_mode x (Running how ps) c = in_running how ps c
  by_mode x Ended c = in_ended c

  -- The answer to a line, which is a command or malformed. Where the line has an expression, x is what this was read as.
  abbrev pub answer : (x : Reading) → Option Command → Answer
  answer x None = Refuses BadLine
  answer x (Some c) = by_mode x session.mode c

  -- ---- texts

  -- what a text is in a frame, at the point that it passed last
  abbrev pub ReadsAt : Use → List ℕ → Option ActivationRecord → Reading → Type 0
  ReadsAt u text None x = Unit {0}
  ReadsAt u text (Some a) x = Reads p u (point_of a) text x

  abbrev pub ReadsIn : Mode → Command → Reading → Type 0
  ReadsIn (Stopped s) (command.Eval text) x = ReadsAt AsValue text (chosen s) x
  ReadsIn (Stopped s) (command.Assign text) x = ReadsAt AsAssignment text (chosen s) x
  ReadsIn m c x = Unit {0}

  -- the text of the line, if it has one that is read, is this in the chosen frame
  abbrev pub ReadsLine : Option Command → Reading → Type 0
  ReadsLine None x = Unit {0}
  ReadsLine (Some c) x = ReadsIn session.mode c x
