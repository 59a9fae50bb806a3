-- What a line answers, and the session after it. In each state these commands are done, and the others are refused:
--   Fresh    all but `frames`, `frame`, `print`, `eval`, `assign`, `code`, `ps`
--   Stopped  all
--   Running  `continue`, `turns`, `regs`, `quit`
--   Ended    `quit`
use Rattle.std.specs.Prelude.{◌≡◌, ◌⊎◌, Bool, true, false, [], ◌∷◌, ◌++◌, codes, decimal, Option, Some, None, Result, Ok, Err}
use Rattle.machine_state.specs.State.{Behaviour}
use Rattle.dialect_model.specs.TableUse.{TableUse, use_of, Wanting, gives, takes_memory, ◌>>=◌}
use Rattle.c_session.specs.declared.command.Command.{Command}
use Rattle.c_session.specs.declared.command.Command.TheVariants as command
use Rattle.c_session.specs.Commands.{Refusal, BadLine, HasEnded, IsRunning, refusal_text, Resume, ByStep, ByContinue}
use Rattle.claims.specs.Side.{SideState, SessionState, State, Fresh, Stopped, Running, Ended, Change, OnSide, Troubled, MOST_STEPS, with_memory, side_after, with_table_of}
use Rattle.claims.specs.Lines.{Reply, trouble_reply}
use Rattle.claims.specs.Breaks.{breaking, clearing, plant_for_step}
use Rattle.claims.specs.Frames.{listing, choosing}
use Rattle.claims.specs.Printing.{printing}
use Rattle.claims.specs.Raw.{regs_text, RunsPs}
use Rattle.claims.specs.Evaluating.{evaluating, assigning}
use Rattle.claims.specs.Coding.{coding}
use Rattle.claims.specs.Resumes.{resumed}

-- ---- the refusals by the session's state

abbrev pub needs_stop : Command → Bool
needs_stop command.Frames = true
needs_stop (command.Frame n) = true
needs_stop (command.Print name) = true
needs_stop (command.Eval text) = true
needs_stop (command.Assign text) = true
needs_stop (command.Code text) = true
needs_stop (command.Ps text) = true
needs_stop c = false

abbrev pub goes_while_running : Command → Bool
goes_while_running command.Continue = true
goes_while_running (command.Turns n) = true
goes_while_running command.Regs = true
goes_while_running command.Quit = true
goes_while_running c = false

abbrev pub is_quit : Command → Bool
is_quit command.Quit = true
is_quit c = false

abbrev refused_if : Bool → Refusal → Option Refusal
refused_if true u = Some u
refused_if false u = None

abbrev refused_unless : Bool → Refusal → Option Refusal
refused_unless true u = None
refused_unless false u = Some u

abbrev pub refused_by_state : State → Command → Option Refusal
refused_by_state Fresh c = refused_if (needs_stop c) IsRunning
refused_by_state Stopped c = None
refused_by_state (Running how) c = refused_unless (goes_while_running c) IsRunning
refused_by_state Ended c = refused_unless (is_quit c) HasEnded

-- ---- commands that don't resume, on one side

-- memory may be wanting before and behind what a command does
abbrev pub with_memory_wanting : {A : Type 0} → OnSide A → OnSide A
with_memory_wanting m = takes_memory >>= λ u. m >>= λ x. takes_memory >>= λ v. gives x

-- a command comes to a result and leaves the side
pub record Comes (m : OnSide Change) (a : SideState) (r : Result Change Troubled) (a' : SideState) : Type 0 where
  pub use_after : TableUse
  pub comes : with_memory_wanting m (use_of a.table MOST_STEPS) r use_after
  pub leaves : a' ≡ side_after a r use_after

abbrev pub OneSide : Command → SideState → Result Change Troubled → SideState → Type 0
OneSide (command.Break spot) a r a' = Comes (breaking a spot) a r a'
OneSide (command.Clear spot) a r a' = Comes (clearing a spot) a r a'
OneSide command.Frames a r a' = Comes (listing a) a r a'
OneSide (command.Frame n) a r a' = Comes (choosing a n) a r a'
OneSide (command.Print name) a r a' = Comes (printing a name) a r a'
OneSide (command.Eval text) a r a' = Comes (evaluating a text) a r a'
OneSide (command.Assign text) a r a' = Comes (assigning a text) a r a'
OneSide (command.Code text) a r a' = Comes (coding a text) a r a'
OneSide (command.Ps text) a r a' = RunsPs a text r a'
OneSide c a r a' = ⊥

-- ---- on both

-- a side whose command was undone: units that were run stay run, and what a `ps` text stored stays
abbrev pub undone_by : Command → (before after : SideState) → SideState
undone_by (command.Ps text) a a' = with_memory a'.machine.memory (record a { table = a'.table })
undone_by c a a' = record a { table = a'.table }

-- why a text of `ps` isn't done on the first side, or that memory was wanting for it on the second one
abbrev pub told_of : Troubled → Result Change Troubled → Troubled
told_of e (Err Wanting) = Wanting
told_of e r = e

-- What is on the second side where the first one's command isn't done for this, and what is told: `ps` has run there all the same,
-- and where memory was wanting for that, this is told; of any other command units may have been run or not.
abbrev pub SecondUndone : Troubled → Command → Option SideState → (told : Troubled) → Option SideState → Type 0
SecondUndone e c None told second = (told ≡ e) × (second ≡ None)
SecondUndone e (command.Ps text) (Some b) told second = (r : _) × (b' : SideState) × OneSide (command.Ps text) b r b' × (told ≡ told_of e r) × (second ≡ Some (undone_by (command.Ps text) b b'))
SecondUndone e c (Some b) told second = (told ≡ e) × ((second ≡ Some b) ⊎ ((r : _) × (b' : SideState) × OneSide c b r b' × (second ≡ Some (undone_by c b b'))))

module _ (st : SessionState) (c : Command) where
  -- The first side's command is done. One that the second side alone is refused is done on the first alone; where memory is
  -- wanting there, it is done on neither.
  abbrev pub SecondDone : Change → SideState → SideState → Result Change Troubled → SideState → Reply → SessionState → Type 0
  SecondDone change a b (Ok other) b' reply st' = (reply ≡ change.lines) × (st' ≡ record st { first = a; second = Some b' })
  SecondDone change a b (Err Wanting) b' reply st' = (reply ≡ trouble_reply Wanting) × (st' ≡ record st { first = undone_by c st.first a; second = Some (undone_by c b b') })
  SecondDone change a b (Err e) b' reply st' = (reply ≡ change.lines) × (st' ≡ record st { first = a; second = Some (undone_by c b b') })

  abbrev pub FirstDone : Change → SideState → Option SideState → Reply → SessionState → Type 0
  FirstDone change a None reply st' = (reply ≡ change.lines) × (st' ≡ record st { first = a; second = None })
  FirstDone change a (Some b) reply st' = (r : Result Change Troubled) × (b' : SideState) × OneSide c b r b' × SecondDone change a b r b' reply st'

  abbrev pub FirstCame : Result Change Troubled → SideState → Reply → SessionState → Type 0
  FirstCame (Ok change) a reply st' = FirstDone change a st.second reply st'
  FirstCame (Err e) a reply st' = (told : Troubled) × (second : Option SideState) × SecondUndone e c st.second told second × (reply ≡ trouble_reply told) × (st' ≡ record st { first = a; second = second })

  abbrev pub DoneOnBoth : Reply → SessionState → Type 0
  DoneOnBoth reply st' = (r : Result Change Troubled) × (a : SideState) × OneSide c st.first r a × FirstCame r a reply st'

-- ---- resumes

-- what is done before a resume begins: `step` reads all points and puts the break word, on each side
abbrev pub prepared : Resume → SideState → OnSide SideState
prepared ByContinue a = gives a
prepared ByStep a = plant_for_step a

abbrev prepared_side : SideState → Result SideState Troubled → SideState
prepared_side a (Ok x) = x
prepared_side a (Err e) = a

pub record Prepares (how : Resume) (a : SideState) (r : Result SideState Troubled) (a' : SideState) : Type 0 where
  pub use_after : TableUse
  pub comes : with_memory_wanting (prepared how a) (use_of a.table MOST_STEPS) r use_after
  pub leaves : a' ≡ with_table_of (prepared_side a r) use_after.store

module _ (b : Behaviour) (how : Resume) (st : SessionState) where
  abbrev pub Goes : SessionState → Reply → SessionState → Type 0
  Goes now reply st' = (reply ≡ (resumed b how now).lines) × (st' ≡ (resumed b how now).session)

  -- where the second side's preparation isn't done, neither side is resumed
  abbrev pub SecondPrepared : SideState → SideState → Result SideState Troubled → SideState → Reply → SessionState → Type 0
  SecondPrepared a s (Ok x) s' reply st' = Goes (record st { first = a; second = Some s' }) reply st'
  SecondPrepared a s (Err e) s' reply st' = (reply ≡ trouble_reply e) × (st' ≡ record st { first = record st.first { table = a.table }; second = Some s' })

  abbrev pub FirstPrepared : Result SideState Troubled → SideState → Option SideState → Reply → SessionState → Type 0
  FirstPrepared (Err e) a second reply st' = (reply ≡ trouble_reply e) × (st' ≡ record st { first = a })
  FirstPrepared (Ok x) a None reply st' = Goes (record st { first = a }) reply st'
  FirstPrepared (Ok x) a (Some s) reply st' = (r : Result SideState Troubled) × (s' : SideState) × Prepares how s r s' × SecondPrepared a s r s' reply st'

  abbrev pub Begins : Reply → SessionState → Type 0
  Begins reply st' = (r : Result SideState Troubled) × (a : SideState) × Prepares how st.first r a × FirstPrepared r a st.second reply st'

-- ---- lines

-- memory may be wanting for a command that takes nothing else
abbrev pub Says : SessionState → Reply → SessionState → Reply → SessionState → Type 0
Says st lines next reply st' = ((reply ≡ lines) × (st' ≡ next)) ⊎ ((reply ≡ trouble_reply Wanting) × (st' ≡ st))

-- in Running the interrupted resume goes on, whichever command began it: nothing is prepared
abbrev pub Resumes : Behaviour → Resume → SessionState → State → Reply → SessionState → Type 0
Resumes b how st (Running began) reply st' = Says st (resumed b began st).lines (resumed b began st).session reply st'
Resumes b how st state reply st' = Begins b how st reply st'

abbrev pub all_regs : SessionState → Reply
all_regs st = regs_text st.first ∷ elim st.second [ None ↦ [] | Some a ↦ regs_text a ∷ [] ]

module _ (b : Behaviour) (st : SessionState) where
  abbrev pub AnswersCommand : Command → Reply → SessionState → Type 0
  AnswersCommand command.Continue reply st' = Resumes b ByContinue st st.state reply st'
  AnswersCommand command.Step reply st' = Resumes b ByStep st st.state reply st'
  AnswersCommand (command.Turns n) reply st' = Says st ((codes "limit " ++ decimal n) ∷ []) (record st { limit = n }) reply st'
  AnswersCommand command.Regs reply st' = Says st (all_regs st) st reply st'
  AnswersCommand command.Quit reply st' = ⊥
  AnswersCommand c reply st' = DoneOnBoth st c reply st'

  -- the first refusal goes before all else
  abbrev refused_or : Command → Option Refusal → Reply → SessionState → Type 0
  refused_or c (Some u) reply st' = Says st (refusal_text u ∷ []) st reply st'
  refused_or c None reply st' = AnswersCommand c reply st'

  -- the answer to a line, which is a command or malformed; `quit` has none
  abbrev pub Answers : Option Command → Reply → SessionState → Type 0
  Answers None reply st' = Says st (refusal_text BadLine ∷ []) st reply st'
  Answers (Some c) reply st' = refused_or c (refused_by_state st.state c) reply st'
