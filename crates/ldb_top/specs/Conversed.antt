-- What a session tells and puts, by the machine session over the same lines.
use Rattle.std.specs.Prelude.{◌≡◌, ◌⊎◌, ℕ, Bool, true, false, if◌then◌else◌, List, [], ◌∷◌, ◌++◌, codes, Option, None, Some, Ok}
use Rattle.machine_state.specs.State.{Behaviour}
use Rattle.targets.specs.Targets.{machine_behaviour}
use Rattle.c_session.specs.declared.command.Command.{Command}
use Rattle.c_session.specs.declared.command.Command.TheVariants.{Turns, Quit}
use Rattle.c_session.specs.Commands.{Refusal}
use Rattle.cmd_lang.specs.Words.{is_empty}
use Rattle.cmd_lang.specs.Commands.{read_of}
use Rattle.ldb_edge.specs.Known.{known_and}
use Rattle.asking_meaning.specs.Meant.{joined}
use Rattle.claims.specs.Side.{SessionState, State}
use Rattle.claims.specs.Lines.{Reply}
use Rattle.claims.specs.Carries.{Converses as MachineConverses}
use Rattle.claims.specs.Outcome.{Answers, refused_by_state}
use Rattle.session.specs.declared.answers.Answer.{Answer}
use Rattle.session.specs.declared.answers.Answer.TheVariants as answer
use Rattle.session.specs.Wanting.{WithSides, LeavesIfAny, LeavesTarget}
use Rattle.ldb_top.specs.Ahead.{Lines}
use Rattle.ldb_top.specs.Late.{asks_quit}
use Rattle.ldb_top.specs.Lines.{late_line}

-- ---- lines

-- The lines that have a reply, each as it is read: a line of blanks has none. Where `raw` is true, `ps` is a command too.
abbrev pub commands_in : (raw : Bool) → List (List ℕ) → List (Option Command)
commands_in raw [] = []
commands_in raw (line ∷ lines) = if is_empty line then commands_in raw lines else read_of raw line ∷ commands_in raw lines

-- the reply to a command for which there was no memory
abbrev pub wanting_line : List ℕ
wanting_line = codes "no memory\n"

-- the bytes of an answer
abbrev pub reply_of : Answer → List ℕ
reply_of (answer.Lines text) = text
reply_of answer.NoMemory = wanting_line

-- why the session's state refuses a line, if it does
abbrev pub refused_in : State → Option Command → Option Refusal
refused_in state None = None
refused_in state (Some c) = refused_by_state state c

-- whether a line asks the tables or the machines, and so may want memory once something was done: a command other than `turns` and `quit`
abbrev pub asks_sides : Option Command → Bool
asks_sides None = false
asks_sides (Some (Turns n)) = false
asks_sides (Some Quit) = false
asks_sides (Some c) = true

-- ---- lines that aren't answered as in the machine session

-- A command that asks the sides, in a state that doesn't refuse it, and for which there was no memory; or `eval`, `assign` or `code`, of whose reply
-- nothing is told here. Behind it the session is as before, over tables of which what was closed is settled at most; `assign`, whatever it was answered,
-- and `ps` without memory, may have stored numbers to the target.
pub record IsPassed (st : SessionState) (c : Option Command) (reply : List ℕ) (next : SessionState) : Type 0 where
  pub answer : Answer
  pub passes : LeavesTarget c (Ok answer)
  pub asks : asks_sides c ≡ true
  pub unrefused : refused_in st.state c ≡ None
  pub reply_is : reply ≡ reply_of answer
  pub leaves : WithSides (LeavesIfAny c (Ok answer)) st next

-- ---- a conversation

module _ (Passed : SessionState → Option Command → (reply : List ℕ) → SessionState → Type 0) where
  -- a reply to a line, and the session behind it: an answer of the machine session, or the line is passed
  abbrev pub IsNext : Behaviour → SessionState → Option Command → (reply : List ℕ) → SessionState → Type 0
  IsNext b st c reply next = ((lines : Reply) × Answers b st c lines next × (reply ≡ joined lines)) ⊎ Passed st c reply next

  -- The lines from a session on: the bytes of the transcript, and what the first side's machine put in all. `quit` and the end of
  -- the lines end it.
  abbrev pub ConversesBut : Behaviour → SessionState → List (Option Command) → (transcript output : List ℕ) → Type 0
  ConversesBut b st [] transcript output = (transcript ≡ []) × (output ≡ st.written)
  ConversesBut b st (c ∷ cs) transcript output =
      ((asks_quit c ≡ true) × (transcript ≡ []) × (output ≡ st.written))
      ⊎ ((reply : List ℕ) × (rest : List ℕ) × (next : SessionState) × IsNext b st c reply next × (transcript ≡ reply ++ rest) × ConversesBut b next cs rest output)

-- What the machine session answers, with the lines between that are passed. Without these it is the conversation of the machine session, whose
-- lines are joined to bytes (`conversations_are_joined`).
abbrev pub Converses : SessionState → List (Option Command) → (transcript output : List ℕ) → Type 0
Converses st cs transcript output = ConversesBut IsPassed machine_behaviour st cs transcript output

-- no line is passed
abbrev pub NonePassed : SessionState → Option Command → (reply : List ℕ) → SessionState → Type 0
NonePassed st c reply next = ⊥

-- ---- a session

-- a transcript and an output file, as they are told
pub record Told (before : List ℕ) (taken out : Option (List ℕ)) (Is : (transcript output : List ℕ) → Type 0) : Type 0 where
  pub transcript : List ℕ
  pub output : List ℕ
  pub taken_is : taken ≡ Some (before ++ transcript)
  pub out_is : out ≡ Some output
  pub so : Is transcript output

-- From a machine session on, where the lines ahead and what the transcript had taken are told: what it took behind this, and what
-- the output file holds at last, is the conversation.
abbrev pub HasConversed : (raw : Bool) → SessionState → Option Lines → (taken taken' out : Option (List ℕ)) → Type 0
HasConversed raw st lines taken taken' out =
    (ls : Lines) (before : List ℕ) → lines ≡ Some ls → taken ≡ Some before → Told before taken' out (Converses st (commands_in raw ls.0))

-- the same, and behind it that the commands are too long
abbrev pub HasConversedLate : (raw : Bool) → SessionState → Option Lines → (taken taken' out : Option (List ℕ)) → Type 0
HasConversedLate raw st lines taken taken' out = (between : Option (List ℕ)) × (taken' ≡ known_and between late_line) × HasConversed raw st lines taken between out

-- ---- the law of conversations

-- some replies of the machine session, joined
abbrev pub IsJoined : Behaviour → SessionState → List (Option Command) → (transcript output : List ℕ) → Type 0
IsJoined b st cs transcript output = (reply : Reply) × (transcript ≡ joined reply) × MachineConverses b st cs reply output

-- without passed lines both are the same
abbrev pub ConversationsAreJoined : Type 0
ConversationsAreJoined =
    (b : Behaviour) (st : SessionState) (cs : List (Option Command)) (transcript output : List ℕ)
    → (ConversesBut NonePassed b st cs transcript output → IsJoined b st cs transcript output) × (IsJoined b st cs transcript output → ConversesBut NonePassed b st cs transcript output)
