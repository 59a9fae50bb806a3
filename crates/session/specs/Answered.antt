-- What a session answers before it asks anything: to a line that is no command, and to a command that its state refuses.
use Rattle.std.specs.Prelude.{◌≡◌, ◌⊎◌, ℕ, List, [], ◌++◌, codes, decimal, Result, Ok, Err, if◌then◌else◌}
use Rattle.c_session.specs.Commands.{Refusal, BadLine, HasEnded, IsRunning, refusal_text, Resume, ByStep, ByContinue}
use Rattle.cmd_lang.specs.Words.{is_empty}
use Rattle.ps_step.specs.declared.fault.PsError.{PsError}
use Rattle.ps_step.specs.Errors.{error_text}
use Rattle.claims.specs.Side.{State, Fresh, Stopped, Running, Ended}
use Rattle.session.specs.declared.answers.Answer.{Answer}
use Rattle.session.specs.declared.answers.Answer.TheVariants.{Lines, NoMemory}
use Rattle.session.specs.declared.answers.End.{End}
use Rattle.session.specs.declared.modes.How.{How}
use Rattle.session.specs.declared.modes.How.TheVariants as how
use Rattle.session.specs.declared.modes.Mode.{Mode}
use Rattle.session.specs.declared.modes.Mode.TheVariants as mode
use Rattle.session.specs.declared.modes.ModeRefusal.{ModeRefusal}
use Rattle.session.specs.declared.modes.ModeRefusal.TheVariants as because

abbrev pub resume_of : How → Resume
resume_of how.ByStep = ByStep
resume_of how.ByContinue = ByContinue

-- the state of the machine session in a mode
abbrev pub state_of : Mode → State
state_of mode.Fresh = Fresh
state_of mode.Stopped = Stopped
state_of (mode.Running began) = Running (resume_of began)
state_of mode.Ended = Ended

abbrev pub reason_of : ModeRefusal → Refusal
reason_of because.Ended = HasEnded
reason_of because.Running = IsRunning

-- the reply that refuses a command
abbrev pub refusal_reply : Refusal → List ℕ
refusal_reply u = refusal_text u ++ codes "\n"

-- the reply to a line that is no command: nothing to one of blanks
abbrev pub line_reply : List ℕ → List ℕ
line_reply line = if is_empty line then [] else refusal_reply BadLine

-- the reply to a new limit of turns
abbrev pub limit_reply : ℕ → List ℕ
limit_reply n = codes "limit " ++ (decimal n ++ codes "\n")

-- a reply for which memory may be wanting
abbrev pub Replies : List ℕ → Answer → Type 0
Replies text (Lines t) = t ≡ text
Replies text NoMemory = Unit {0}

abbrev pub Answers : List ℕ → Result Answer End → Type 0
Answers text (Ok a) = Replies text a
Answers text (Err e) = ⊥

-- ---- commands that aren't done

-- the reply that names an error of PostScript
abbrev pub error_reply : PsError → List ℕ
error_reply e = codes "psfault " ++ (error_text e ++ codes "\n")

abbrev pub spent_reply : List ℕ
spent_reply = codes "psfault spent\n"

-- the reply to a command that isn't done: no memory, a refusal, or an error of PostScript
abbrev pub IsTrouble : Answer → Type 0
IsTrouble NoMemory = Unit {0}
IsTrouble (Lines text) = ((u : Refusal) × (text ≡ refusal_reply u)) ⊎ (((e : PsError) × (text ≡ error_reply e)) ⊎ (text ≡ spent_reply))

abbrev pub IsNoMemory : Answer → Type 0
IsNoMemory NoMemory = Unit {0}
IsNoMemory (Lines text) = ⊥

abbrev pub AnswersTrouble : Result Answer End → Type 0
AnswersTrouble (Ok a) = IsTrouble a
AnswersTrouble (Err e) = ⊥
