-- Which replies say that the target is broken: the last one of a session whose link failed, and no other.
use Rattle.std.proofs.Common.{◌≡◌, ◌≢◌, ◌∙◌, refl, sym, ap, inl, inr, ℕ, List, [], ◌∷◌, ◌++◌, codes, length, arith, Bool, true, false, if◌then◌else◌, Option, Result, Ok, Err, IfOk, IfErr}
use Rattle.ps_step.specs.declared.fault.PsError.{PsError}
use Rattle.table_asks.specs.declared.fault.AskFault.{AskFault}
use Rattle.table_asks.specs.declared.fault.AskFault.TheVariants.{Refused, Raised, Spent, NoMemory, Broken}
use Rattle.c_session.specs.declared.command.Command.{Command}
use Rattle.c_session.specs.declared.command.Spot.{Spot}
use Rattle.c_session.specs.declared.command.Command.TheVariants as command
use Rattle.c_session.specs.Commands.{Refusal, BadLine, Resume}
use Rattle.asking.specs.Lines.{BeginsWith}
use Rattle.asking.specs.Refusals.{refusal_of}
use Rattle.claims.specs.Side.{SideEvent, Stops, Pauses, Exits, Faults, OutOfTurns, OutOfStack}
use Rattle.session.specs.declared.answers.Answer.{Answer}
use Rattle.session.specs.declared.answers.Answer.TheVariants as answer
use Rattle.session.specs.declared.answers.End.{End}
use Rattle.session.specs.declared.modes.Mode.{Mode}
use Rattle.session.specs.declared.modes.Mode.TheVariants.{Ended}
use Rattle.session.specs.declared.sides.SideRecord.{SideRecord}
use Rattle.session.specs.Answered.{Answers, IsTrouble, AnswersTrouble, refusal_reply, error_reply, spent_reply, limit_reply}
use Rattle.session.specs.Events.{event_line}
use Rattle.session.specs.Kept.{AnswersFault, SaysDone}
use Rattle.session.specs.Resuming.{Resumes}

abbrev pub target_reply : List ℕ
target_reply = codes "target\n"

-- ---- texts

abbrev first_byte : List ℕ → ℕ
first_byte [] = 0
first_byte (x ∷ xs) = x

-- a text whose first letter is another one
begins_else : (n : ℕ) (text : List ℕ) → first_byte text ≡ n → n ≢ 116 → text ≢ target_reply
begins_else n text e k = λ h. k (sym e ∙ ap first_byte h)

word_else : (n : ℕ) (bytes text : List ℕ) → BeginsWith bytes text → ((rest : List ℕ) → first_byte (bytes ++ rest) ≡ n) → n ≢ 116 → text ≢ target_reply
word_else n bytes text w first k = begins_else n text (ap first_byte w.1 ∙ first w.0) k

nothing_else : [] ≢ target_reply
nothing_else = begins_else 0 [] refl (λ e. absurd (omega (arith, e)))

pub refusal_else : (u : Refusal) → refusal_reply u ≢ target_reply
refusal_else u = begins_else 114 (refusal_reply u) refl (λ e. absurd (omega (arith, e)))

error_else : (e : PsError) → error_reply e ≢ target_reply
error_else e = begins_else 112 (error_reply e) refl (λ h. absurd (omega (arith, h)))

spent_else : spent_reply ≢ target_reply
spent_else = begins_else 112 spent_reply refl (λ h. absurd (omega (arith, h)))

pub limit_else : (n : ℕ) → limit_reply n ≢ target_reply
limit_else n = begins_else 108 (limit_reply n) refl (λ e. absurd (omega (arith, e)))

pub set_else : (text : List ℕ) → text ≡ codes "set\n" → text ≢ target_reply
set_else text is = begins_else 115 text (ap first_byte is) (λ e. absurd (omega (arith, e)))

pub outside_else : (e : PsError) (text : List ℕ) → text ≡ error_reply e → text ≢ target_reply
outside_else e text is = begins_else 112 text (ap first_byte is) (λ h. absurd (omega (arith, h)))

pub line_else : (empty : Bool) → (if empty then [] else refusal_reply BadLine) ≢ target_reply
line_else true = nothing_else
line_else false = refusal_else BadLine

event_else : (e : SideEvent) → event_line e ≢ target_reply
event_else (Stops p) = begins_else 115 (event_line (Stops p)) refl (λ h. absurd (omega (arith, h)))
event_else (Pauses pc) = begins_else 112 (event_line (Pauses pc)) refl (λ h. absurd (omega (arith, h)))
event_else (Exits status) = begins_else 101 (event_line (Exits status)) refl (λ h. absurd (omega (arith, h)))
event_else (Faults fault pc) = begins_else 102 (event_line (Faults fault pc)) refl (λ h. absurd (omega (arith, h)))
event_else OutOfTurns = λ h. let same : 6 ≡ 7 = ap (λ (t : List ℕ). length t) h in absurd (omega (arith, same))
event_else OutOfStack = begins_else 115 (event_line OutOfStack) refl (λ h. absurd (omega (arith, h)))

-- ---- what a command says

said_else : (n : ℕ) (bytes : List ℕ) → ((rest : List ℕ) → first_byte (bytes ++ rest) ≡ n) → n ≢ 116 → (r : Result (List ℕ) AskFault) → IfOk r (λ text. BeginsWith bytes text) → IfOk r (λ text. text ≢ target_reply)
said_else n bytes first k (Ok text) w = word_else n bytes text w first k
said_else n bytes first k (Err fault) w = tt

pub frames_else : (r : Result (List ℕ) AskFault) → IfOk r (λ text. BeginsWith (codes "frames ") text) → IfOk r (λ text. text ≢ target_reply)
frames_else r w = said_else 102 (codes "frames ") (λ rest. refl) (λ e. absurd (omega (arith, e))) r w

pub value_else : (r : Result (List ℕ) AskFault) → IfOk r (λ text. BeginsWith (codes "value ") text) → IfOk r (λ text. text ≢ target_reply)
value_else r w = said_else 118 (codes "value ") (λ rest. refl) (λ e. absurd (omega (arith, e))) r w

pub code_else : (r : Result (List ℕ) AskFault) → IfOk r (λ text. BeginsWith (codes "code ") text) → IfOk r (λ text. text ≢ target_reply)
code_else r w = said_else 99 (codes "code ") (λ rest. refl) (λ e. absurd (omega (arith, e))) r w

pub ps_else : (r : Result (List ℕ) AskFault) → IfOk r (λ text. BeginsWith (codes "ps") text) → IfOk r (λ text. text ≢ target_reply)
ps_else r w = said_else 112 (codes "ps") (λ rest. refl) (λ e. absurd (omega (arith, e))) r w

pub regs_else : (r : Result (List ℕ) AskFault) → IfOk r (λ text. BeginsWith (codes "regs ") text) → IfOk r (λ text. text ≢ target_reply)
regs_else r w = said_else 114 (codes "regs ") (λ rest. refl) (λ e. absurd (omega (arith, e))) r w

-- a command that is asked of no side says nothing
pub silent_else : (c : Command) → ((spot : Spot) → c ≢ command.Break spot) → ((spot : Spot) → c ≢ command.Clear spot) → ((n : ℕ) → c ≢ command.Frame n) → SaysDone c []
silent_else (command.Break spot) b l f = absurd (b spot refl)
silent_else (command.Clear spot) b l f = absurd (l spot refl)
silent_else (command.Frame n) b l f = absurd (f n refl)
silent_else command.Continue b l f = nothing_else
silent_else command.Step b l f = nothing_else
silent_else command.Quit b l f = nothing_else
silent_else (command.Turns k) b l f = nothing_else
silent_else command.Frames b l f = nothing_else
silent_else (command.Print name) b l f = nothing_else
silent_else (command.Eval e) b l f = nothing_else
silent_else (command.Assign e) b l f = nothing_else
silent_else command.Regs b l f = nothing_else
silent_else (command.Code e) b l f = nothing_else
silent_else (command.Ps t) b l f = nothing_else

pub done_else : (c : Command) (text : List ℕ) → SaysDone c text → text ≢ target_reply
done_else (command.Break spot) text w = word_else 98 (codes "break ") text w (λ rest. refl) (λ e. absurd (omega (arith, e)))
done_else (command.Clear spot) text w = word_else 99 (codes "clear ") text w (λ rest. refl) (λ e. absurd (omega (arith, e)))
done_else (command.Frame k) text w = word_else 102 (codes "frame ") text w (λ rest. refl) (λ e. absurd (omega (arith, e)))
done_else command.Continue text w = w
done_else command.Step text w = w
done_else command.Quit text w = w
done_else (command.Turns k) text w = w
done_else command.Frames text w = w
done_else (command.Print name) text w = w
done_else (command.Eval e) text w = w
done_else (command.Assign e) text w = w
done_else command.Regs text w = w
done_else (command.Code e) text w = w
done_else (command.Ps t) text w = w

-- ---- answers

abbrev pub is_target : Result Answer End
is_target = Ok (answer.Lines target_reply)

abbrev pub said_so : Answer → Result Answer End
said_so a = Ok a

lines_same : (t u : List ℕ) → said_so (answer.Lines t) ≡ Ok (answer.Lines u) → t ≡ u
lines_same t u e = cc

none_said : said_so answer.NoMemory ≡ is_target → ⊥
none_said e = cc

pub none_else : (a : Answer) → a ≡ answer.NoMemory → said_so a ≢ is_target
none_else a is = λ h. none_said (ap said_so (sym is) ∙ h)

pub lines_else : (text : List ℕ) (a : Result Answer End) → a ≡ Ok (answer.Lines text) → text ≢ target_reply → a ≢ is_target
lines_else text a is e = λ h. e (lines_same text target_reply (sym is ∙ h))

-- one that may find no memory
pub answers_else : (text : List ℕ) (a : Result Answer End) → Answers text a → text ≢ target_reply → a ≢ is_target
answers_else text (Ok (answer.Lines t)) is e = λ h. e (sym is ∙ lines_same t target_reply h)
answers_else text (Ok answer.NoMemory) is e = none_said
answers_else text (Err f) is e = λ h. cc

trouble_else : (a : Result Answer End) → AnswersTrouble a → a ≢ is_target
trouble_else (Ok answer.NoMemory) t = none_said
trouble_else (Ok (answer.Lines text)) (inl w) = λ h. refusal_else w.0 (sym w.1 ∙ lines_same text target_reply h)
trouble_else (Ok (answer.Lines text)) (inr (inl w)) = λ h. error_else w.0 (sym w.1 ∙ lines_same text target_reply h)
trouble_else (Ok (answer.Lines text)) (inr (inr w)) = λ h. spent_else (sym w ∙ lines_same text target_reply h)
trouble_else (Err f) t = λ h. cc

-- ---- what ends a session

-- a fault
pub fault_ends : (broken : List ℕ) (old new : Mode) (fault : AskFault) (a : Answer) → AnswersFault broken old new fault a → said_so a ≡ is_target → new ≡ Ended
fault_ends broken old new (Broken f) a w is = w.0
fault_ends broken old new (Refused cause) a w is = absurd (answers_else (refusal_reply (refusal_of cause)) (Ok a) w.1 (refusal_else (refusal_of cause)) is)
fault_ends broken old new (Raised e) a w is = absurd (answers_else (error_reply e) (Ok a) w.1 (error_else e) is)
fault_ends broken old new Spent a w is = absurd (answers_else spent_reply (Ok a) w.1 spent_else is)
fault_ends broken old new NoMemory (answer.Lines text) w is = absurd w.1
fault_ends broken old new NoMemory answer.NoMemory w is = absurd (none_said is)

-- a command that asks the target
pub said_ends : (c : Command) (broken : List ℕ) (old new : Mode) (said : Result (List ℕ) AskFault) (a : Answer) → IfOk said (λ text. SaysDone c text) → IfOk said (λ text. (a ≡ answer.Lines text) × (new ≡ old)) → IfErr said (λ fault. AnswersFault broken old new fault a)
    → said_so a ≡ is_target → new ≡ Ended
said_ends c broken old new (Ok text) a w ok err is = absurd (lines_else text (Ok a) (ap (λ (z : Answer). Ok z) ok.0) (done_else c text w) is)
said_ends c broken old new (Err fault) a w ok err is = fault_ends broken old new fault a err is

-- a resume
pub resume_ends : (silent : Type 0) (how : Resume) (old new : Mode) (a a' : SideRecord) (b b' : Option SideRecord) (broken : List ℕ) (r : Result Answer End) → Resumes silent how old new a a' b b' broken r → r ≡ is_target → new ≡ Ended
resume_ends silent how old new a a' b b' broken r (inl t) is = absurd (lines_else (event_line t.all) r t.line (event_else t.all) is)
resume_ends silent how old new a a' b b' broken r (inr (inl t)) is = absurd (trouble_else r t.0.trouble is)
resume_ends silent how old new a a' b b' broken r (inr (inr t)) is = t.0
