-- When the counts of faults rise, of the output and of the link.
use Rattle.std.specs.Prelude.{◌≡◌, ◌⊎◌, ℕ, List, Result, Ok, Err}
use Rattle.ldb_edge.specs.Count.{Rose}
use Rattle.resuming.specs.declared.fault.RunFault.{RunFault}
use Rattle.resuming.specs.declared.fault.RunFault.TheVariants as fault
use Rattle.abs_mem.specs.declared.memory.MemFault.TheVariants.{Outside, LinkFault, BadReply}
use Rattle.wire_talk.specs.declared.fault.TalkFault.{TalkFault}
use Rattle.wire_talk.specs.declared.fault.TalkFault.TheVariants as talk
use Rattle.table_asks.specs.declared.fault.AskFault.{AskFault}
use Rattle.table_asks.specs.declared.fault.AskFault.TheVariants as ask
use Rattle.session.specs.declared.answers.Answer.{Answer}
use Rattle.session.specs.declared.answers.Answer.TheVariants.{Lines, NoMemory}
use Rattle.session.specs.declared.answers.End.{End}
use Rattle.session.specs.declared.answers.End.TheVariants.{Quit, OutFault}
use Rattle.session.specs.declared.modes.Mode.{Mode}
use Rattle.session.specs.Kept.{IsBrokenOff}

-- the output's fault raises its count, and nothing else does
abbrev pub CountsOutput : {A : Type 0} → (old new : ℕ) → Result A RunFault → Type 0
CountsOutput old new (Ok x) = new ≡ old
CountsOutput old new (Err (fault.Talk f)) = new ≡ old
CountsOutput old new (Err fault.Output) = Rose old new

abbrev pub CountsEnd : (old new : ℕ) → Result Answer End → Type 0
CountsEnd old new (Ok a) = new ≡ old
CountsEnd old new (Err Quit) = new ≡ old
CountsEnd old new (Err OutFault) = Rose old new

-- a command that isn't `quit` doesn't end the reading
abbrev pub IsNoQuit : Result Answer End → Type 0
IsNoQuit (Err Quit) = ⊥
IsNoQuit r = Unit {0}

-- ---- the link

-- the link's fault raises its count, and nothing else does
abbrev pub CountsFault : (old new : ℕ) → AskFault → Type 0
CountsFault old new (ask.Refused cause) = new ≡ old
CountsFault old new (ask.Raised e) = new ≡ old
CountsFault old new ask.Spent = new ≡ old
CountsFault old new ask.NoMemory = new ≡ old
CountsFault old new (ask.Broken LinkFault) = Rose old new
CountsFault old new (ask.Broken (BadReply frame)) = new ≡ old
CountsFault old new (ask.Broken (Outside p)) = ⊥

abbrev pub CountsAsk : {A : Type 0} → (old new : ℕ) → Result A AskFault → Type 0
CountsAsk old new (Ok x) = new ≡ old
CountsAsk old new (Err fault) = CountsFault old new fault

abbrev pub CountsTalk : {A : Type 0} → (old new : ℕ) → Result A TalkFault → Type 0
CountsTalk old new (Ok x) = new ≡ old
CountsTalk old new (Err talk.LinkFault) = Rose old new
CountsTalk old new (Err (talk.BadReply frame)) = new ≡ old

-- behind a command whose link failed the session has ended by its last reply
abbrev pub CountsAnswer : (old new : ℕ) → (broken : List ℕ) → Mode → Result Answer End → Type 0
CountsAnswer old new broken mode (Ok (Lines text)) = (new ≡ old) ⊎ IsBrokenOff old new broken mode text
CountsAnswer old new broken mode (Ok NoMemory) = new ≡ old
CountsAnswer old new broken mode (Err Quit) = new ≡ old
CountsAnswer old new broken mode (Err OutFault) = new ≡ old
