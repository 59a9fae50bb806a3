-- What a resume of a side comes to by the calls of a link.
use Rattle.std.specs.Prelude.{◌≡◌, ℕ, List, Option, Some, None, Result, Ok, Err}
use Rattle.nub_wire.specs.declared.message.Msg.TheVariants as msg
use Rattle.nub_wire.specs.declared.message.Ending.{Ending}
use Rattle.nub_wire.specs.declared.link.Side.{Side}
use Rattle.nub_wire.specs.Endings.{reply_of}
use Rattle.nub_wire.specs.Spelling.{frame_of}
use Rattle.nub_wire.specs.Calls.{Owes, took_on, gave_on}
use Rattle.abs_mem.specs.WireMeaning.{Exchanges}
use Rattle.wire_talk.specs.Talk.{owing}
use Rattle.wire_talk.specs.declared.fault.TalkFault.TheVariants as talk
use Rattle.resuming.specs.declared.fault.RunFault.{RunFault}
use Rattle.resuming.specs.declared.fault.RunFault.TheVariants as fault
use Rattle.debug_side.specs.declared.event.Event.{Event}

-- exchanges and whole resumes, one after another, of which the last may be bad
pub data Talked {S : Type 0} (took : S → List ℕ → ℕ → S → Type 0) (gave : S → ℕ → List ℕ → S → Type 0) : S → Option (List ℕ) → S → Type 0 where
  asked : {s u : S} {o : Option (List ℕ)} → Exchanges took gave s o u → Talked took gave s o u
  ran : {s t u v : S} {o : Option (List ℕ)} (turns printed : ℕ) (e : Ending) → Exchanges took gave s None t
      → Owes took gave (msg.Resume turns) t (owing (msg.Resume turns) printed (frame_of (reply_of e))) u → Talked took gave u o v → Talked took gave s o v

-- on one side of a link, which stays the side that is meant
abbrev pub SideCalled : {S : Type 0} → (S → Side → List ℕ → ℕ → S → Type 0) → (S → Side → ℕ → List ℕ → S → Type 0) → Side → S → Result Event RunFault → Side → S → Type 0
SideCalled took gave side s (Ok event) side' u = (side' ≡ side) × Talked (took_on took side) (gave_on gave side) s None u
SideCalled took gave side s (Err (fault.Talk talk.LinkFault)) side' u = Unit {0}
SideCalled took gave side s (Err (fault.Talk (talk.BadReply frame))) side' u = Talked (took_on took side) (gave_on gave side) s (Some frame.items) u
SideCalled took gave side s (Err fault.Output) side' u = Unit {0}
