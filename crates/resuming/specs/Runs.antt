-- What a resume over a link comes to.
use Rattle.std.specs.Prelude.{◌≡◌, ℕ, List, [], ◌++◌, Option, Result, Ok, Err}
use Rattle.ldb_edge.specs.Count.{Rose}
use Rattle.ldb_edge.specs.Known.{known_and}
use Rattle.machine_state.specs.State.{Behaviour}
use Rattle.nub_wire.specs.declared.message.Msg.{Msg}
use Rattle.nub_wire.specs.declared.message.Msg.TheVariants as msg
use Rattle.nub_wire.specs.declared.message.Ending.{Ending}
use Rattle.nub_wire.specs.declared.link.Side.{Side}
use Rattle.nub_wire.specs.Endings.{reply_of}
use Rattle.nub_wire.specs.Spelling.{frame_of}
use Rattle.nub_wire.specs.Nub.{Host}
use Rattle.nub_wire.specs.Delivery.{Conduct, World}
use Rattle.nub_wire.specs.Calls.{Owes, BadReply}
use Rattle.nub_wire.specs.Resumes.{run_from, after_run}
use Rattle.wire_talk.specs.declared.fault.TalkFault.{TalkFault}
use Rattle.wire_talk.specs.declared.fault.TalkFault.TheVariants as talk
use Rattle.wire_talk.specs.Talk.{owing}
use Rattle.resuming.specs.declared.fault.RunFault.{RunFault}
use Rattle.resuming.specs.declared.fault.RunFault.TheVariants as fault
use Rattle.resuming.specs.declared.run.Told.{Told}
use Rattle.resuming.specs.declared.run.Told.TheVariants as told
use Rattle.resuming.specs.Standing.{Stands}

-- ---- its messages

-- output, or the end of a run
abbrev pub IsOfRun : Msg → Type 0
IsOfRun (msg.Output bytes) = Unit {0}
IsOfRun (msg.Stopped why pc) = Unit {0}
IsOfRun (msg.Exited status) = Unit {0}
IsOfRun (msg.Faulted kind pc) = Unit {0}
IsOfRun msg.Turns = Unit {0}
IsOfRun msg.Stack = Unit {0}
IsOfRun _ = ⊥

abbrev pub message_of : Told → Msg
message_of (told.Output bytes) = msg.Output bytes
message_of (told.End e) = reply_of e

-- ---- its output

-- a sink took the front of some bytes
pub record TakesFront (old new : Option (List ℕ)) (bytes : List ℕ) : Type 0 where
  pub front : List ℕ
  pub back : List ℕ
  pub whole : front ++ back ≡ bytes
  pub taken : new ≡ known_and old front

-- ---- its faults

-- A fault of the link or of the output raises that count, and nothing else moves one.
abbrev pub CountsRun : {A : Type 0} → (link link' out out' : ℕ) → Result A RunFault → Type 0
CountsRun link link' out out' (Ok x) = (link' ≡ link) × (out' ≡ out)
CountsRun link link' out out' (Err (fault.Talk talk.LinkFault)) = Rose link link' × (out' ≡ out)
CountsRun link link' out out' (Err (fault.Talk (talk.BadReply frame))) = (link' ≡ link) × (out' ≡ out)
CountsRun link link' out out' (Err fault.Output) = (link' ≡ link) × Rose out out'

-- What it comes to by the calls of a link: the reply to a Resume was owed until the frame of its end came whole, or a bad
-- reply came.
abbrev pub RunsBy : {S : Type 0} → (S → List ℕ → ℕ → S → Type 0) → (S → ℕ → List ℕ → S → Type 0) → (turns : ℕ) → S → Result Ending RunFault → S → Type 0
RunsBy took gave turns s (Ok e) u = (printed : ℕ) × Owes took gave (msg.Resume turns) s (owing (msg.Resume turns) printed (frame_of (reply_of e))) u
RunsBy took gave turns s (Err (fault.Talk talk.LinkFault)) u = Unit {0}
RunsBy took gave turns s (Err (fault.Talk (talk.BadReply frame))) u = BadReply took gave (msg.Resume turns) s frame.items u
RunsBy took gave turns s (Err fault.Output) u = Unit {0}

-- ---- over nubs that meet their definition

-- The end, the output and the machine are those of the run, and the side stands again, with the other one as it was. After a
-- fault the front of the run's output was put. No bad reply comes.
abbrev pub RunTold : Behaviour → Conduct → Side → (turns : ℕ) → Host → (beside : Option Host) → Result Ending RunFault → Option World → (taken taken' : Option (List ℕ)) → Type 0
RunTold b c side turns h beside (Ok e) o taken taken' =
    (e ≡ (run_from b turns h.machine).ending) × (taken' ≡ known_and taken (run_from b turns h.machine).output)
    × Stands b c side o (after_run (run_from b turns h.machine) h) beside
RunTold b c side turns h beside (Err (fault.Talk talk.LinkFault)) o taken taken' = TakesFront taken taken' (run_from b turns h.machine).output
RunTold b c side turns h beside (Err (fault.Talk (talk.BadReply frame))) o taken taken' = ⊥
RunTold b c side turns h beside (Err fault.Output) o taken taken' = TakesFront taken taken' (run_from b turns h.machine).output
