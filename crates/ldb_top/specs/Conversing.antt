-- How a session that is served goes on, line by line.
use Rattle.std.specs.Prelude.{◌≡◌, ℕ, Bool, true, false, List, [], Option, Some, Result, Ok, Err}
use Rattle.ldb_edge.specs.Known.{known_and}
use Rattle.nub_wire.specs.Delivery.{World}
use Rattle.targets.specs.Targets.{machine_behaviour}
use Rattle.near_link.specs.Near.{near_conduct}
use Rattle.c_session.specs.declared.command.Command.{Command}
use Rattle.cmd_lang.specs.Words.{is_empty}
use Rattle.cmd_lang.specs.Commands.{read_of}
use Rattle.cc_call.specs.declared.ended.Fault.{Fault}
use Rattle.cc_call.specs.declared.ended.Fault.TheVariants.{Write}
use Rattle.claims.specs.Side.{SessionState}
use Rattle.session.specs.declared.answers.Answer.{Answer}
use Rattle.session.specs.declared.answers.End.{End}
use Rattle.session.specs.declared.answers.End.TheVariants as end
use Rattle.session.specs.declared.conversation.Session.{Session}
use Rattle.session.specs.Meant.{Hosts, Represents}
use Rattle.ldb_top.specs.declared.serving.Next.{Next}
use Rattle.ldb_top.specs.declared.serving.Next.TheVariants as next
use Rattle.ldb_top.specs.Ahead.{Lines}
use Rattle.ldb_top.specs.Conversed.{HasConversed, IsNext, IsPassed, reply_of}
use Rattle.ldb_top.specs.Fronts.{HasBrokenOff, IsInPart}
use Rattle.ldb_top.specs.Late.{asks_quit}
use Rattle.ldb_top.specs.Said.{IsFront}

-- the transcript took more, where it tells what it took
pub record TakesMore (old new : Option (List ℕ)) : Type 0 where
  pub more : List ℕ
  pub is : new ≡ known_and old more

-- a session stands for this machine session
pub record IsOver (raw : Bool) (s : Session World) (st : SessionState) : Type 0 where
  pub hosts : Hosts
  pub represents : Represents machine_behaviour near_conduct (Some s.talk.memory.below.below.below.link) s.first s.second s.mode s.limit hosts st
  pub raw_is : s.raw ≡ raw

-- ---- one line

-- the bytes that a line is answered by, and the machine session behind it: a line of blanks has no reply
abbrev pub IsReply : (blank : Bool) → SessionState → Option Command → (reply : List ℕ) → SessionState → Type 0
IsReply true st c reply next = (reply ≡ []) × (next ≡ st)
IsReply false st c reply next = IsNext IsPassed machine_behaviour st c reply next

-- the session stands for the machine session behind its answer, and the output file holds what that one wrote in all
pub record IsAnswered (raw : Bool) (st : SessionState) (line : List ℕ) (s : Session World) (out : Option (List ℕ)) (a : Answer) : Type 0 where
  pub session : SessionState
  pub over : IsOver raw s session
  pub is_reply : IsReply (is_empty line) st (read_of raw line) (reply_of a) session
  pub put : out ≡ Some session.written
  pub behind : IsFront st.written session.written

-- it ends the session, and nothing was put
pub record IsEnd (raw : Bool) (st : SessionState) (line : List ℕ) (out : Option (List ℕ)) : Type 0 where
  pub full : is_empty line ≡ false
  pub quits : asks_quit (read_of raw line) ≡ true
  pub put : out ≡ Some st.written

-- a front of the output of an answer was put, and no more could be
pub record IsUnwritten (raw : Bool) (st : SessionState) (line : List ℕ) (out : Option (List ℕ)) : Type 0 where
  pub full : is_empty line ≡ false
  pub bytes : List ℕ
  pub put : out ≡ Some bytes
  pub part : IsInPart Write st (read_of raw line) [] bytes

-- what a session makes of a line, over a machine session whose output the file held
abbrev pub IsAnswer : (raw : Bool) → SessionState → (line : List ℕ) → Session World → (out : Option (List ℕ)) → Result Answer End → Type 0
IsAnswer raw st line s out (Ok a) = IsAnswered raw st line s out a
IsAnswer raw st line s out (Err end.Quit) = IsEnd raw st line out
IsAnswer raw st line s out (Err end.OutFault) = IsUnwritten raw st line out

-- ---- line by line

-- the lines ahead, and what the transcript has taken and the output file holds
pub record Here : Type 0 where
  pub lines : Option Lines
  pub taken : Option (List ℕ)
  pub out : Option (List ℕ)

abbrev pub here : Option Lines → (taken out : Option (List ℕ)) → Here
here lines taken out = record { lines = lines; taken = taken; out = out }

-- from there on this is the conversation
abbrev pub IsSo : (raw : Bool) → SessionState → Here → (taken out : Option (List ℕ)) → Type 0
IsSo raw st at taken out = HasConversed raw st at.lines at.taken taken out

-- from there on this is a conversation that was broken off by a fault
abbrev pub IsPart : Fault → (raw : Bool) → SessionState → Here → (taken out : Option (List ℕ)) → Type 0
IsPart fault raw st at taken out = HasBrokenOff fault raw st at.lines at.taken taken out

-- a session that stands for a machine session, by which what is the conversation from now on is that from the start, broken off or not
pub record IsSoFar (raw : Bool) (st : SessionState) (start : Here) (s : Session World) (now : Here) : Type 0 where
  pub session : SessionState
  pub over : IsOver raw s session
  pub put : now.out ≡ Some session.written
  pub on : (taken out : Option (List ℕ)) → IsSo raw session now taken out → IsSo raw st start taken out
  pub part : (fault : Fault) (taken out : Option (List ℕ)) → IsPart fault raw session now taken out → IsPart fault raw st start taken out

-- behind one line
abbrev pub NextIsSo : (raw : Bool) → SessionState → (start : Here) → Session World → (now : Here) → Next → Type 0
NextIsSo raw st start s now next.Line = IsSoFar raw st start s now
NextIsSo raw st start s now next.End = IsSo raw st start now.taken now.out
NextIsSo raw st start s now next.Late = IsSo raw st start now.taken now.out
