-- How the counts of faults move where a call may fail for several causes.
use Rattle.std.specs.Prelude.{◌≡◌, ◌⊎◌, ℕ, List, Option, take, Result, Ok, Err}
use Rattle.ldb_edge.specs.Count.{Rose}
use Rattle.ldb_edge.specs.Known.{known_and}
use Rattle.cc_call.specs.declared.ended.Fault.{Fault}
use Rattle.cc_call.specs.declared.ended.Fault.TheVariants.{Read, Write, NoMemory}

-- of a call that reads: a failed read raises the count, and nothing else moves it
abbrev pub CountsRead : ℕ → ℕ → Fault → Type 0
CountsRead before now Read = Rose before now
CountsRead before now Write = ⊥
CountsRead before now NoMemory = now ≡ before

-- of a call that writes a line
abbrev pub CountsWrite : ℕ → ℕ → Fault → Type 0
CountsWrite before now Write = Rose before now
CountsWrite before now Read = ⊥
CountsWrite before now NoMemory = now ≡ before

-- the front of a text was taken
pub record TakesFront (old new : Option (List ℕ)) (text : List ℕ) : Type 0 where
  pub count : ℕ
  pub front : new ≡ known_and old (take count text)

-- the counts of faults: of the files at reading and at writing, and of the transcript
pub record Counts : Type 0 where
  pub reading : ℕ
  pub writing : ℕ
  pub transcript : ℕ

abbrev pub counts : ℕ → ℕ → ℕ → Counts
counts reading writing transcript = record { reading = reading; writing = writing; transcript = transcript }

-- no count moved
pub record NoFault (old new : Counts) : Type 0 where
  pub reading : new.reading ≡ old.reading
  pub writing : new.writing ≡ old.writing
  pub transcript : new.transcript ≡ old.transcript

-- a failed read and a failed write have their cause, and otherwise, also where there was no memory, no count moved
abbrev pub HasCauses : {A : Type 0} → Result A Fault → Counts → Counts → Type 0
HasCauses (Ok answer) old new = NoFault old new
HasCauses (Err Read) old new = Rose old.reading new.reading
HasCauses (Err Write) old new = Rose old.writing new.writing ⊎ Rose old.transcript new.transcript
HasCauses (Err NoMemory) old new = NoFault old new
