-- What a call leaves whose words ask to compile, by its status.
use Rattle.std.specs.Prelude.{ℕ, List, Option, Ok, Err}
use Rattle.ldb_edge.specs.Known.{FileMap}
use Rattle.cc_call.specs.declared.call.Answer.TheVariants as answer
use Rattle.cc_call.specs.declared.ended.Fault.TheVariants as fault
use Rattle.cc_call.specs.Words.{Request}
use Rattle.cc_call.specs.Outcome.{Leaves}
use Rattle.ldb_top.specs.declared.status.Status.{Status}
use Rattle.ldb_top.specs.declared.status.Status.TheVariants.{Done, Refused, ReadFault, WriteFault, NoMemory, NoFile}

-- both files and `built` are written, or the line of another answer, or a part of this after a fault; other statuses never come
abbrev pub Compiles : Request → (held held' : Option FileMap) → (taken taken' : Option (List ℕ)) → Status → Type 0
Compiles r held held' taken taken' Done = Leaves r held held' taken taken' (Ok answer.Built)
Compiles r held held' taken taken' Refused = Leaves r held held' taken taken' (Ok answer.Refused)
Compiles r held held' taken taken' NoFile = Leaves r held held' taken taken' (Ok answer.Missing)
Compiles r held held' taken taken' ReadFault = Leaves r held held' taken taken' (Err fault.Read)
Compiles r held held' taken taken' WriteFault = Leaves r held held' taken taken' (Err fault.Write)
Compiles r held held' taken taken' NoMemory = Leaves r held held' taken taken' (Err fault.NoMemory)
Compiles _ _ _ _ _ _ = ⊥
