-- Which answers words of a form may get.
use Rattle.std.specs.Prelude.{Option, Some, None, Ok, Err}
use Rattle.std.specs.declared.result.Result.{Result}
use Rattle.cc_call.specs.declared.ended.Fault.{Fault}
use Rattle.cc_call.specs.declared.ended.Fault.TheVariants.{Read, Write, NoMemory as NoRoom}
use Rattle.ldb_top.specs.declared.status.Status.{Status}
use Rattle.ldb_top.specs.declared.status.Status.TheVariants.{Done, Refused, Words, ReadFault, WriteFault, NoMemory, BadFile}
use Rattle.ldb_top.specs.Words.{Form, Debug, Go, Make, Own}

-- the status that a result is answered with
abbrev pub status_of : Result Status Fault → Status
status_of (Ok status) = status
status_of (Err Read) = ReadFault
status_of (Err Write) = WriteFault
status_of (Err NoRoom) = NoMemory

-- `debug` never refuses
abbrev pub OfDebug : Status → Type 0
OfDebug Refused = ⊥
OfDebug Words = ⊥
OfDebug _ = Unit {0}

-- the tables of sources are good
abbrev pub OfGo : Status → Type 0
OfGo Words = ⊥
OfGo BadFile = ⊥
OfGo _ = Unit {0}

-- `make` reads nothing
abbrev pub OfMake : Status → Type 0
OfMake Done = Unit {0}
OfMake WriteFault = Unit {0}
OfMake NoMemory = Unit {0}
OfMake _ = ⊥

-- so is that of `self`, which reads nothing
abbrev pub OfOwn : Status → Type 0
OfOwn Done = Unit {0}
OfOwn WriteFault = Unit {0}
OfOwn NoMemory = Unit {0}
OfOwn Refused = Unit {0}
OfOwn _ = ⊥

-- words of no form
abbrev pub OfNone : Status → Type 0
OfNone Words = Unit {0}
OfNone WriteFault = Unit {0}
OfNone _ = ⊥

-- words of this form may be answered so
abbrev pub MayAnswer : Option Form → Status → Type 0
MayAnswer None status = OfNone status
MayAnswer (Some Debug) status = OfDebug status
MayAnswer (Some Go) status = OfGo status
MayAnswer (Some Make) status = OfMake status
MayAnswer (Some Own) status = OfOwn status
