-- The reason of a refusal, in the words of the machine session.
use Rattle.c_session.specs.Commands.{Refusal, NoPlace, NoFrame, BadText, IsUndefined}
use Rattle.c_reading.specs.Readings.{BadSyntax, NoScope, BadType}
use Rattle.table_asks.specs.declared.fault.Cause.{Cause}
use Rattle.table_asks.specs.declared.fault.Cause.TheVariants as cause

abbrev pub refusal_of : Cause → Refusal
refusal_of cause.NoPlace = NoPlace
refusal_of cause.NoFrame = NoFrame
refusal_of cause.BadSyntax = BadText BadSyntax
refusal_of cause.NoScope = BadText NoScope
refusal_of cause.BadType = BadText BadType
refusal_of (cause.Undefined reason) = IsUndefined reason
