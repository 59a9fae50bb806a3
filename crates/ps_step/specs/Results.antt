-- Steps that may raise an error.
use Rattle.std.specs.Prelude.{Option, Some, None, Result, Ok, Err}
use Rattle.ps_store.specs.declared.fault.StoreFault.{StoreFault}
use Rattle.ps_store.specs.declared.fault.StoreFault.TheVariants.{Limit, ReadOnly, NoMemory}
use Rattle.ps_step.specs.declared.fault.PsError.{PsError}
use Rattle.ps_step.specs.declared.fault.PsFault.{PsFault}
use Rattle.ps_step.specs.declared.fault.PsFault.TheVariants.{Error, NoMemory as OutOfMemory}
use Rattle.ps_step.specs.declared.fault.PsError.TheVariants.{LimitCheck, InvalidAccess}

-- what comes after a result, unless it is an error
infixl 10 ◌>>=◌
abbrev pub ◌>>=◌ : {A B E : Type 0} → Result A E → (A → Result B E) → Result B E
(Ok x) >>= f = f x
(Err e) >>= f = Err e

-- the error of a call that the store refuses
abbrev pub error_of : StoreFault → PsError
error_of ReadOnly = InvalidAccess
error_of other = LimitCheck

-- what a call of the store gives, with the program's errors
abbrev pub stored : {A : Type 0} → Result A StoreFault → Result A PsError
stored (Ok x) = Ok x
stored (Err fault) = Err (error_of fault)

-- what a call that changes an object gives, with the program's errors
abbrev pub opened : {A : Type 0} → Option A → Result A PsError
opened (Some x) = Ok x
opened None = Err InvalidAccess

-- an error with the state that stands there
abbrev pub at : {A S : Type 0} → S → Result A PsError → Result A (PsError × S)
at s (Ok x) = Ok x
at s (Err e) = Err (e, s)

-- how a call that the store refuses is handed on
abbrev pub fault_of : StoreFault → PsFault
fault_of Limit = Error LimitCheck
fault_of ReadOnly = Error InvalidAccess
fault_of NoMemory = OutOfMemory
