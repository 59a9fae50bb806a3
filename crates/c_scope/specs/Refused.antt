-- What is told of a part that does not tell names that are not declared.
use Rattle.std.specs.Prelude.{◌≡◌, Result, Ok, Err}
use Rattle.c_judge.specs.declared.fault.Fault.{Fault}
use Rattle.c_judge.specs.declared.fault.Fault.TheVariants as fault
use Rattle.c_judge.specs.Answers.{Answer, Known, Broken}
use Rattle.c_scope.specs.declared.refusal.Refusal.{Refusal}
use Rattle.c_scope.specs.declared.refusal.Refusal.TheVariants.{Rule, NoMemory}
use Rattle.c_scope.specs.Findings.{Finding, nothing}

abbrev pub fault_of : Refusal → Fault
fault_of (Rule r at) = fault.Rule r at
fault_of NoMemory = fault.NoMemory

-- the rule that is broken, or there was no memory
abbrev pub IsRefused : {A : Type 0} → Answer A → Refusal → Type 0
IsRefused j (Rule r at) = j ≡ Broken r at
IsRefused j NoMemory = Unit {0}

-- what is known of a part, or why it is refused
abbrev pub Tells : {A : Type 0} → Answer A → Result A Refusal → Type 0
Tells j (Ok x) = j ≡ Known x
Tells j (Err why) = IsRefused j why

-- that all is as it should be, or why it is not
abbrev pub Finds : {A : Type 0} → Finding → Result A Refusal → Type 0
Finds j (Ok x) = j ≡ nothing
Finds j (Err why) = IsRefused j why
