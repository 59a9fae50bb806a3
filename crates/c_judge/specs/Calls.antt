-- Calls of checked parts.
use Rattle.std.specs.Prelude.{◌≡◌, ℕ, Bool, if◌then◌else◌, List, [], ◌∷◌, ◌++◌, map, Result, Ok, Err, Option, Some, None, slice_get}
use Rattle.c_trees.specs.Expressions.{Tree}
use Rattle.c_tree.specs.declared.typed.Typed.{Typed}
use Rattle.c_judge.specs.declared.part.Part.{Part}
use Rattle.c_judge.specs.declared.calls.Calling.{Calling as Called}
use Rattle.c_judge.specs.declared.fault.Fault.{Fault}
use Rattle.c_judge.specs.declared.fault.Fault.TheVariants.{Rule, NoMemory}
use Rattle.c_judge.specs.Scope.{Scope}
use Rattle.c_judge.specs.Answers.{Known, ◌then◌}
use Rattle.c_judge.specs.Places.{place_of}
use Rattle.c_judge.specs.Judgement.{judged, argument, goes_to, calling, callee, callee_named, function_numbered}
use Rattle.c_judge.specs.Parts.{judged_of, operand_of}
use Rattle.c_judge.specs.Elaboration.{Elaborates, AreArguments, IsCallee, callee_of}
use Rattle.c_judge.specs.Judges.{IsFault, known}
use Rattle.c_judge.specs.declared.scope.Scope.{Scope as Names}
use Rattle.c_tree.specs.declared.types.CType.{CType}
use Rattle.c_typing.specs.Plain.{Plain}

abbrev pub typed_in : Part → Typed
typed_in p = p.typed.value

abbrev pub number_or_none : Option ℕ → ℕ
number_or_none None = 0
number_or_none (Some n) = n

-- the parameters of the function that a number calls
abbrev pub parameters_by : Names → Option ℕ → List CType
parameters_by v None = []
parameters_by v (Some n) = known (slice_get v.parameters.now n)

-- the number of a name that is called
abbrev pub NamesCallee : Scope → List ℕ → Result (Option ℕ) Fault → Type 0
NamesCallee v text (Ok n) = (callee_named v text (v.number text) ≡ Known (function_numbered v n)) × (v.number text ≡ Some (number_or_none n))
NamesCallee v text (Err e) = IsFault (callee_named v text (v.number text)) e

-- one argument more
abbrev pub IsWith : Called → Part → Result Called Fault → Type 0
IsWith c x (Ok d) = (d.callee ≡ c.callee) × (d.arguments.items ≡ c.arguments.items ++ x ∷ [])
IsWith c x (Err e) = e ≡ NoMemory

-- an argument that keeps the rule of its parameter
abbrev pub IsPassed : (asks : Bool) (at : ℕ) → Option Plain → Result Part Fault → Result Part Fault → Type 0
IsPassed asks at t (Ok x) r = r ≡ (if goes_to t (operand_of x) then Ok x else Err (Rule (if asks then 29 else 22) at))
IsPassed asks at t (Err f) r = r ≡ Err f

-- what there is of the argument behind those that a call has so far
abbrev pub IsArgument : Scope → Tree → Tree → Result Part Fault → Type 0
IsArgument v t e (Ok x) = (◌then◌ (judged v e) (argument v t (place_of e).at) ≡ Known (judged_of x)) × Elaborates v e x.typed.value
IsArgument v t e (Err f) = IsFault (◌then◌ (judged v e) (argument v t (place_of e).at)) f

-- what is called: the number of a name, or none
abbrev pub Calls : Scope → Tree → Result (Option ℕ) Fault → Type 0
Calls v f (Ok n) = (callee v f (judged v f) ≡ Known (function_numbered v n)) × IsCallee v f (number_or_none n)
Calls v f (Err e) = IsFault (callee v f (judged v f)) e

-- what is called with so many arguments, by those so far
abbrev pub Gathers : Scope → ℕ → Tree → Result Called Fault → Type 0
Gathers v n t (Ok c) = (calling v n t ≡ Known (function_numbered v c.callee)) × IsCallee v (callee_of t) (number_or_none c.callee) × AreArguments v t (map typed_in c.arguments.items)
Gathers v n t (Err e) = IsFault (calling v n t) e
