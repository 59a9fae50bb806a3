-- What the checker of an expression in a session answers.
use Rattle.std.specs.Prelude.{◌≡◌, ℕ, List, not, ◌&&◌, Bool, if◌then◌else◌, Some, None, Result, Ok, Err}
use Rattle.c_trees.specs.Expressions.{Tree}
use Rattle.c_tree.specs.declared.typed.Typed.{Typed}
use Rattle.c_typing.specs.Plain.{is_void}
use Rattle.c_typing.specs.Rules.{Operand, may_drop}
use Rattle.c_judge.specs.declared.check.Mode.{Mode}
use Rattle.c_judge.specs.declared.check.Mode.TheVariants as mode
use Rattle.c_judge.specs.declared.fault.ExprFault.{ExprFault}
use Rattle.c_judge.specs.declared.fault.ExprFault.TheVariants as fault
use Rattle.c_judge.specs.Scope.{Scope}
use Rattle.c_judge.specs.Answers.{Answer, Known, Broken, ◌then◌}
use Rattle.c_judge.specs.Places.{place_of}
use Rattle.c_judge.specs.Judgement.{Verdict, judged}
use Rattle.c_judge.specs.Elaboration.{Elaborates}
use Rattle.c_judge.specs.Forms.{unknown, forbidden_in}

-- 22. A `void` value is no whole expression; a struct value is one in `eval`, and that of a struct assignment in `assign` too.
abbrev pub stands : Mode → Operand → Bool
stands mode.Value a = not (is_void a.ctype)
stands mode.Assign a = not (is_void a.ctype) && may_drop a

-- what is known of the whole expression, or a rule that is broken
abbrev pub whole : Scope → Mode → Tree → Verdict
whole v m e = judged v e then λ j. if stands m j.operand then Known j else Broken 22 (place_of e).at

abbrev pub IsKnown : {A : Type 0} → Answer A → Type 0
IsKnown (Known x) = Unit {0}
IsKnown _ = ⊥

-- this rule is broken
abbrev pub Breaks : Verdict → ℕ → Type 0
Breaks (Broken r at) n = n ≡ r
Breaks _ n = ⊥

-- The typed expression where its names are in scope, its rules hold and no forbidden form stands in it. Else the first name that is not
-- in scope; or where all are, the number of the rule that is broken; or where none is, the place of the first forbidden form.
abbrev pub Checks : Scope → Mode → Tree → Result Typed ExprFault → Type 0
Checks v m e (Ok x) = (unknown v e ≡ None) × IsKnown (whole v m e) × (forbidden_in m e ≡ None) × Elaborates v e x
Checks v m e (Err (fault.Scope name)) = unknown v e ≡ Some name
Checks v m e (Err (fault.Rule r)) = (unknown v e ≡ None) × Breaks (whole v m e) r
Checks v m e (Err (fault.Forbidden at)) = (unknown v e ≡ None) × IsKnown (whole v m e) × (forbidden_in m e ≡ Some at)
Checks v m e (Err fault.NoMemory) = Unit {0}

-- a name that is not in scope
abbrev pub IsOutOfScope : List ℕ → ExprFault → Type 0
IsOutOfScope text (fault.Scope name) = name ≡ text
IsOutOfScope text fault.NoMemory = Unit {0}
IsOutOfScope text _ = ⊥
