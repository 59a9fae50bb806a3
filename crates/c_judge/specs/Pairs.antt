-- Two results as one.
use Rattle.std.specs.Prelude.{ℕ, Option, Some, None, Result, Ok, Err}
use Rattle.c_judge.specs.declared.fault.Fault.{Fault}
use Rattle.c_judge.specs.declared.fault.Fault.TheVariants.{Unknown, Rule, NoMemory}

-- The fault of the left part, or that of the right one where only it can be a broken rule.
abbrev pub graver : {B : Type 0} → Fault → Result B Fault → Fault
graver (Unknown name) (Err (Rule r at)) = Rule r at
graver (Unknown name) (Err NoMemory) = NoMemory
graver f y = f

-- Both, where both are there. A broken rule comes first, that of the left one before that of the right one, and then a name that is not declared in
-- the same way. Where there was no memory for a part that could have broken a rule, there is no answer.
abbrev pub paired : {A B : Type 0} → Result A Fault → Result B Fault → Result (A × B) Fault
paired (Ok x) (Ok y) = Ok (x, y)
paired (Ok x) (Err f) = Err f
paired (Err f) y = Err (graver f y)

-- the rule that one part breaks beside a name in the other that is not declared
abbrev pub told_alone : {A B : Type 0} → (A → Option ℕ) → (B → Option ℕ) → Result A Fault → Result B Fault → Option ℕ
told_alone g h (Ok x) (Err (Unknown name)) = g x
told_alone g h (Err (Unknown name)) (Ok y) = h y
told_alone g h x y = None

abbrev pub refused : {A : Type 0} → (at : ℕ) → Option ℕ → Result A Fault → Result A Fault
refused at None r = r
refused at (Some n) r = Err (Rule n at)

-- another value in place of one that is there
abbrev pub dropped : {A B : Type 0} → Result A Fault → B → Result B Fault
dropped (Ok x) y = Ok y
dropped (Err f) y = Err f

-- 2. An array has a bound here.
abbrev pub without_bound : {A : Type 0} → ℕ → Result A Fault → Result A Fault
without_bound at (Ok t) = Err (Rule 2 at)
without_bound at (Err f) = Err f
