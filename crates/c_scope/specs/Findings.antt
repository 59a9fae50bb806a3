-- What is found in the parts of a program.
use Rattle.std.specs.Prelude.{ℕ, Bool, true, if◌then◌else◌}
use Rattle.c_judge.specs.Answers.{Answer, Known, Unknown, Broken, two}

-- that all is as it should be
pub data Fine : Type 0 where
  fine : Fine

abbrev pub Finding : Type 0
Finding = Answer Fine

abbrev pub nothing : Finding
nothing = Known fine

-- What is found in two parts, of which the first stands before the other.
infixl 20 ◌beside◌
abbrev pub ◌beside◌ : {A B : Type 0} → Answer A → Answer B → Finding
a beside b = two (λ x y. nothing) a b

-- a rule holds, or is broken where a part begins
abbrev pub holds : Bool → (rule at : ℕ) → Finding
holds b r at = if b then nothing else Broken r at

-- A rule that is asked once it is known what a part is. Where a name in the part is not declared, it stands for whatever keeps the rule, if anything may.
abbrev pub asked_of : {A : Type 0} → (A → Bool) → (may : Bool) → (rule at : ℕ) → Answer A → Finding
asked_of ok may r at (Known x) = holds (ok x) r at
asked_of ok may r at (Unknown name) = if may then Unknown name else Broken r at
asked_of ok may r at (Broken q i) = Broken q i

-- the same of a rule that some part keeps
abbrev pub asked : {A : Type 0} → (A → Bool) → (rule at : ℕ) → Answer A → Finding
asked ok r at a = asked_of ok true r at a
