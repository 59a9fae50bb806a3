-- What the code's initializers give.
use Rattle.std.specs.Prelude.{◌≡◌, ℕ, List, [], ◌∷◌, ◌++◌, map, replicate, Option, Some, None, Result, Ok, Err}
use Rattle.c_trees.specs.Initializers.{InitialTree}
use Rattle.c_typing.specs.Plain.{Plain}
use Rattle.c_judge.specs.declared.fault.Fault.{Fault}
use Rattle.c_judge.specs.Answers.{Broken}
use Rattle.c_judge.specs.Judges.{IsFault}
use Rattle.c_scope.specs.declared.refusal.Refusal.{Refusal}
use Rattle.c_initial.specs.declared.starts.Begin.{Begin as Row}
use Rattle.c_initial.specs.declared.starts.Begin.TheVariants as row
use Rattle.c_initial.specs.declared.starts.LatePlace.{LatePlace}
use Rattle.c_initial.specs.declared.starts.Initialized.{Initialized}
use Rattle.c_mentions.specs.Tags.{now}
use Rattle.c_scope.specs.Findings.{Finding, nothing}
use Rattle.c_scope.specs.Spelling.{initial_at}
use Rattle.c_scope.specs.Refused.{IsRefused}
use Rattle.c_scope.specs.Environment.{Environment}
use Rattle.c_initial.specs.Initials.{Late, late_in, rule_of, initial_found}
use Rattle.c_initial.specs.Begins.{Begin, Bits, Within, Text, begins_of, strings_of}

-- what a row tells: a leaf, or a run of zeros, one for each leaf
abbrev pub begins_of_row : Row → List Begin
begins_of_row (row.Bits n) = Bits n ∷ []
begins_of_row (row.Within name n) = Within name.now n ∷ []
begins_of_row (row.Text k) = Text k ∷ []
begins_of_row (row.Zeros n) = replicate n (Bits 0)

-- what rows tell, leaf by leaf
abbrev pub begins_in : List Row → List Begin
begins_in [] = []
begins_in (b ∷ bs) = begins_of_row b ++ begins_in bs

abbrev pub late_place : LatePlace → Late
late_place l = record { name = l.name.now; items = l.items; at = l.at }

abbrev pub IsInitialized : Environment → ℕ → Plain → InitialTree → Result Initialized Fault → Type 0
IsInitialized v k t i (Ok x) =
    (initial_found v t i ≡ nothing) × (begins_in x.begins.items ≡ begins_of v k t i) × (map now x.strings.items ≡ strings_of v t i) ×
    (map late_place x.late.items ≡ late_in v i)
IsInitialized v k t i (Err f) = IsFault (initial_found v t i) f

-- ---- part by part

-- what initializers give so far
pub record Given : Type 0 where
  pub begins : List Begin
  pub strings : List (List ℕ)
  pub late : List Late

abbrev pub given_of : Initialized → Given
given_of x = record { begins = begins_in x.begins.items; strings = map now x.strings.items; late = map late_place x.late.items }

abbrev pub with_more : Given → List Begin → List (List ℕ) → List Late → Given
with_more g bs ss ls = record { begins = g.begins ++ bs; strings = g.strings ++ ss; late = g.late ++ ls }

-- what a part adds where nothing is wrong with it, or why it is refused
abbrev pub Adds : {A : Type 0} → Finding → Given → List Begin → List (List ℕ) → List Late → Given → Result A Refusal → Type 0
Adds f g bs ss ls h (Ok u) = (f ≡ nothing) × (h ≡ with_more g bs ss ls)
Adds f g bs ss ls h (Err why) = IsRefused f why

-- one that gives a leaf
abbrev pub IsBegin : Finding → List Begin → Result Row Refusal → Type 0
IsBegin f bs (Ok b) = (f ≡ nothing) × (bs ≡ begins_of_row b)
IsBegin f bs (Err why) = IsRefused f why

-- ---- items of a list in braces, by the type of the part of the aggregate, where it has one

abbrev pub part_found : Environment → Plain → Option Plain → InitialTree → Finding
part_found v t None j = Broken (rule_of t) (initial_at j)
part_found v t (Some u) j = initial_found v u j

abbrev pub part_begins : Environment → ℕ → Option Plain → InitialTree → List Begin
part_begins v k None j = []
part_begins v k (Some u) j = begins_of v k u j

abbrev pub part_strings : Environment → Option Plain → InitialTree → List (List ℕ)
part_strings v None j = []
part_strings v (Some u) j = strings_of v u j
