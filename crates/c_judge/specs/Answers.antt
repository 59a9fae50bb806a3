-- What is judged of a part of a program: what is known of it, a name in it that is not declared, or a rule that is broken in it.
use Rattle.std.specs.Prelude.{ℕ, Bool, if◌then◌else◌, List, Option, Some, None}

-- a rule by its number, with the offset where what breaks it begins
pub data Answer (A : Type 0) : Type 0 where
  Known : A → Answer A
  Unknown : (name : List ℕ) → Answer A
  Broken : (rule at : ℕ) → Answer A

-- what is made of one part
infixl 20 ◌then◌
abbrev pub ◌then◌ : {A B : Type 0} → Answer A → (A → Answer B) → Answer B
Known x then f = f x
Unknown name then f = Unknown name
Broken r at then f = Broken r at

-- What is made of two parts: a broken rule comes first, that of the left part before that of the right one, and then a name that is not declared in the same way.
abbrev pub two : {A B C : Type 0} → (A → B → Answer C) → Answer A → Answer B → Answer C
two f (Broken r at) b = Broken r at
two f (Known x) (Broken r at) = Broken r at
two f (Unknown name) (Broken r at) = Broken r at
two f (Unknown name) b = Unknown name
two f (Known x) (Unknown name) = Unknown name
two f (Known x) (Known y) = f x y

abbrev pub both_known : {A B : Type 0} → A → B → Answer (A × B)
both_known x y = Known (x, y)

-- Where a name in one of two parts is not declared, it stands for whatever keeps the rule: the rule that the other part breaks beside anything.
abbrev pub alone : {A B : Type 0} → (A → Option ℕ) → (B → Option ℕ) → Answer A → Answer B → Option ℕ
alone g h (Known x) (Unknown name) = g x
alone g h (Unknown name) (Known y) = h y
alone g h a b = None

abbrev pub unless_broken : {C : Type 0} → (at : ℕ) → Option ℕ → Answer C → Answer C
unless_broken at None j = j
unless_broken at (Some r) j = Broken r at

-- What is made of two parts by a rule that is asked of each of them also where a name in the other is not declared.
abbrev pub joint : {A B C : Type 0} → (at : ℕ) → (A → Option ℕ) → (B → Option ℕ) → (A → B → Answer C) → Answer A → Answer B → Answer C
joint at g h f a b = unless_broken at (alone g h a b) (two f a b)

-- a rule that is broken unless this holds
abbrev pub unless : Bool → (rule : ℕ) → Option ℕ
unless b r = if b then None else Some r
