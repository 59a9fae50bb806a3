-- Which declaration of an object or a function tells most of its type: one with a bound, where there is such a one.
use Rattle.std.specs.Prelude.{ℕ, zero, Bool, true, false, not, if◌then◌else◌, List, [], ◌∷◌, Option, Some, None}
use Rattle.c_typing.specs.Plain.{Plain, Array}
use Rattle.c_typing.specs.Expressions.{Denoted, Object}
use Rattle.c_scope.specs.Findings.{Finding, nothing}
use Rattle.c_judge.specs.Answers.{Broken}
use Rattle.c_linkage.specs.Names.{FileName, agree_as, composite}

abbrev pub is_unbounded : Plain → Bool
is_unbounded (Array t zero) = true
is_unbounded t = false

-- an array that tells no bound
abbrev pub is_open : Denoted → Bool
is_open (Object t r) = is_unbounded t
is_open d = false

-- of a declaration and the one before it that tells most
abbrev pub more_told : FileName → Option FileName → FileName
more_told f None = f
more_told f (Some g) = if is_open g.denoted then f else g

-- of some declarations, the last first
abbrev pub telling : (FileName → Bool) → List FileName → Option FileName
telling c [] = None
telling c (f ∷ fs) = if c f then Some (more_told f (telling c fs)) else telling c fs

-- whether a declaration is `static` as another is
abbrev pub linked_with : FileName → Option FileName → Bool
linked_with f None = true
linked_with f (Some g) = if f.is_static then g.is_static else not g.is_static

-- whether its type agrees with that of another
abbrev pub agrees_with : Denoted → Option FileName → Bool
agrees_with d None = true
agrees_with d (Some g) = agree_as d g.denoted

-- what two declarations tell
abbrev pub told_with : Denoted → Option FileName → Denoted
told_with d None = d
told_with d (Some g) = composite d g.denoted

-- a rule that is broken at a place, or none
abbrev pub found_of : Option ℕ → (at : ℕ) → Finding
found_of None at = nothing
found_of (Some r) at = Broken r at
