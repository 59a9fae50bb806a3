-- What the declarations of a name over all files tell: the bound of an array, and whether it is `static` in a file.
use Rattle.std.specs.Prelude.{ℕ, Bool, false, ◌||◌, nat_lt, if◌then◌else◌, List, [], ◌∷◌, Option, Some, None}
use Rattle.c_typing.specs.Plain.{Array}
use Rattle.c_typing.specs.Expressions as typing
use Rattle.c_typing.specs.Expressions.{Denoted}
use Rattle.c_linkage.specs.Names.{FileName, is_here, is_external}
use Rattle.c_linkage.specs.Wanted.{Awaited}

-- 12. a place is within its object, whose bound another declaration tells
abbrev pub bound_in : Denoted → ℕ
bound_in (typing.Object (Array t n) r) = n
bound_in d = 0

abbrev pub greatest_bound : List FileName → Awaited → ℕ
greatest_bound [] l = 0
greatest_bound (f ∷ fs) l = if is_here l.unit l.place.name f || is_external l.place.name f then (if nat_lt (greatest_bound fs l) (bound_in f.denoted) then bound_in f.denoted else greatest_bound fs l) else greatest_bound fs l

-- a name is `static` in a file
abbrev pub is_static_in : List FileName → ℕ → List ℕ → Bool
is_static_in [] u name = false
is_static_in (f ∷ fs) u name = if is_here u name f then f.is_static else is_static_in fs u name

-- the first of two names that may be there
abbrev pub or_name : Option (List ℕ) → Option (List ℕ) → Option (List ℕ)
or_name (Some n) b = Some n
or_name None b = b
