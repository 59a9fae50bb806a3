-- Names at file scope (C90 6.1.2.2, 6.5, 6.7).
use Rattle.std.specs.Prelude.{◌≤◌, ◌<◌, ℕ, zero, suc, Bool, true, false, not, ◌&&◌, ◌||◌, ◌==◌, if◌then◌else◌, List, [], ◌∷◌, ◌++◌, Option, Some, None, bytes_eq, codes}
use Rattle.c_typing.specs.Plain.{Plain, Int, Array, same}
use Rattle.c_typing.specs.Expressions.{Denoted, Object, Function, Hidden}
use Rattle.c_typing.specs.Declarations.{built_in}
use Rattle.c_linkage.specs.declared.definitions.Definition.{Definition}
use Rattle.c_linkage.specs.declared.definitions.Manner.{Manner}
use Rattle.c_linkage.specs.declared.definitions.Manner.TheVariants.{Body, Initialized, Tentative}
use Rattle.c_scope.specs.Findings.{Finding, nothing, ◌beside◌, holds}

-- a declaration of a name in a file
pub record FileName : Type 0 where
  pub name : List ℕ
  pub unit : ℕ
  pub is_static : Bool
  pub denoted : Denoted

-- ---- types that agree

abbrev pub same_all : List Plain → List Plain → Bool
same_all [] [] = true
same_all (s ∷ ss) (t ∷ ts) = same s t && same_all ss ts
same_all _ _ = false

-- an empty bound agrees with each (C90 6.1.2.6)
abbrev pub agree : Plain → Plain → Bool
agree (Array s m) (Array t n) = same s t && ((m == n) || (m == 0) || (n == 0))
agree s t = same s t

-- 6. Declarations of one name have the same type.
abbrev pub agree_as : Denoted → Denoted → Bool
agree_as (Object s _) (Object t _) = agree s t
agree_as (Function r ps) (Function s qs) = same r s && same_all ps qs
agree_as _ _ = false

-- the type of two that agree: that which has a bound
abbrev pub bounded_one : Plain → Plain → Plain
bounded_one (Array s zero) t = t
bounded_one s t = s

abbrev pub composite : Denoted → Denoted → Denoted
composite (Object s r) (Object t _) = Object (bounded_one s t) r
composite d e = d

-- ---- what was declared before

abbrev pub is_here : (unit : ℕ) → List ℕ → FileName → Bool
is_here u name f = (f.unit == u) && bytes_eq f.name name

abbrev pub is_external : List ℕ → FileName → Bool
is_external name f = not f.is_static && bytes_eq f.name name

-- 7. A name is `static` in all its declarations of a file or in none.
abbrev pub one_linkage : FileName → List FileName → Bool
one_linkage f [] = true
one_linkage f (g ∷ gs) = (not (is_here f.unit f.name g) || (if f.is_static then g.is_static else not g.is_static)) && one_linkage f gs

-- whether a declaration is of the same object or function as another
abbrev pub is_same : FileName → FileName → Bool
is_same f g = is_here f.unit f.name g || (not f.is_static && is_external f.name g)

abbrev pub one_type : FileName → List FileName → Bool
one_type f [] = true
one_type f (g ∷ gs) = (not (is_same f g) || agree_as f.denoted g.denoted) && one_type f gs

-- 15. A built-in is declared only with its type, and as external.
abbrev pub is_built_in : List ℕ → Bool
is_built_in name = elim (built_in name) as (λ _. Bool) [ Object t r ↦ true | Function r ps ↦ true | Hidden ↦ false ]

abbrev pub declared_as_built_in : (is_static : Bool) → List ℕ → Denoted → Bool
declared_as_built_in s name d = not (is_built_in name) || (not s && agree_as d (built_in name))

abbrev pub as_built_in : FileName → Bool
as_built_in f = declared_as_built_in f.is_static f.name f.denoted

-- 10. `main` is `int(void)`.
abbrev pub declared_as_main : List ℕ → Denoted → Bool
declared_as_main name d = not (bytes_eq name (codes "main")) || agree_as d (Function Int [])

abbrev pub as_main : FileName → Bool
as_main f = declared_as_main f.name f.denoted

-- what is found in a declaration of a name, beside those before it over all files
abbrev pub name_found : List FileName → FileName → (at : ℕ) → Finding
name_found before f at = holds (as_built_in f) 15 at beside holds (as_main f) 10 at beside holds (one_linkage f before) 7 at beside holds (one_type f before) 6 at

-- the type of a name in its file, as far as its declarations there tell it
abbrev pub told_before : List FileName → FileName → Denoted
told_before [] f = f.denoted
told_before (g ∷ gs) f = if is_here f.unit f.name g then composite (told_before gs f) g.denoted else told_before gs f

-- ---- definitions

pub record Defining : Type 0 where
  pub name : List ℕ
  pub unit : ℕ
  pub is_static : Bool
  pub manner : Manner

abbrev pub defining : Definition → Defining
defining d = record { name = d.name.now; unit = d.unit; is_static = d.is_static; manner = d.manner }

-- definitions stand in the order of their files
abbrev pub IsBefore : Defining → List Defining → Type 0
IsBefore d [] = Unit {0}
IsBefore d (e ∷ es) = (d.unit ≤ e.unit) × IsBefore d es

abbrev pub AreInOrder : List Defining → Type 0
AreInOrder [] = Unit {0}
AreInOrder (d ∷ ds) = IsBefore d ds × AreInOrder ds

abbrev pub same_manner : Manner → Manner → Bool
same_manner Body Body = true
same_manner Initialized Initialized = true
same_manner _ _ = false

-- A name has two bodies, two initializers in one file, or external definitions in two files (C90 6.7).
abbrev pub is_second : Defining → Defining → Bool
is_second d e = bytes_eq d.name e.name && (if d.unit == e.unit then same_manner d.manner e.manner else not d.is_static && not e.is_static)

abbrev pub is_defined_before : Defining → List Defining → Bool
is_defined_before d [] = false
is_defined_before d (e ∷ es) = is_second d e || is_defined_before d es

-- the first name that is defined twice
abbrev pub twice : (before behind : List Defining) → Option (List ℕ)
twice before [] = None
twice before (d ∷ ds) = if is_defined_before d before then Some d.name else twice (d ∷ before) ds

-- a name of a file is defined: a `static` one in its file, an external one in any
abbrev pub defines : (unit : ℕ) → Bool → List ℕ → Defining → Bool
defines u s name d = bytes_eq d.name name && (if s then d.is_static && (d.unit == u) else not d.is_static)

abbrev pub is_defined : List Defining → (unit : ℕ) → Bool → List ℕ → Bool
is_defined [] u s name = false
is_defined (d ∷ ds) u s name = defines u s name d || is_defined ds u s name

-- the definitions' files are among so many
abbrev pub AreWithin : ℕ → List Defining → Type 0
AreWithin n [] = Unit {0}
AreWithin n (d ∷ ds) = (d.unit < n) × AreWithin n ds
