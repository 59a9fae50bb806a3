-- What a declarator declares, from the type that its declaration begins with (C90 6.5.4).
use Rattle.std.specs.Prelude.{ℕ, Bool, true, false, ◌&&◌, if◌then◌else◌, List, [], ◌∷◌, ◌++◌, map, Option, Some, None}
use Rattle.c_trees.specs.Expressions as tree
use Rattle.c_trees.specs.Expressions.{Tree}
use Rattle.c_trees.specs.Declarators.{DeclaratorTree, Name, Parens, Pointers, Array, Function as Applied, Taking, Named, Unnamed, begins}
use Rattle.c_typing.specs.Plain as plain
use Rattle.c_typing.specs.Plain.{Plain, is_complete, is_scalar, is_void, value_type, same}
use Rattle.c_typing.specs.Declarations.{is_result, is_named}
use Rattle.c_typing.specs.Expressions as typing
use Rattle.c_typing.specs.Expressions.{Denoted}
use Rattle.c_typing.specs.declared.constant.Constant.{Constant}
use Rattle.c_typing.specs.declared.constant.Constant.TheVariants.{Undefined}
use Rattle.c_judge.specs.Answers.{Answer, Known, Unknown, Broken, ◌then◌}
use Rattle.c_judge.specs.Judgement.{Verdict, judged, spec_type, pointers, starred, array, limited, bound}
use Rattle.c_judge.specs.Places.{place_of}
use Rattle.c_scope.specs.Environment.{Environment, scope_of}

-- a parameter: its name where it has one, its type, and whether it has `register`
pub record Parameter : Type 0 where
  pub name : Option (List ℕ)
  pub ctype : Plain
  pub register : Bool

-- an object or a function
pub data Shape : Type 0 where
  Object : (ctype : Plain) → Shape
  Function : (result : Plain) (parameters : List Parameter) → Shape

-- the name that a declarator declares
abbrev pub name_in : DeclaratorTree → List ℕ
name_in (Name _ text) = text
name_in (Parens _ d) = name_in d
name_in (Pointers _ _ d) = name_in d
name_in (Array _ d _) = name_in d
name_in (Applied _ d) = name_in d
name_in (Taking d _) = name_in d
name_in (Named _ _ _ d) = name_in d
name_in (Unnamed _ _ _) = []

-- a name alone, perhaps in parentheses
abbrev pub is_name : DeclaratorTree → Bool
is_name (Name _ _) = true
is_name (Parens _ d) = is_name d
is_name _ = false

-- a function's declarator
abbrev pub is_function : DeclaratorTree → Bool
is_function (Parens _ d) = is_function d
is_function (Applied _ d) = is_name d
is_function (Taking d _) = is_function d
is_function _ = false

-- the type of an array whose bound is not written, which only the outermost one of what is declared may be
abbrev pub unbounded : Environment → (at : ℕ) → Plain → Answer Plain
unbounded v at t = if is_complete v.defs t then limited v.defs at (plain.Array t 0) else Broken 2 at

-- an expression as a constant expression; one that cannot be judged, since a name in it is not declared, has no value either
abbrev pub constant : Verdict → Answer Constant
constant (Known x) = Known x.constant
constant (Unknown name) = Known Undefined
constant (Broken r at) = Broken r at

-- 2. An array bound is a constant expression from 1 to 1,048,576.
abbrev pub bounded : Environment → Tree → Plain → Answer Plain
bounded v e t = constant (judged (scope_of v) e) then λ c. bound (place_of e).at c then array v.defs (place_of e).at t

-- a parameter's type without a name, in which the outermost bound may be missing
abbrev pub unnamed_within : Environment → (at : ℕ) → Tree → Plain → Answer Plain
unnamed_within v at (tree.Stars n) t = Known t
unnamed_within v at (tree.Around n d) t = starred (scope_of v) at d (Known t) then unnamed_within v at d
unnamed_within v at (tree.Bounded d e) t = bounded v e t then unnamed_within v at d
unnamed_within v at (tree.Unbounded (tree.Stars n)) t = unbounded v at t
unnamed_within v at _ t = Broken 2 at

abbrev pub unnamed : Environment → (at : ℕ) → Tree → Plain → Answer Plain
unnamed v at d t = starred (scope_of v) at d (Known t) then unnamed_within v at d

-- 9. A parameter is a scalar once an array has become a pointer to its first item (C90 6.7.1).
abbrev pub parameter : Option (List ℕ) → Bool → (at : ℕ) → Shape → Answer Parameter
parameter name r at (Object t) = if is_scalar (value_type t) then Known (record { name = name; ctype = value_type t; register = r }) else Broken 9 at
parameter name r at (Function _ _) = Broken 9 at

-- 5. The names of parameters differ.
abbrev pub names_in : List Parameter → List (List ℕ)
names_in [] = []
names_in (p ∷ ps) = elim p.name as (λ _. List (List ℕ)) [ None ↦ names_in ps | Some n ↦ n ∷ names_in ps ]

abbrev pub is_taken : List Parameter → Option (List ℕ) → Bool
is_taken ps None = false
is_taken ps (Some n) = is_named (names_in ps) n

abbrev pub with_one : List Parameter → (at : ℕ) → Parameter → Answer (List Parameter)
with_one ps at p = if is_taken ps p.name then Broken 5 at else Known (ps ++ p ∷ [])

-- 9. A function's result is `void` or a scalar, and a function is what its name declares: no type points to one, holds one or gives one.
abbrev pub function : Bool → (at : ℕ) → Plain → List Parameter → Answer Shape
function named at t ps = if named && is_result t then Known (Function t ps) else Broken 9 at

abbrev pub unsized : Environment → Bool → (at : ℕ) → Plain → Answer Shape
unsized v named at t = if named then (unbounded v at t then λ u. Known (Object u)) else Broken 2 at

module _ (v : Environment) where
  abbrev mutual
    pub shape : DeclaratorTree → Plain → Answer Shape
    shape (Name _ _) t = Known (Object t)
    shape (Parens _ d) t = shape d t
    shape (Pointers at n d) t = pointers v.defs at.at n t then shape d
    shape (Array at d (Some e)) t = bounded v e t then shape d
    shape (Array at d None) t = unsized v (is_name d) at.at t
    shape (Applied at d) t = function (is_name d) at.at t []
    shape (Taking d p) t = parameters d then (λ ps. taken p then with_one ps (begins p).at) then function (is_function d) (begins d).at t
    shape _ t = Broken 9 0

    -- the parameters of a function's declarator, in order
    pub parameters : DeclaratorTree → Answer (List Parameter)
    parameters (Taking d p) = parameters d then λ ps. taken p then with_one ps (begins p).at
    parameters _ = Known []

    pub taken : DeclaratorTree → Answer Parameter
    taken (Named at r spec d) = shape d (spec_type (scope_of v) spec) then parameter (Some (name_in d)) r at.at
    taken (Unnamed at spec d) = unnamed v at.at d (spec_type (scope_of v) spec) then λ t. parameter None false at.at (Object t)
    taken _ = Known (record { name = None; ctype = plain.Int; register = false })

-- what an object or a function is to an expression
abbrev pub parameter_type : Parameter → Plain
parameter_type p = p.ctype

abbrev pub denoted : Bool → Shape → Denoted
denoted r (Object t) = typing.Object t r
denoted r (Function t ps) = typing.Function t (map parameter_type ps)
