-- Which checked programs keep the typing rules: every rule holds, and every number names something.
use Rattle.std.specs.Prelude.{◌≡◌, ℕ, suc, zero, ◌≤◌, ◌<◌, Bool, true, false, not, ◌&&◌, ◌||◌, List, [], ◌∷◌, ◌++◌, length, map, filter, Option, Some, None, slice_get, bytes_eq, codes, ◌==◌}
use Rattle.std.specs.List.{AllByRecursion}
use Rattle.c_tree.specs.declared.types.StructDef.{StructDef}
use Rattle.c_tree.specs.declared.typed.Stmt.{Stmt}
use Rattle.c_tree.specs.declared.typed.Stmt.TheVariants.{Block'}
use Rattle.c_tree.specs.declared.rows.Program.{Program}
use Rattle.c_tree.specs.declared.rows.Function.{Function}
use Rattle.c_tree.specs.declared.rows.Local.{Local}
use Rattle.c_tree.specs.declared.rows.Point.{Point}
use Rattle.c_tree.specs.declared.rows.UnitRow.{UnitRow}
use Rattle.c_tree.specs.declared.rows.ObjectRow.{ObjectRow}
use Rattle.c_tree.specs.declared.rows.SymbolRow.{SymbolRow}
use Rattle.c_tree.specs.declared.rows.Referent.{Referent}
use Rattle.c_tree.specs.declared.rows.Referent.TheVariants as refers
use Rattle.c_tree.specs.Points.{HasItsPoints}
use Rattle.c_tree.specs.Rows.{declared_in}
use Rattle.c_tree.specs.Points.{first_of, last_of}
use Rattle.c_typing.specs.Plain.{Plain, Int, Array, plain, same, is_scalar}
use Rattle.c_typing.specs.Expressions.{Denoted, Function as AFunction}
use Rattle.c_typing.specs.Written.{IsWritten, IsDeclared}
use Rattle.c_typing.specs.Declarations.{has, Differ, IsStruct, built_in, is_result, parameters}
use Rattle.c_typing.specs.Statements.{in_function, local_numbers, IsPointWith, IsStatement, locals_of}
use Rattle.c_typing.specs.Starts.{IsObject, static_room}

-- a property of each item and its number
abbrev pub AllFrom : {A : Type 0} → (ℕ → A → Type 0) → ℕ → List A → Type 0
AllFrom P n [] = Unit {0}
AllFrom P n (x ∷ xs) = P n x × AllFrom P (suc n) xs

-- so many numbers from one on
abbrev pub numbers : ℕ → ℕ → List ℕ
numbers from zero = []
numbers from (suc count) = from ∷ numbers (suc from) count

-- ---- functions

-- 10. `main` is `int(void)`, and an external one begins the program (C90 5.1.2.2.1).
abbrev pub is_called_main : Function → Bool
is_called_main f = bytes_eq f.name (codes "main")

abbrev pub is_main : Function → Bool
is_main f = not f.is_static && is_called_main f

abbrev pub has_main : List Function → Bool
has_main [] = false
has_main (f ∷ fs) = is_main f || has_main fs

abbrev pub IsBlock : Stmt → Type 0
IsBlock (Block' at ds _ row l c) = Unit {0}
IsBlock _ = ⊥

-- 8. `register` stands only on scalars (C90 6.5.1).
abbrev pub IsLocal : List StructDef → Local → Type 0
IsLocal defs l = IsDeclared defs l.ctype × ((not l.register || is_scalar (plain l.ctype)) ≡ true)

abbrev pub AreScalars : List Plain → Type 0
AreScalars ts = AllByRecursion (λ t. is_scalar t ≡ true) ts

module _ (p : Program) where
  abbrev functions_in : Option UnitRow → List ℕ
  functions_in None = []
  functions_in (Some u) = u.functions

  -- at the first point of a function its parameters are in scope, and at the last one the locals of its outermost block too
  abbrev pub AreEnds : ℕ → List ℕ → List ℕ → List ℕ → Type 0
  AreEnds f qs params outermost = IsPointWith p f params (first_of qs) × IsPointWith p f (params ++ outermost) (last_of qs)

  -- 9. A function with a body: at most 16 parameters, which are scalars; its locals, in the order of the source; its body; and its points, numbered in the order of the source (C90 6.7.1).
  pub record IsFunction (f : ℕ) (fn : Function) : Type 0 where
    pub result : is_result (plain fn.result) ≡ true
    pub written : IsWritten p.defs fn.result
    pub few : fn.params ≤ 16
    pub scalars : AreScalars (parameters fn)
    pub locals : AllByRecursion (IsLocal p.defs) fn.locals
    pub declared : numbers 0 (length fn.locals) ≡ numbers 0 fn.params ++ locals_of fn.body
    pub block : IsBlock fn.body
    pub body : IsStatement p f (plain fn.result) (numbers 0 fn.params) in_function fn.body
    pub points : HasItsPoints fn
    pub numbered : (first : ℕ) × (fn.points ≡ numbers first (length fn.points))
    pub ends : AreEnds f fn.points (numbers 0 fn.params) (local_numbers (declared_in fn.body))
    pub unit : has (functions_in (slice_get p.units fn.unit)) f ≡ true
    pub main : not (is_called_main fn) || (same (plain fn.result) Int && (fn.params == 0)) ≡ true

  -- ---- names

  -- 6. A name has the type of its object; an array's bound may be missing where it was declared (C90 6.5, 6.1.2.6).
  abbrev pub agrees : Plain → Plain → Bool
  agrees (Array s zero) (Array t n) = same s t
  agrees s t = same s t

  abbrev pub IsOfObject : Plain → Option ObjectRow → Type 0
  IsOfObject t None = ⊥
  IsOfObject t (Some row) = agrees t (plain row.ctype) ≡ true

  abbrev pub IsOfFunction : Plain → Option Function → Type 0
  IsOfFunction t None = ⊥
  IsOfFunction t (Some fn) = t ≡ plain fn.result

  -- a function that the program doesn't define: a built-in has its type, and another one is declared and never called
  abbrev pub IsUndefined : Plain → Denoted → Type 0
  IsUndefined t (AFunction r ts) = t ≡ r
  IsUndefined t _ = is_result t ≡ true

  abbrev pub IsReferent : Plain → List ℕ → Referent → Type 0
  IsReferent t name (refers.Object o) = IsOfObject t (slice_get p.objects o)
  IsReferent t name (refers.Local x) = Unit {0}
  IsReferent t name (refers.Function f) = IsOfFunction t (slice_get p.functions f)
  IsReferent t name refers.Declared = IsUndefined t (built_in name)

  abbrev pub IsBelow : ℕ → Option ℕ → Type 0
  IsBelow n None = Unit {0}
  IsBelow n (Some k) = k < n

  -- a name, whose next name outward stands before it
  abbrev pub IsSymbol : ℕ → SymbolRow → Type 0
  IsSymbol n row = IsWritten p.defs row.ctype × IsReferent (plain row.ctype) row.name row.refers × IsBelow n row.up

  abbrev pub IsPoint : Point → Type 0
  IsPoint q = (q.function < length p.functions) × IsBelow (length p.symbols) q.symbol

  abbrev pub IsOfUnit : ℕ → Option Function → Type 0
  IsOfUnit u None = ⊥
  IsOfUnit u (Some fn) = fn.unit ≡ u

  abbrev pub IsUnit : ℕ → UnitRow → Type 0
  IsUnit u row = AllByRecursion (λ f. IsOfUnit u (slice_get p.functions f)) row.functions

-- ---- one definition of each name

module _ (p : Program) where
  abbrev pub function_name : Function → List ℕ
  function_name f = f.name

  abbrev pub object_name : ObjectRow → List ℕ
  object_name o = o.name

  -- the names that are external (C90 6.1.2.2)
  abbrev pub external_names : List (List ℕ)
  external_names = map function_name (filter (λ f. not f.is_static) p.functions) ++ map object_name (filter (λ o. not o.is_static) p.objects)

  -- the names that a source file defines
  abbrev pub names_of_unit : ℕ → List (List ℕ)
  names_of_unit u = map function_name (filter (λ f. f.unit == u) p.functions) ++ map object_name (filter (λ o. o.unit == u) p.objects)

-- the checked programs that are accepted
pub record KeepsRules (p : Program) : Type 0 where
  pub structs : AllFrom (IsStruct p.defs) 0 p.defs
  pub objects : AllByRecursion (IsObject p) p.objects
  pub functions : AllFrom (IsFunction p) 0 p.functions
  pub symbols : AllFrom (IsSymbol p) 0 p.symbols
  pub points : AllByRecursion (IsPoint p) p.points
  pub units : AllFrom (IsUnit p) 0 p.units
  pub main : has_main p.functions ≡ true
  pub external : Differ (external_names p)
  pub internal : AllFrom (λ u row. Differ (names_of_unit p u)) 0 p.units
  pub room : static_room p ≤ 1048576
