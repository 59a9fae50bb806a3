-- Declared types, structs, names and locals (C90 6.5, 6.7).
use Rattle.std.specs.Prelude.{◌≡◌, ℕ, Bool, true, false, ◌||◌, List, [], ◌∷◌, map, take, Option, Some, None, slice_get, bytes_eq, codes, ◌==◌, if◌then◌else◌}
use Rattle.std.specs.List.{AllByRecursion}
use Rattle.c_tree.specs.declared.types.StructDef.{StructDef}
use Rattle.c_tree.specs.declared.types.Member.{Member}
use Rattle.c_tree.specs.declared.rows.Program.{Program}
use Rattle.c_tree.specs.declared.rows.Function.{Function}
use Rattle.c_tree.specs.declared.rows.Local.{Local}
use Rattle.c_tree.specs.declared.rows.SymbolRow.{SymbolRow}
use Rattle.c_tree.specs.declared.rows.Referent.{Referent}
use Rattle.c_tree.specs.declared.rows.Referent.TheVariants as refers
use Rattle.c_tree.specs.declared.types.CType.TheVariants.{Struct}
use Rattle.c_tree.specs.Layout.{IsLaidOut}
use Rattle.c_typing.specs.Written.{IsWritten, IsDeclared}
use Rattle.c_typing.specs.Plain.{Plain, Int, Void, plain, same, is_scalar, is_void}
use Rattle.c_typing.specs.Expressions.{Denoted, Object, Function as AFunction, Hidden, Scope}

-- a number is on a list
abbrev pub has : List ℕ → ℕ → Bool
has [] x = false
has (y ∷ ys) x = if y == x then true else has ys x

-- of a list of names no two are the same
abbrev pub is_named : List (List ℕ) → List ℕ → Bool
is_named [] name = false
is_named (n ∷ ns) name = bytes_eq n name || is_named ns name

abbrev pub Differ : List (List ℕ) → Type 0
Differ [] = Unit {0}
Differ (n ∷ ns) = (is_named ns n ≡ false) × Differ ns

module _ (defs : List StructDef) where
  abbrev pub member_name : Member → List ℕ
  member_name m = m.name

  -- 3. A complete struct's members have names that differ, and their types are complete; it is laid out as structs are here (C90 6.5.2.1).
  abbrev pub IsStruct : ℕ → StructDef → Type 0
  IsStruct s d = IsWritten defs (Struct s) × Differ (map member_name d.members) × AllByRecursion (λ m. IsDeclared defs m.ctype) d.members × IsLaidOut defs d

-- ---- functions

abbrev pub local_type : Local → Plain
local_type l = plain l.ctype

abbrev pub parameters : Function → List Plain
parameters f = take f.params (map local_type f.locals)

-- 9. A function's result is `void` or a scalar (C90 6.5.4.3, 6.7.1).
abbrev pub is_result : Plain → Bool
is_result t = is_void t || is_scalar t

-- 15. `int getchar(void)`, `int putchar(int)` and `void exit(int)` are declared in every file.
abbrev pub built_in : List ℕ → Denoted
built_in name =
    if bytes_eq name (codes "getchar") then AFunction Int []
    else (if bytes_eq name (codes "putchar") then AFunction Int (Int ∷ [])
    else (if bytes_eq name (codes "exit") then AFunction Void (Int ∷ []) else Hidden))

-- ---- what the names of a program denote in a function, where these locals are in scope (C90 6.1.2.1)

abbrev pub function_in : Option Function → Denoted
function_in None = Hidden
function_in (Some f) = AFunction (plain f.result) (parameters f)

abbrev pub local_in : Plain → Option Local → Denoted
local_in t None = Hidden
local_in t (Some l) = if same t (plain l.ctype) then Object t l.register else Hidden

abbrev pub locals_in : Option Function → List Local
locals_in None = []
locals_in (Some f) = f.locals

module _ (p : Program) (f : ℕ) (visible : List ℕ) where
  abbrev pub denoted_by : Plain → List ℕ → Referent → Denoted
  denoted_by t name (refers.Object o) = Object t false
  denoted_by t name (refers.Local x) = if has visible x then local_in t (slice_get (locals_in (slice_get p.functions f)) x) else Hidden
  denoted_by t name (refers.Function g) = function_in (slice_get p.functions g)
  denoted_by t name refers.Declared = built_in name

  abbrev pub denoted : SymbolRow → Denoted
  denoted row = denoted_by (plain row.ctype) row.name row.refers

  abbrev pub scope_at : Scope
  scope_at = record { names = map denoted p.symbols; defs = p.defs; strings = p.strings }
