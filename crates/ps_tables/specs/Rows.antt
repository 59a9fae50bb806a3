-- The rows of a program that is placed: names are names of C, numbers are words of 32 bits, and what the units of a program have is theirs alone.
use Rattle.std.specs.Prelude.{◌≡◌, ◌⊎◌, ℕ, zero, suc, ◌+◌, ◌<◌, ◌≤◌, ◌^◌, List, [], ◌∷◌, length, Option, Some, None, slice_get}
use Rattle.std.specs.List.{AllByRecursion}
use Rattle.obj_file.specs.declared.object.FunctionRow.{FunctionRow}
use Rattle.c_tree.specs.declared.types.StructDef.{StructDef}
use Rattle.c_tree.specs.declared.rows.Program.{Program}
use Rattle.c_tree.specs.declared.rows.UnitRow.{UnitRow}
use Rattle.c_tree.specs.declared.rows.ObjectRow.{ObjectRow}
use Rattle.c_tree.specs.declared.rows.SymbolRow.{SymbolRow}
use Rattle.c_tree.specs.declared.rows.Function.{Function}
use Rattle.c_tree.specs.declared.rows.Referent.{Referent}
use Rattle.c_tree.specs.declared.rows.Referent.TheVariants as refers
use Rattle.ps_emit.specs.declared.placement.Placement.{Placement}
use Rattle.ps_emit.specs.Places.{file_in}
use Rattle.ps_emit.specs.Symbols.{up_in}
use Rattle.ps_emit.specs.Functions.{symbol_at}
use Rattle.ps_emit.specs.Bounds.{of_symbol, per_symbol, per_constructor}
use Rattle.ps_emit.specs.Lengths.{IsWord, IsInteger, IsName, HasWords, IsLink, IsPlace, IsMemberRow}

-- ---- one by one

pub record IsStruct (d : StructDef) : Type 0 where
  pub tag : IsName d.tag
  pub size : IsWord d.size
  pub members : AllByRecursion IsMemberRow d.members

pub record IsObject (us : List UnitRow) (o : ObjectRow) : Type 0 where
  pub name : IsName o.name
  pub ctype : HasWords o.ctype
  pub file : length (file_in (slice_get us o.unit)) ≤ 255

abbrev pub IsReferent : Referent → Type 0
IsReferent (refers.Object o) = IsWord o
IsReferent other = Unit {0}

pub record IsSymbol (row : SymbolRow) : Type 0 where
  pub name : IsName row.name
  pub ctype : HasWords row.ctype
  pub up : IsLink row.up
  pub refers : IsReferent row.refers

-- where a function is placed: it saves at most 9 registers
pub record IsPlaced (row : FunctionRow) : Type 0 where
  pub entry : IsWord row.entry
  pub end : IsWord row.end
  pub frame : IsWord row.frame
  pub few_saved : length row.saved ≤ 9
  pub saved : AllByRecursion (λ s. IsWord s.0 × IsInteger s.1) row.saved
  pub points : AllByRecursion IsWord row.points
  pub locals : AllByRecursion (λ l. IsPlace (Some l)) row.locals

-- the rows of a program and of its placement, in which each static object and each string has an address
pub record HasRows (p : Program) (at : Placement) : Type 0 where
  pub structs : AllByRecursion IsStruct p.defs
  pub objects : AllByRecursion (IsObject p.units) p.objects
  pub strings : AllByRecursion (λ t. length t < 2 ^ 30) p.strings
  pub functions : AllByRecursion (λ (f : Function). IsName f.name) p.functions
  pub symbols : AllByRecursion IsSymbol p.symbols
  pub units : AllByRecursion (λ (u : UnitRow). length u.file ≤ 255) p.units
  pub anchors : AllByRecursion (λ a. IsWord a.1) at.anchors
  pub placed : AllByRecursion IsPlaced at.functions
  pub one_each : length at.anchors ≡ length p.objects + length p.strings
  pub few_structs : length p.defs < 2 ^ 32
  pub few_objects : length p.objects + length p.strings < 2 ^ 32
  pub few_symbols : length p.symbols < 2 ^ 32

-- ---- the parts of units

-- what numbers of a list count together, and so many numbers from 0 on
abbrev pub weigh : (ℕ → ℕ) → List ℕ → ℕ
weigh w [] = 0
weigh w (x ∷ xs) = w x + weigh w xs

abbrev pub total : (ℕ → ℕ) → ℕ → ℕ
total w zero = 0
total w (suc n) = total w n + w n

abbrev pub weigh_units : (ℕ → ℕ) → List UnitRow → ℕ
weigh_units w [] = 0
weigh_units w (u ∷ us) = weigh w u.functions + weigh_units w us

abbrev pub points_in : Option Function → List ℕ
points_in None = []
points_in (Some f) = f.points

abbrev pub points_of : Program → ℕ → ℕ
points_of p f = length (points_in (slice_get p.functions f))

-- A name is a built-in's, of which there are three, or one of these numbers.
abbrev pub IsAmong : (low high : ℕ) → Option ℕ → Type 0
IsAmong low high None = Unit {0}
IsAmong low high (Some s) = (s < 3) ⊎ ((low ≤ s) × (s < high))

-- the names that are in scope at the points of a unit's functions
abbrev pub AreAmong : Program → (low high : ℕ) → List ℕ → Type 0
AreAmong p low high fs = AllByRecursion (λ f. AllByRecursion (λ x. IsAmong low high (symbol_at (slice_get p.points x))) (points_in (slice_get p.functions f))) fs

-- The names of a unit are numbered together, and lead outward among themselves and to built-ins.
pub record OwnsNames (p : Program) (low high : ℕ) (u : UnitRow) : Type 0 where
  pub ordered : low ≤ high
  pub within : high ≤ length p.symbols
  pub links : (s : ℕ) → low ≤ s → s < high → IsAmong low s (up_in (slice_get p.symbols s))
  pub points : AreAmong p low high u.functions

-- each unit's names stand behind those of the units before it
abbrev pub OwnNames : Program → (low : ℕ) → List UnitRow → Type 0
OwnNames p low [] = Unit {0}
OwnNames p low (u ∷ us) = (high : ℕ) × OwnsNames p low high u × OwnNames p high us

abbrev pub IsBelow : ℕ → Option ℕ → Type 0
IsBelow n None = Unit {0}
IsBelow n (Some k) = k < n

-- a built-in's name costs what is counted for it, and leads to those before it
pub record IsBuiltIn (p : Program) (s : ℕ) (row : SymbolRow) : Type 0 where
  pub bytes : (of_symbol row).bytes ≤ per_symbol.bytes + per_constructor.bytes
  pub made : (of_symbol row).made ≤ per_symbol.made + per_constructor.made
  pub steps : (of_symbol row).steps ≤ per_symbol.steps + per_constructor.steps
  pub up : IsBelow s row.up

-- Whatever a function counts, the units' functions count no more than all functions, so each is one of one unit; and each point is of one function.
pub record IsParted (p : Program) : Type 0 where
  pub functions : (w : ℕ → ℕ) → weigh_units w p.units ≤ total w (length p.functions)
  pub points : total (points_of p) (length p.functions) ≤ length p.points
  pub built_ins : (s : ℕ) (row : SymbolRow) → s < 3 → slice_get p.symbols s ≡ Some row → IsBuiltIn p s row
  pub names : OwnNames p 3 p.units
