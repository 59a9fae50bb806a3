-- What a program and its placement keep to whose units run.
use Rattle.std.specs.Prelude.{◌<◌, ◌≤◌, ◌^◌, ℕ, ℤ, List, [], ◌∷◌, length, Option, Some, slice_get}
use Rattle.std.specs.List.{AllByRecursion}
use Rattle.obj_file.specs.declared.object.FunctionRow.{FunctionRow as Placed}
use Rattle.obj_file.specs.declared.object.LocalPlace.{LocalPlace}
use Rattle.c_tree.specs.declared.rows.Program.{Program}
use Rattle.c_tree.specs.declared.rows.Function.{Function}
use Rattle.ps_emit.specs.Lengths.{IsInteger}
use Rattle.ps_emit.specs.Functions.{made_in}
use Rattle.unit_tables.specs.Symbols.{RunsPlace, RunsSymbol}
use Rattle.unit_tables.specs.Points.{LeadLower, AreFollowed}

-- where a function is placed: registers are integers of the dialect, and offsets words
pub record RunsPlaced (row : Placed) : Type 0 where
  pub saved : AllByRecursion (λ (s : ℕ × ℤ). (s.0 < 2 ^ 31) × IsInteger s.1) row.saved
  pub few_saved : length row.saved ≤ 9000
  pub locals : AllByRecursion (λ (l : LocalPlace). RunsPlace (Some l)) row.locals

pub record RunsFunction (f : Function) : Type 0 where
  pub name : length f.name ≤ 16777216
  pub few_points : length f.points ≤ 40000

-- The rows of a program and of its placement, and how many there are.
pub record RunsUnits (p : Program) (fs : List Placed) : Type 0 where
  pub symbols : AllByRecursion (RunsSymbol p.defs (length p.objects)) p.symbols
  pub lower : LeadLower p.symbols
  pub functions : AllByRecursion RunsFunction p.functions
  pub placed : AllByRecursion RunsPlaced fs
  pub few_structs : length p.defs ≤ 90000
  pub few_objects : length p.objects ≤ 90000
  pub few_symbols : length p.symbols < 900000

-- the symbols of a function's points are so, where all below a number are made
abbrev pub IsFollowedIn : Program → (made : ℕ) → Option Function → Option Placed → Type 0
IsFollowedIn p made (Some f) (Some at) = AreFollowed p.defs p.symbols p.points made f.points at.points
IsFollowedIn p made f at = Unit {0}

-- the same of functions by their numbers, one after another
abbrev pub FunctionsFollowed : Program → List Placed → (made : ℕ) → List ℕ → Type 0
FunctionsFollowed p fs made [] = Unit {0}
FunctionsFollowed p fs made (x ∷ xs) =
    IsFollowedIn p made (slice_get p.functions x) (slice_get fs x) × FunctionsFollowed p fs (made_in p fs made (slice_get p.functions x) (slice_get fs x)) xs
