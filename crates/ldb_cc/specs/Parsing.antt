-- On the way to the trees of sources.
use Rattle.std.specs.Prelude.{◌≡◌, ◌≤◌, ◌<◌, ◌⊎◌, ℕ, List, [], ◌∷◌, ◌++◌, map, Option, Some, None, Result, Ok, Err}
use Rattle.std.specs.Global.{Vec}
use Rattle.std.specs.List.{AllByRecursion}
use Rattle.c_lex.specs.declared.token.Token.{Token}
use Rattle.c_lex.specs.declared.token.Place.{Place}
use Rattle.c_symbol.specs.Terminals.{terminals}
use Rattle.c_trees.specs.declared.unit.External.{External}
use Rattle.c_trees.specs.declared.unit.Unit.{Unit as UnitTree}
use Rattle.c_syntax.specs.Grammar.{IsUnit}
use Rattle.c_linkage.specs.FileTags.{externals_of}
use Rattle.c_file.specs.Made.{Each}
use Rattle.c_check.specs.declared.faults.CheckFault.{CheckFault}
use Rattle.c_check.specs.declared.faults.CheckFault.TheVariants as check
use Rattle.ldb_cc.specs.declared.fault.BuildFault.{BuildFault}
use Rattle.ldb_cc.specs.declared.fault.BuildFault.TheVariants as cause
use Rattle.ldb_cc.specs.declared.parsing.Trees.{Trees}
use Rattle.ldb_cc.specs.Sources.{AreFiles, HasTree, IsShallow, IsDeep, IsTree, IsFirst, IsCause, StandsAt, text_of}

-- the tokens of a text have a tree, at most 64 deep or deeper, or none
abbrev pub IsUnitOf : List ℕ → List Token → List External → Type 0
IsUnitOf text ts externals = (h : ℕ) × (h ≤ 64) × IsUnit externals h (terminals text ts)

abbrev pub IsDeepUnit : List ℕ → List Token → Type 0
IsDeepUnit text ts = (externals : List External) × (h : ℕ) × (64 < h) × IsUnit externals h (terminals text ts)

abbrev pub IsNoUnit : List ℕ → List Token → Type 0
IsNoUnit text ts = (externals : List External) (h : ℕ) → IsUnit externals h (terminals text ts) → ⊥

-- the first source that is nested too deep stays the first
abbrev pub deep_unit : Option (ℕ × Place) → ℕ → ℕ
deep_unit (Some d) unit = d.0
deep_unit None unit = unit

abbrev pub IsDeepIn : Option (ℕ × Place) → ℕ → Option (ℕ × Place) → Type 0
IsDeepIn before unit None = ⊥
IsDeepIn before unit (Some d) = d.0 ≡ deep_unit before unit

-- the tree of a source more: it is kept, or it is too deep, or there is none
abbrev pub GrowsTo : ℕ → List ℕ → List Token → (old new : Trees) → Type 0
GrowsTo unit text ts old new =
    ((externals : List External) × IsUnitOf text ts externals × (new.deep ≡ old.deep) × (map externals_of new.units.items ≡ map externals_of old.units.items ++ externals ∷ []))
    ⊎ (IsDeepUnit text ts × IsDeepIn old.deep unit new.deep)

abbrev pub Grows : ℕ → List ℕ → List Token → Trees → Result Trees BuildFault → Type 0
Grows unit text ts old (Ok new) = GrowsTo unit text ts old new
Grows unit text ts old (Err (cause.Syntax u line column)) = (u ≡ unit) × IsNoUnit text ts
Grows unit text ts old (Err cause.NoMemory) = Unit {0}
Grows unit text ts old (Err _) = ⊥

-- the trees of the texts so far are kept, or the first of them that is too deep
abbrev pub AreKept : List (List ℕ) → List (List ℕ) → Option (ℕ × Place) → List (List External) → Type 0
AreKept texts done None units = Each IsTree done units
AreKept texts done (Some d) units = IsFirst IsShallow IsDeep d.0 texts

pub record AreParsed (texts done : List (List ℕ)) (trees : Trees) : Type 0 where
  pub all : AllByRecursion HasTree done
  pub kept : AreKept texts done trees.deep (map externals_of trees.units.items)

-- the trees of some sources, or the first that is too deep
abbrev pub IsShallowOf : Trees → Result (Vec UnitTree) BuildFault → Type 0
IsShallowOf trees (Ok units) = (trees.deep ≡ None) × (units ≡ trees.units)
IsShallowOf trees (Err (cause.Deep u line column)) = (place : Place) × (trees.deep ≡ Some (u, place))
IsShallowOf trees (Err _) = ⊥

abbrev pub AreTrees : List (List ℕ) → Result (Vec UnitTree) BuildFault → Type 0
AreTrees texts (Ok units) = AreFiles texts (map externals_of units.items)
AreTrees texts (Err f) = IsCause texts f

-- a cause is what the checker found
abbrev pub IsRefusal : List (List ℕ) → CheckFault → BuildFault → Type 0
IsRefusal texts check.Arguments f = f ≡ cause.Arguments
IsRefusal texts (check.Rule rule unit at) f = (line : ℕ) × (column : ℕ) × StandsAt (text_of texts unit) at line column × (f ≡ cause.Rule rule unit line column)
IsRefusal texts (check.Twice name) f = f ≡ cause.Twice name
IsRefusal texts (check.Unknown name) f = f ≡ cause.Unknown name
IsRefusal texts check.NoMain f = f ≡ cause.NoMain
IsRefusal texts check.TooBig f = f ≡ cause.Statics
IsRefusal texts check.NoMemory f = f ≡ cause.NoMemory
