-- What the names and the definitions of a program are to each other (C90 6.5, 6.7).
use Rattle.std.specs.Prelude.{◌≡◌, ◌≤◌, ℕ, Bool, true, false, List, Some, slice_get}
use Rattle.std.specs.List.{AllByRecursion}
use Rattle.c_tree.specs.declared.types.StructDef.{StructDef}
use Rattle.c_typing.specs.Plain.{Plain, is_complete}
use Rattle.c_typing.specs.Expressions.{Denoted, Object, Function}
use Rattle.c_linkage.specs.declared.definitions.Manner.{Manner}
use Rattle.c_linkage.specs.declared.definitions.Manner.TheVariants.{Body, Initialized, Tentative}
use Rattle.c_linkage.specs.Names.{FileName, Defining, as_built_in, as_main}
use Rattle.c_linkage.specs.FileNames.{AreConsistent}
use Rattle.c_file.specs.Files.{State, Bodied}
use Rattle.c_file.specs.Made.{Each}
use Rattle.c_linkage.specs.Defined.{is_body, bodies_of}

-- a body defines a function, and another definition an object
abbrev pub Fits : Manner → Denoted → Type 0
Fits Body (Function t ps) = Unit {0}
Fits Initialized (Object t r) = Unit {0}
Fits Tentative (Object t r) = Unit {0}
Fits _ _ = ⊥

-- a definition is a declaration of its name
pub record IsDeclaredBy (fs : List FileName) (d : Defining) : Type 0 where
  pub declaration : FileName
  pub number : ℕ
  pub there : slice_get fs number ≡ Some declaration
  pub name : declaration.name ≡ d.name
  pub unit : declaration.unit ≡ d.unit
  pub linkage : declaration.is_static ≡ d.is_static
  pub fits : Fits d.manner declaration.denoted

abbrev pub KeepsNames : FileName → Type 0
KeepsNames f = (as_built_in f ≡ true) × (as_main f ≡ true)

abbrev pub IsBodyFor : Defining → Bodied → Type 0
IsBodyFor d b = (b.name ≡ d.name) × (b.unit ≡ d.unit) × (b.is_static ≡ d.is_static)

-- the names and the definitions so far
pub record AreDeclared (p : State) : Type 0 where
  pub consistent : AreConsistent p.names
  pub rules : AllByRecursion KeepsNames p.names
  pub defined : AllByRecursion (IsDeclaredBy p.names) p.definitions
  pub bodies : Each IsBodyFor (bodies_of p.definitions) p.bodies
  pub units : AllByRecursion (λ (f : FileName). f.unit ≤ p.here.unit) p.names

-- ---- objects

-- a definition of an object is a declaration with a complete type
pub record IsWhole (defs : List StructDef) (fs : List FileName) (d : Defining) : Type 0 where
  pub declaration : FileName
  pub number : ℕ
  pub there : slice_get fs number ≡ Some declaration
  pub name : declaration.name ≡ d.name
  pub unit : declaration.unit ≡ d.unit
  pub linkage : declaration.is_static ≡ d.is_static
  pub ctype : Plain
  pub register : Bool
  pub denotes : declaration.denoted ≡ Object ctype register
  pub complete : is_complete defs ctype ≡ true

abbrev pub IsWholeIn : List StructDef → List FileName → Defining → Type 0
IsWholeIn defs fs d = is_body d.manner ≡ false → IsWhole defs fs d
