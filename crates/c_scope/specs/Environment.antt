-- What is declared at a place of a source file.
use Rattle.std.specs.Prelude.{ℕ, suc, true, if◌then◌else◌, List, [], ◌∷◌, ◌++◌, length, map, Option, Some, None, bytes_eq, slice_get, option_map, option_and_then}
use Rattle.c_tree.specs.declared.types.StructDef.{StructDef}
use Rattle.c_typing.specs.Expressions.{Denoted}
use Rattle.c_judge.specs.Scope.{Scope, or_else_number}
use Rattle.c_defs.specs.Numbers.{first_number}

-- a declared name: what it denotes, the number of the next name outward, the file that it stands in, and its number among its function's locals
pub record Row : Type 0 where
  pub name : List ℕ
  pub denoted : Denoted
  pub up : Option ℕ
  pub unit : ℕ
  pub local : Option ℕ

-- a name and its number
pub record Visible : Type 0 where
  pub name : List ℕ
  pub number : ℕ

-- Names are numbered in the order of their declarations over all files. A tag has the number of its place among the program's tags.
pub record Environment : Type 0 where
  pub unit : ℕ
  -- what is declared so far
  pub names : List Row
  -- the names in scope, the innermost first
  pub visible : List Visible
  -- those that the innermost block declares
  pub block : List (List ℕ)
  -- how many locals the function has so far
  pub locals : ℕ
  -- the structs, those that are complete here with their members
  pub defs : List StructDef
  pub tags : List (List ℕ)

abbrev pub number_of : List Visible → List ℕ → Option ℕ
number_of [] name = None
number_of (v ∷ vs) name = if bytes_eq v.name name then Some v.number else number_of vs name

-- the innermost name in scope
abbrev pub innermost : List Visible → Option ℕ
innermost [] = None
innermost (v ∷ vs) = Some v.number

-- a name is in scope from its declarator on (C90 6.1.2.1)
abbrev pub declare : Environment → List ℕ → Denoted → Option ℕ → Environment
declare v name d x = record v {
  names = v.names ++ record { name = name; denoted = d; up = innermost v.visible; unit = v.unit; local = x } ∷ [];
  visible = record { name = name; number = length v.names } ∷ v.visible;
  block = name ∷ v.block;
}

-- at file scope, and in a function
abbrev pub declare_global : Environment → List ℕ → Denoted → Environment
declare_global v name d = declare v name d None

abbrev pub declare_local : Environment → List ℕ → Denoted → Environment
declare_local v name d = record (declare v name d (Some v.locals)) { locals = suc v.locals }

-- a block begins, which declares nothing yet
abbrev pub enter : Environment → Environment
enter v = record v { block = [] }

-- a block ends, and what it declared goes out of scope
abbrev pub leave : (outside inside : Environment) → Environment
leave o i = record i { visible = o.visible; block = o.block }

abbrev pub denoted_by : Row → Denoted
denoted_by r = r.denoted

-- what stands at a number among the names
abbrev pub denoted_at : Environment → ℕ → Option Denoted
denoted_at v n = option_map denoted_by (slice_get v.names n)

-- what a name in scope denotes
abbrev pub meant : Environment → List ℕ → Option Denoted
meant v name = option_and_then (denoted_at v) (number_of v.visible name)

-- the struct that a tag names (C90 6.5.2.3)
abbrev pub struct_of : List (List ℕ) → List ℕ → ℕ
struct_of tags tag = or_else_number (length tags) (first_number tags tag)

-- what the names of an expression stand for, where its string literals have these numbers
abbrev pub scope : Environment → (ℕ → ℕ) → Scope
scope v literal = record {
  among = record { names = map denoted_by v.names; defs = v.defs; strings = [] };
  number = number_of v.visible;
  tag = struct_of v.tags;
  literal = literal;
  asks = true;
}

abbrev pub no_literal : ℕ → ℕ
no_literal at = 0

-- what an expression is does not ask for the numbers of its literals
abbrev pub scope_of : Environment → Scope
scope_of v = scope v no_literal
