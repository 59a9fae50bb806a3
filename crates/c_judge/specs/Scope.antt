-- What the names of an expression stand for.
use Rattle.std.specs.Prelude.{ℕ, Bool, List, length, map, Option, Some, None}
use Rattle.c_tree.specs.declared.types.StructDef.{StructDef}
use Rattle.c_typing.specs.Plain.{Plain, Pointer}
use Rattle.c_typing.specs.Expressions as typing
use Rattle.c_defs.specs.Numbers.{first_number}
use Rattle.c_defs.specs.Members.{member_number}

-- What an expression stands among: what each number denotes, the structs and the strings; which number a name has; which struct a tag
-- names, and the number of the string literal at an offset. `asks` says whether the functions' parameters are known, so that calls are asked for them.
pub record Scope : Type 0 where
  pub among : typing.Scope
  pub number : List ℕ → Option ℕ
  pub tag : List ℕ → ℕ
  pub literal : ℕ → ℕ
  pub asks : Bool

abbrev pub defs_of : Scope → List StructDef
defs_of v = v.among.defs

abbrev pub tag_of : StructDef → List ℕ
tag_of d = d.tag

abbrev pub or_else_number : ℕ → Option ℕ → ℕ
or_else_number n None = n
or_else_number n (Some m) = m

-- the struct that a tag names: the first with this tag; a tag that none has names one that is not complete (C90 6.5.2.3)
abbrev pub tagged : List StructDef → List ℕ → ℕ
tagged defs tag = or_else_number (length defs) (first_number (map tag_of defs) tag)

-- the number of the member with a name of the struct that a pointer points to
abbrev pub pointed_number : List StructDef → Plain → List ℕ → Option ℕ
pointed_number defs (Pointer t) name = member_number defs t name
pointed_number defs _ name = None
