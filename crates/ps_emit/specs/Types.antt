-- Types of a table. A struct is made once: an array `structs` has those of the program in their order, so that a struct may lead to itself.
use Rattle.std.specs.Prelude.{ℕ, suc, List, [], ◌∷◌}
use Rattle.c_tree.specs.declared.types.CType.{CType}
use Rattle.c_tree.specs.declared.types.CType.TheVariants.{Char, Int, Unsigned, Void, Pointer', Array', Struct}
use Rattle.c_tree.specs.declared.types.StructDef.{StructDef}
use Rattle.c_tree.specs.declared.types.Member.{Member}
use Rattle.ps_text.specs.Code.{Code, Stop, Lit}
use Rattle.ps_emit.specs.Terms.{◌⋯◌, word, name, string, number, item, bracketed, defined}

-- a type; `void`, which no object has, is null
abbrev pub type_code : CType → Code
type_code Char = word "char"
type_code Int = word "int"
type_code Unsigned = word "unsigned"
type_code Void = word "null"
type_code (Pointer' _ t) = type_code t ⋯ word "PointerTo"
type_code (Array' _ t n) = type_code t ⋯ number n ⋯ word "ArrayOf"
type_code (Struct s) = item "structs" s

-- ---- structs

abbrev pub struct_code : StructDef → Code
struct_code d = Lit d.tag Stop ⋯ number d.size ⋯ word "NewStruct"

abbrev pub each_struct : List StructDef → Code
each_struct [] = Stop
each_struct (d ∷ ds) = struct_code d ⋯ each_struct ds

abbrev pub structs_code : List StructDef → Code
structs_code ds = defined "structs" (bracketed (each_struct ds))

-- ---- members

abbrev pub member_code : Member → Code
member_code m = bracketed (string m.name ⋯ number m.at ⋯ type_code m.ctype)

abbrev pub each_member : List Member → Code
each_member [] = Stop
each_member (m ∷ ms) = member_code m ⋯ each_member ms

-- the members of a struct; one that is not complete has none
abbrev pub filled_struct : ℕ → List Member → Code
filled_struct s ms = item "structs" s ⋯ name "members" ⋯ bracketed (each_member ms) ⋯ word "put"

-- those of the structs from a number on
abbrev pub filled_structs : ℕ → List StructDef → Code
filled_structs s [] = Stop
filled_structs s (d ∷ ds) = filled_struct s d.members ⋯ filled_structs (suc s) ds

-- ---- tags

abbrev pub tag_code : ℕ → StructDef → Code
tag_code s d = Lit d.tag Stop ⋯ item "structs" s

-- the tags of the structs from a number on, each with its type
abbrev pub tags_code : ℕ → List StructDef → Code
tags_code s [] = Stop
tags_code s (d ∷ ds) = tag_code s d ⋯ tags_code (suc s) ds
