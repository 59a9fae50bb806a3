-- A type of C as a dictionary that a text makes anew: whatever a table says of its types, `Leaf` is asked for the leaves of the type of C. A struct is made
-- once, however often it stands in others: while types are made, the dictionary of each struct stands under its number.
use Prim.Native.String.{String}
use Rattle.std.specs.Prelude.{ℕ, suc, pos, nat_le, if◌then◌else◌, List, [], ◌∷◌, length}
use Rattle.c_tree.specs.declared.types.CType.{CType}
use Rattle.c_tree.specs.declared.types.CType.TheVariants.{Char, Int, Unsigned, Void, Pointer', Array', Struct}
use Rattle.c_tree.specs.declared.types.StructDef.{StructDef}
use Rattle.c_tree.specs.declared.types.Member.{Member}
use Rattle.c_tree.specs.Layout.{size_of}
use Rattle.ps_text.specs.Code.{Code, Stop, Proc}
use Rattle.ps_emit.specs.Terms.{◌⋯◌, word, name, string, integer, number, defined}

-- a dictionary of a kind of types
abbrev of_kind : String → Code → Code
of_kind kind more = word "<<" ⋯ name "kind" ⋯ name kind ⋯ more ⋯ word ">>"

abbrev sized : ℕ → Code
sized n = name "size" ⋯ integer (pos n)

-- Scalars have names. What a pointer leads to isn't asked: one to a struct is no deeper than a number.
abbrev scalars : Code
scalars =
    defined "c" (of_kind "char" (sized 1)) ⋯ defined "w" (of_kind "int" (sized 4))
    ⋯ defined "p" (of_kind "pointer" (sized 4 ⋯ name "to" ⋯ of_kind "struct" Stop))

-- the dictionary in which types are made, and structs before anything is known of them
abbrev pub begun : Code
begun = integer (pos 1) ⋯ word "dict" ⋯ word "begin" ⋯ scalars ⋯ integer (pos 0) ⋯ integer (pos 1)

abbrev pub with_structs : Code
with_structs = Proc (of_kind "struct" Stop ⋯ word "def") Stop ⋯ word "for"

-- the type that was made last, whose leaves have to be live
abbrev pub ended : Code
ended = word "load" ⋯ word "end" ⋯ word "Leaf"

-- ---- members

abbrev pub array_begun : Code
array_begun = word "<<" ⋯ name "kind" ⋯ name "array" ⋯ name "size"

abbrev pub row_begun : Code
row_begun = word "[" ⋯ string []

abbrev pub with_size : Code
with_size = word "load" ⋯ word "dup" ⋯ name "size"

abbrev pub with_members : Code
with_members = word "put" ⋯ name "members" ⋯ word "["

module _ (defs : List StructDef) where
  -- the bytes of a type; one that has more than 1,048,576, as no expression's has, counts none
  abbrev pub bytes_of : CType → ℕ
  bytes_of t = if nat_le (size_of defs t) 1048576 then size_of defs t else 0

  -- a type; no member is `void`
  abbrev pub type_code : CType → Code
  type_code Char = word "c"
  type_code Int = word "w"
  type_code Unsigned = word "w"
  type_code Void = word "null"
  type_code (Pointer' _ t) = word "p"
  type_code (Array' a t n) = array_begun ⋯ integer (pos (bytes_of (Array' a t n))) ⋯ name "count" ⋯ number n ⋯ name "to" ⋯ type_code t ⋯ word ">>"
  type_code (Struct s) = number s ⋯ word "load"

  -- a member, whose name isn't asked
  abbrev pub row_code : Member → Code
  row_code m = row_begun ⋯ number m.at ⋯ type_code m.ctype ⋯ word "]"

  abbrev pub each_row : List Member → Code
  each_row [] = Stop
  each_row (m ∷ ms) = row_code m ⋯ each_row ms

  -- the size and the members of a struct
  abbrev pub filled_struct : ℕ → StructDef → Code
  filled_struct s d = number s ⋯ with_size ⋯ number d.size ⋯ with_members ⋯ each_row d.members ⋯ word "]" ⋯ word "put"

  -- those of the structs from a number on
  abbrev pub filled_structs : ℕ → List StructDef → Code
  filled_structs s [] = Stop
  filled_structs s (d ∷ ds) = filled_struct s d ⋯ filled_structs (suc s) ds

  -- all leaves of the struct with a number are live where a pointer leads
  abbrev pub struct_leaves : ℕ → Code
  struct_leaves s = begun ⋯ number (length defs) ⋯ with_structs ⋯ filled_structs 0 defs ⋯ number s ⋯ ended
