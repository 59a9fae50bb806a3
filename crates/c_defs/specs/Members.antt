-- Members of structs by their names (C90 6.3.2.3).
use Rattle.std.specs.Prelude.{ℕ, ◌^◌, nat_lt, if◌then◌else◌, List, map, Option, Some, None}
use Rattle.c_tree.specs.declared.types.StructDef.{StructDef}
use Rattle.c_tree.specs.declared.types.Member.{Member}
use Rattle.c_tree.specs.Layout.{members_of}
use Rattle.c_typing.specs.Plain.{Plain, Struct}
use Rattle.c_defs.specs.Numbers.{first_number}

abbrev pub name_of : Member → List ℕ
name_of m = m.name

-- a number of 32 bits
abbrev pub in_word : Option ℕ → Option ℕ
in_word None = None
in_word (Some n) = if nat_lt n (2 ^ 32) then Some n else None

-- the number of a struct's member with this name
abbrev pub member_number : List StructDef → Plain → List ℕ → Option ℕ
member_number defs (Struct s) name = in_word (first_number (map name_of (members_of defs s)) name)
member_number defs _ name = None
