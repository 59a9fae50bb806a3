-- What a table costs: the bytes of its text, and the units of the store and the steps that it takes when it is run and each of its units is used.
-- One number for each item of the program, all names having at most 63 bytes and file names at most 255.
use Rattle.std.specs.Prelude.{ℕ, suc, ◌+◌, ◌*◌, ◌/◌, List, [], ◌∷◌, map, length}
use Rattle.c_tree.specs.declared.types.CType.{CType}
use Rattle.c_tree.specs.declared.types.CType.TheVariants.{Pointer', Array'}
use Rattle.c_tree.specs.declared.types.StructDef.{StructDef}
use Rattle.c_tree.specs.declared.types.Member.{Member}
use Rattle.c_tree.specs.declared.rows.Program.{Program}
use Rattle.c_tree.specs.declared.rows.ObjectRow.{ObjectRow}
use Rattle.c_tree.specs.declared.rows.SymbolRow.{SymbolRow}
use Rattle.c_tree.specs.declared.rows.Referent.{Referent}
use Rattle.c_tree.specs.declared.rows.Referent.TheVariants as refers

-- `made` are the units of what is made; that of the texts is one for each 16 bytes
pub record Cost : Type 0 where
  pub bytes : ℕ
  pub made : ℕ
  pub steps : ℕ

abbrev pub none : Cost
none = record { bytes = 0; made = 0; steps = 0 }

infixl 20 ◌and◌
abbrev pub ◌and◌ : Cost → Cost → Cost
a and b = record { bytes = a.bytes + b.bytes; made = a.made + b.made; steps = a.steps + b.steps }

abbrev pub times : ℕ → Cost → Cost
times n c = record { bytes = n * c.bytes; made = n * c.made; steps = n * c.steps }

abbrev pub all : List Cost → Cost
all [] = none
all (c ∷ cs) = c and all cs

-- ---- items

-- `int`, `PointerTo`, `n ArrayOf`, `structs n get`
abbrev pub per_constructor : Cost
per_constructor = record { bytes = 24; made = 8; steps = 30 }

-- `s uplink objects n get ObjectSymbol def`
abbrev pub per_object_symbol : Cost
per_object_symbol = record { bytes = 70; made = 18; steps = 17 }

-- `s (name) type where uplink NewSymbol def`, of a `register` variable in memory where is `{ n Local 0 Register pop pop }`
abbrev pub per_symbol : Cost
per_symbol = record { bytes = 165; made = 34; steps = 45 }

-- `line column address uplink NewPoint`
abbrev pub per_point : Cost
per_point = record { bytes = 62; made = 10; steps = 32 }

-- `[ register offset ]`
abbrev pub per_saved : Cost
per_saved = record { bytes = 28; made = 8; steps = 4 }

-- `(name) static entry end frame [ ] [ ] NewFunction`
abbrev pub function_alone : Cost
function_alone = record { bytes = 130; made = 28; steps = 54 }

-- with as many saved registers as a function has at most
abbrev pub per_function : Cost
per_function = function_alone and times 9 per_saved

-- `(file) (..) cvx NewUnit` and `1 dict begin [ ] end`
abbrev pub unit_alone : Cost
unit_alone = record { bytes = 559; made = 40; steps = 24 }

-- with the three symbols of the built-ins and their types
abbrev pub per_unit : Cost
per_unit = unit_alone and times 3 (per_symbol and per_constructor)

-- `/tag size NewStruct`, `structs n get /members [ ] put`, `/tag structs n get`
abbrev pub per_struct : Cost
per_struct = record { bytes = 217; made = 37; steps = 30 }

-- `[ (name) offset type ]`
abbrev pub per_member : Cost
per_member = record { bytes = 84; made = 14; steps = 4 }

-- `(name) (label) { 0 /aK Anchor Absolute } type NewObject`, and `/aK address`
abbrev pub per_object : Cost
per_object = record { bytes = 721; made = 50; steps = 35 }

-- `(strK) { 0 /aK Anchor Absolute } char n ArrayOf NewString`, and `/aK address`
abbrev pub per_string : Cost
per_string = record { bytes = 123; made = 35; steps = 58 }

-- the words, and what stands round the items
abbrev pub always : Cost
always = record { bytes = 1900; made = 900; steps = 170 }

-- ---- programs

abbrev pub constructors : CType → ℕ
constructors (Pointer' _ t) = suc (constructors t)
constructors (Array' _ t n) = suc (constructors t)
constructors _ = 1

abbrev pub of_type : CType → Cost
of_type t = times (constructors t) per_constructor

abbrev pub of_member : Member → Cost
of_member m = per_member and of_type m.ctype

abbrev of_struct : StructDef → Cost
of_struct d = per_struct and all (map of_member d.members)

abbrev pub of_object : ObjectRow → Cost
of_object o = per_object and of_type o.ctype

abbrev pub of_named : Referent → CType → Cost
of_named (refers.Object o) t = per_object_symbol
of_named _ t = per_symbol and of_type t

abbrev pub of_symbol : SymbolRow → Cost
of_symbol s = of_named s.refers s.ctype

abbrev pub cost_of : Program → Cost
cost_of p =
    always and times (length p.units) per_unit and all (map of_struct p.defs) and all (map of_object p.objects) and times (length p.strings) per_string
    and times (length p.functions) per_function and times (length p.points) per_point and all (map of_symbol p.symbols)

-- All units of the store: a deferred text is also a part of the table's text, and each text counts a unit and one for each 16 bytes begun.
abbrev pub units_of : Program → ℕ
units_of p = (cost_of p).made + (cost_of p).bytes / 8 + 2 * (1 + length p.units)

-- ---- tokens

-- What an item costs for each token that it is written with, at most. An object and its symbol stand at a name, which another token follows;
-- a `*` is a constructor; a function has six tokens and two points; any other point, a local, a member and a string have two, and so has the
-- mention of a struct; a string that is a statement has two, and a point. 40,000 tokens in 16 files make at most 16,340,483 bytes, of the
-- 16,777,216 that a text may have, and 1,804,379 steps. Of the units 50 a token are proved.
abbrev pub per_token : Cost
per_token = record { bytes = 408; made = 38; steps = 45 }
