-- The fewest tokens that a program is written with.
use Rattle.std.specs.Prelude.{ℕ, ◌+◌, ◌*◌, sum, map, length}
use Rattle.c_tree.specs.declared.types.StructDef.{StructDef}
use Rattle.c_tree.specs.declared.rows.Program.{Program}
use Rattle.c_tree.specs.declared.rows.Function.{Function}
use Rattle.slot_gen.specs.Tokens.{stmt_tokens}

-- A function's result has one token at least, its name one, and its parameters two parentheses (C90 6.7.1).
abbrev pub function_tokens : Function → ℕ
function_tokens f = 4 + stmt_tokens f.body

-- A `struct` in front of the tag, which a type elsewhere counts as, and for each member a name and what ends its declarator (C90 6.5.2.1).
abbrev pub struct_tokens : StructDef → ℕ
struct_tokens d = 1 + 2 * length d.members

abbrev pub program_tokens : Program → ℕ
program_tokens p = sum (map function_tokens p.functions) + sum (map struct_tokens p.defs)
