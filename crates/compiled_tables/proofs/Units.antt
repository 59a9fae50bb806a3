-- Where the bytes that are counted for a program's items are within the limit of a text, the units have room.
use Rattle.std.proofs.Common.{◌+◌, ◌*◌, ◌≤◌, List, [], ◌∷◌, length, map, arith}
use Rattle.std.specs.Fmt.{digits}
use Rattle.ps_scan.specs.Bytes.{is_white, is_special, is_regular, is_hexadecimal}
use Rattle.ps_store.specs.Operators.{operator_number}
use Rattle.c_tree.specs.declared.types.CType.{CType}
use Rattle.c_tree.specs.declared.types.StructDef.{StructDef}
use Rattle.c_tree.specs.declared.types.Member.{Member}
use Rattle.c_tree.specs.declared.rows.Program.{Program}
use Rattle.c_tree.specs.declared.rows.ObjectRow.{ObjectRow}
use Rattle.c_tree.specs.declared.rows.SymbolRow.{SymbolRow}
use Rattle.c_tree.specs.declared.rows.Referent.{Referent}
use Rattle.c_tree.specs.declared.rows.Referent.TheVariants as refers
use Rattle.ps_print.specs.Loaded.{loaded}
use Rattle.ps_emit.specs.Bounds.{Cost, all, ◌and◌, per_struct, of_member, of_object, of_named, of_symbol, cost_of, units_of}

-- no more than a unit for three bytes
abbrev IsLight : Cost → Type 0
IsLight c = 3 * c.made ≤ c.bytes

light_members : (ms : List Member) → IsLight (all (map of_member ms))
light_members [] = omega arith
light_members (m ∷ ms) = let a = light_members ms in omega arith

abbrev of_struct : StructDef → Cost
of_struct d = per_struct and all (map of_member d.members)

light_structs : (ds : List StructDef) → IsLight (all (map of_struct ds))
light_structs [] = omega arith
light_structs (d ∷ ds) = let a = light_structs ds in let b = light_members d.members in omega arith

light_objects : (os : List ObjectRow) → IsLight (all (map of_object os))
light_objects [] = omega arith
light_objects (o ∷ os) = let a = light_objects os in omega arith

light_named : (r : Referent) (t : CType) → IsLight (of_named r t)
light_named (refers.Object o) t = omega arith
light_named (refers.Local x) t = omega arith
light_named (refers.Function f) t = omega arith
light_named refers.Declared t = omega arith

light_symbols : (ss : List SymbolRow) → IsLight (all (map of_symbol ss))
light_symbols [] = omega arith
light_symbols (s ∷ ss) = let a = light_symbols ss in let b = light_named s.refers s.ctype in omega arith

light_program : (p : Program) → 3 * (cost_of p).made ≤ (cost_of p).bytes + 800
light_program p =
    let a = light_structs p.defs in
    let b = light_objects p.objects in
    let c = light_symbols p.symbols in
    omega arith

pub few_files : (p : Program) → 1126 * length p.units ≤ (cost_of p).bytes
few_files p = omega arith

pub loaded_units : loaded.store.table.units + loaded.store.command.units ≤ 200000
unfolding digits is_white is_special is_regular is_hexadecimal operator_number
loaded_units = omega arith

pub units_fit : (p : Program) → (cost_of p).bytes ≤ 16777216 → loaded.store.table.units + loaded.store.command.units + units_of p ≤ 8000000
units_fit p h =
    let a = light_program p in
    let b = few_files p in
    let c = loaded_units in
    omega arith
