-- A table takes no more steps and units than are counted for its items.
use Rattle.std.proofs.Common.{◌≡◌, ℕ, zero, suc, ◌+◌, ◌*◌, ◌-◌, ◌/◌, ◌<◌, ◌≤◌, ◌^◌, Bool, true, false, if◌then◌else◌, List, [], ◌∷◌, ◌++◌, length, map, take, codes, decimal, slice_get, refl, sym, ap, ◌∙◌, subst, arith, length-append}
use Rattle.std.specs.List.{AllByRecursion}
use Rattle.obj_file.specs.declared.object.FunctionRow.{FunctionRow}
use Rattle.c_tree.specs.declared.types.CType.{CType}
use Rattle.c_tree.specs.declared.types.CType.TheVariants.{Char, Int, Unsigned, Void, Pointer', Array', Struct}
use Rattle.c_tree.specs.declared.types.StructDef.{StructDef}
use Rattle.c_tree.specs.declared.types.Member.{Member}
use Rattle.c_tree.specs.declared.rows.Program.{Program}
use Rattle.c_tree.specs.declared.rows.UnitRow.{UnitRow}
use Rattle.c_tree.specs.declared.rows.ObjectRow.{ObjectRow}
use Rattle.ps_store.specs.Store.{text_units}
use Rattle.ps_text.specs.Code.{render}
use Rattle.ps_terms.specs.Printing.{further}
use Rattle.ps_emit.specs.declared.placement.Placement.{Placement}
use Rattle.ps_emit.specs.Terms.{anchor_name}
use Rattle.ps_emit.specs.Functions.{deferred}
use Rattle.ps_emit.specs.Places.{file_in, object_label, label_front, without_ending, string_label}
use Rattle.ps_emit.specs.Bounds.{Cost, all, constructors, of_member, of_object, of_symbol, per_struct, ◌and◌, cost_of}
use Rattle.ps_tables.specs.Types.{written, type_cost, type_steps}
use Rattle.ps_tables.specs.Tabled.{members_made, members_steps, structs_made, filling_made, filling_steps, strings_made, objects_made, objects_steps, object_units, object_steps, anchors_made, tags_made, units_made, top_made, top_steps, table_made, table_steps}
use Rattle.ps_tables.specs.Bounded.{IsShortMember, IsShortStruct, IsShortObject, IsShortUnit, IsShort, deferred_units}
use Rattle.ps_tables.proofs.MembersRun.{further_is}
use Rattle.ps_tables.proofs.ObjectsRun.{short_decimal}

-- ---- types

pub type_takes : (defs : List StructDef) (t : CType) → type_steps (written defs t) ≤ constructors t * 30
type_takes defs Char = omega arith
type_takes defs Int = omega arith
type_takes defs Unsigned = omega arith
type_takes defs Void = omega arith
type_takes defs (Pointer' b t) = let e = type_takes defs t in let f = further_is (type_steps (written defs t)) 11 in omega arith
type_takes defs (Array' b t n) = let e = type_takes defs t in let f = further_is (type_steps (written defs t)) 30 in omega arith
type_takes defs (Struct s) = omega arith

pub type_makes : (defs : List StructDef) (t : CType) → type_cost (written defs t) ≤ constructors t * 8
type_makes defs Char = omega arith
type_makes defs Int = omega arith
type_makes defs Unsigned = omega arith
type_makes defs Void = omega arith
type_makes defs (Pointer' b t) = let e = type_makes defs t in omega arith
type_makes defs (Array' b t n) = let e = type_makes defs t in omega arith
type_makes defs (Struct s) = omega arith

take_short : (n : ℕ) (xs : List ℕ) → length (take n xs) ≤ length xs
take_short zero xs = omega arith
take_short (suc n) [] = omega arith
take_short (suc n) (x ∷ xs) = let e = take_short n xs in omega arith

-- ---- structs

abbrev of_struct : StructDef → Cost
of_struct d = per_struct and all (map of_member d.members)

module _ (defs : List StructDef) where
  members_take : (ms : List Member) → members_steps defs ms ≤ (all (map of_member ms)).steps
  members_take [] = omega arith
  members_take (m ∷ ms) = let e = members_take ms in let f = type_takes defs m.ctype in omega arith

  members_make : (ms : List Member) → AllByRecursion IsShortMember ms → members_made defs ms + length ms ≤ (all (map of_member ms)).made
  members_make [] h = omega arith
  members_make (m ∷ ms) h = let e = members_make ms h.1 in let f = type_makes defs m.ctype in let g : length m.name ≤ 63 = h.0 in omega arith

  structs_take : (ds : List StructDef) → 19 * length ds + filling_steps defs ds + 4 * length ds ≤ (all (map of_struct ds)).steps
  structs_take [] = omega arith
  structs_take (d ∷ ds) = let e = structs_take ds in let f = members_take d.members in omega arith

  structs_make : (ds : List StructDef) → AllByRecursion IsShortStruct ds → length ds + structs_made ds + filling_made defs ds + (tags_made ds + length ds) ≤ (all (map of_struct ds)).made
  structs_make [] h = omega arith
  structs_make (d ∷ ds) h = let e = structs_make ds h.1 in let f = members_make d.members h.0.members in let g : length d.tag ≤ 63 = h.0.tag in omega arith

  -- ---- objects

  objects_take : (os : List ObjectRow) → objects_steps defs os + 2 * length os ≤ (all (map of_object os)).steps
  objects_take [] = omega arith
  objects_take (o ∷ os) = let e = objects_take os in let f = type_takes defs o.ctype in omega arith

  pub label_fits : (us : List UnitRow) (o : ObjectRow) → IsShortObject us o → length (object_label us o) ≤ 320
  label_fits us o h =
      let f : length (label_front us o) ≤ 256 = front o.is_static in
      let n : length o.name ≤ 63 = h.name in
      let e : length (object_label us o) ≡ length (label_front us o) + length o.name = length-append (label_front us o) o.name in
      omega arith
    where
      front : (b : Bool) → length (if b then without_ending (file_in (slice_get us o.unit)) ++ 46 ∷ [] else []) ≤ 256
      front true =
          let file : List ℕ = file_in (slice_get us o.unit) in
          let e : length (without_ending file ++ 46 ∷ []) ≡ length (without_ending file) + 1 = length-append (without_ending file) (46 ∷ []) in
          let f : length (without_ending file) ≤ length file = take_short (length file - 2) file in
          let g : length file ≤ 255 = h.file in
          omega arith
      front false = omega arith

  objects_make : (us : List UnitRow) (k : ℕ) (os : List ObjectRow) → AllByRecursion (IsShortObject us) os → k + length os < 2 ^ 31 → 4 * length os + objects_made defs us k os ≤ (all (map of_object os)).made
  objects_make us k [] h few = omega arith
  objects_make us k (o ∷ os) h few =
      let e = objects_make us (suc k) os h.1 (omega arith) in
      let f = type_makes defs o.ctype in
      let g : length o.name ≤ 63 = h.0.name in
      let l = label_fits us o h.0 in
      let a : length (decimal k) ≤ 10 = short_decimal k (omega arith) in
      let five : text_units o.name ≤ 5 = omega arith in
      let label : text_units (object_label us o) ≤ 21 = omega arith in
      let two : text_units (anchor_name k) ≤ 2 = omega arith in
      omega arith

-- ---- strings, anchors and units

strings_make : (k anchor : ℕ) (ts : List (List ℕ)) → k + length ts < 2 ^ 31 → anchor + length ts < 2 ^ 31 → strings_made k anchor ts ≤ 31 * length ts
strings_make k anchor [] h j = omega arith
strings_make k anchor (t ∷ ts) h j =
    let e = strings_make (suc k) (suc anchor) ts (omega arith) (omega arith) in
    let a : length (decimal anchor) ≤ 10 = short_decimal anchor (omega arith) in
    let b : length (decimal k) ≤ 10 = short_decimal k (omega arith) in
    let l : length (codes "str" ++ decimal k) ≡ 3 + length (decimal k) = length-append (codes "str") (decimal k) in
    let two : text_units (anchor_name anchor) ≤ 2 = omega arith in
    let label : text_units (string_label k) ≤ 2 = omega arith in
    omega arith

anchors_make : (k : ℕ) (rows : List (List ℕ × ℕ)) → k + length rows < 2 ^ 31 → anchors_made k rows ≤ 2 * length rows
anchors_make k [] h = omega arith
anchors_make k (r ∷ rows) h =
    let e = anchors_make (suc k) rows (omega arith) in
    let a : length (decimal k) ≤ 10 = short_decimal k (omega arith) in
    let two : text_units (anchor_name k) ≤ 2 = omega arith in
    omega arith

units_make : (p : Program) (fs : List FunctionRow) (us : List UnitRow) → AllByRecursion IsShortUnit us → units_made p fs us ≤ 24 * length us + deferred_units p fs us
units_make p fs [] h = omega arith
units_make p fs (u ∷ us) h =
    let e = units_make p fs us h.1 in
    let f : length u.file ≤ 255 = h.0 in
    let file : text_units u.file ≤ 17 = omega arith in
    omega arith

-- ---- all of it

-- beside what is counted for units that are used, and their functions, points and symbols
pub table_takes_beside : (p : Program) (at : Placement) → IsShort p at
    → table_steps p at + (231 * length p.units + 90 * length p.functions + 32 * length p.points + (all (map of_symbol p.symbols)).steps) ≤ (cost_of p).steps
table_takes_beside p at h =
    let a = structs_take p.defs p.defs in
    let b = objects_take p.defs p.objects in
    let c = h.placed in
    omega arith

pub table_makes_beside : (p : Program) (at : Placement) → IsShort p at
    → table_made p at + (138 * length p.units + 100 * length p.functions + 10 * length p.points + (all (map of_symbol p.symbols)).made) ≤ (cost_of p).made + deferred_units p at.functions p.units
table_makes_beside p at h =
    let few = h.few in
    let placed = h.placed in
    let a = structs_make p.defs p.defs h.structs in
    let b = objects_make p.defs p.units 0 p.objects h.objects (omega arith) in
    let c = strings_make 0 (length p.objects) p.strings (omega arith) (omega arith) in
    let d = anchors_make 0 at.anchors (omega arith) in
    let e = units_make p at.functions p.units h.units in
    omega arith

pub table_takes : (p : Program) (at : Placement) → IsShort p at → table_steps p at ≤ (cost_of p).steps
table_takes p at h = let a = table_takes_beside p at h in omega arith

pub table_makes : (p : Program) (at : Placement) → IsShort p at → table_made p at ≤ (cost_of p).made + deferred_units p at.functions p.units
table_makes p at h = let a = table_makes_beside p at h in omega arith
