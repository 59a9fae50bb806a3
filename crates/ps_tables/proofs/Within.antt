-- A program whose rows keep to names and words, and which costs not too much, has a table that runs.
use Rattle.std.proofs.Common.{◌≡◌, ℕ, ◌+◌, ◌*◌, ◌/◌, ◌≤◌, List, [], ◌∷◌, length, refl, arith}
use Rattle.std.specs.List.{AllByRecursion}
use Rattle.obj_file.specs.declared.object.FunctionRow.{FunctionRow}
use Rattle.c_tree.specs.declared.types.StructDef.{StructDef}
use Rattle.c_tree.specs.declared.types.Member.{Member}
use Rattle.c_tree.specs.declared.rows.Program.{Program}
use Rattle.c_tree.specs.declared.rows.UnitRow.{UnitRow}
use Rattle.c_tree.specs.declared.rows.ObjectRow.{ObjectRow}
use Rattle.ps_scan.specs.Grammar.{AllRegular}
use Rattle.ps_store.specs.Store.{text_units}
use Rattle.ps_text.specs.Code.{Code, render}
use Rattle.ps_emit.specs.declared.placement.Placement.{Placement}
use Rattle.ps_emit.specs.Terms.{word, ◌⋯◌}
use Rattle.ps_emit.specs.Functions.{deferred, unit_code, units_code}
use Rattle.ps_emit.specs.Table.{top_code, parts_code, table_code, table_text}
use Rattle.ps_emit.specs.Types.{structs_code, filled_structs}
use Rattle.ps_emit.specs.Words.{words}
use Rattle.ps_emit.specs.Places.{objects_code}
use Rattle.ps_emit.specs.Bounds.{cost_of, units_of}
use Rattle.ps_emit.specs.Lengths.{size, IsMemberRow}
use Rattle.ps_emit.proofs.Lengths.{escaped_longer}
use Rattle.ps_tables.specs.Runnable.{RunsType, RunsRow, RunsMember, RunsStruct, RunsObject, RunsUnit, Runnable}
use Rattle.ps_tables.specs.Bounded.{IsShortMember, IsShortStruct, IsShortObject, IsShort, deferred_units}
use Rattle.ps_tables.specs.Rows.{IsStruct, IsObject, HasRows, IsParted}
use Rattle.ps_tables.specs.Within.{IsWithin, HasTypes}
use Rattle.ps_tables.specs.Tabled.{table_made, table_steps}
use Rattle.ps_tables.proofs.Bounded.{label_fits, table_takes, table_makes}
use Rattle.ps_tables.proofs.UnitsShort.{size_followed}
use Rattle.ps_tables.proofs.TextShort.{code_size, top_units, strings_apart}

-- ---- deferred texts are parts of the table's text

-- the bytes of the deferred texts
abbrev deferred_bytes : Program → List FunctionRow → List UnitRow → ℕ
deferred_bytes p fs [] = 0
deferred_bytes p fs (u ∷ us) = length (render (deferred p fs u)) + deferred_bytes p fs us

unit_has : (p : Program) (fs : List FunctionRow) (u : UnitRow) → length (render (deferred p fs u)) ≤ size (unit_code p fs u)
unit_has p fs u =
    let a = strings_apart u.file (render (deferred p fs u)) (word "cvx" ⋯ word "NewUnit") in
    let b = escaped_longer (render (deferred p fs u)) in
    omega arith

units_have : (p : Program) (fs : List FunctionRow) (us : List UnitRow) → deferred_bytes p fs us ≤ size (units_code p fs us)
units_have p fs [] = omega arith
units_have p fs (u ∷ us) = let a = unit_has p fs u in let b = units_have p fs us in let e = size_followed (unit_code p fs u) (units_code p fs us) in omega arith

deferred_short : (p : Program) (fs : List FunctionRow) (us : List UnitRow) → 16 * deferred_units p fs us ≤ 31 * length us + deferred_bytes p fs us
deferred_short p fs [] = omega arith
deferred_short p fs (u ∷ us) = let a = deferred_short p fs us in omega arith

module _ (p : Program) (at : Placement) (rows : HasRows p at) (parted : IsParted p) (within : IsWithin p) where
  fits : size (table_code p at) ≤ (cost_of p).bytes
  fits = code_size p at rows parted

  holds : size (units_code p at.functions p.units) ≤ size (table_code p at)
  holds =
      let last : Code = objects_code p ⋯ top_code p at in
      let a = size_followed words (parts_code p at) in
      let b = size_followed (structs_code p.defs) (filled_structs 0 p.defs ⋯ last) in
      let c = size_followed (filled_structs 0 p.defs) last in
      let d = size_followed (objects_code p) (top_code p at) in
      let e = top_units p at in
      omega arith

  -- each deferred text is a string of the dialect
  units_run : (us : List UnitRow) → AllByRecursion (λ (u : UnitRow). length u.file ≤ 255) us → deferred_bytes p at.functions us ≤ 16777216 → AllByRecursion (RunsUnit p at.functions) us
  units_run [] h l = tt
  units_run (u ∷ us) h l = (record { file = let f : length u.file ≤ 255 = h.0 in omega arith; functions = omega arith }, units_run us h.1 (omega arith))

  members_run : (ms : List Member) → AllByRecursion IsMemberRow ms → AllByRecursion (λ (m : Member). RunsType p.defs m.ctype) ms → AllByRecursion (RunsMember p.defs) ms
  members_run [] h t = tt
  members_run (m ∷ ms) h t = (record { name = let s = h.0.name.short in omega arith; at = h.0.at; ctype = t.0 }, members_run ms h.1 t.1)

  structs_run : (ds : List StructDef) → AllByRecursion IsStruct ds → AllByRecursion (RunsRow p.defs) ds → AllByRecursion (λ (d : StructDef). AllRegular d.tag) ds → AllByRecursion (λ (d : StructDef). length d.members ≤ 40000) ds
      → AllByRecursion (RunsStruct p.defs) ds
  structs_run [] h t r few = tt
  structs_run (d ∷ ds) h t r few =
      (record { regular = r.0; short = let s = h.0.tag.short in omega arith; size = t.0.0; few = let l : length d.members ≤ 40000 = few.0 in omega arith; members = members_run d.members h.0.members t.0.1 }, structs_run ds h.1 t.1 r.1 few.1)

  short_object : (o : ObjectRow) → IsObject p.units o → IsShortObject p.units o
  short_object o h = record { name = h.name.short; file = h.file }

  objects_run : (os : List ObjectRow) → AllByRecursion (IsObject p.units) os → AllByRecursion (λ (o : ObjectRow). RunsType p.defs o.ctype) os → AllByRecursion (RunsObject p.defs p.units) os
  objects_run [] h t = tt
  objects_run (o ∷ os) h t =
      (record { name = let s = h.0.name.short in omega arith; label = let l = label_fits p.defs p.units o (short_object o h.0) in omega arith; ctype = t.0 }, objects_run os h.1 t.1)

  pub runnable : HasTypes p → Runnable p at
  runnable types =
      let b = within.bytes in
      let f = fits in
      let g = holds in
      let d = units_have p at.functions p.units in
      let c = rows.one_each in
      let o = within.objects in
      record {
        structs = structs_run p.defs rows.structs types.structs types.tags within.members;
        objects = objects_run p.objects rows.objects types.objects;
        strings = rows.strings;
        anchors = rows.anchors;
        units = units_run p.units rows.units (omega arith);
        few_structs = within.structs;
        few_objects = omega arith;
        few_anchors = omega arith;
        few_units = omega arith;
      }

  -- ---- steps and units

  short_members : (ms : List Member) → AllByRecursion IsMemberRow ms → AllByRecursion IsShortMember ms
  short_members [] h = tt
  short_members (m ∷ ms) h = (h.0.name.short, short_members ms h.1)

  short_structs : (ds : List StructDef) → AllByRecursion IsStruct ds → AllByRecursion IsShortStruct ds
  short_structs [] h = tt
  short_structs (d ∷ ds) h = (record { tag = h.0.tag.short; members = short_members d.members h.0.members }, short_structs ds h.1)

  short_objects : (os : List ObjectRow) → AllByRecursion (IsObject p.units) os → AllByRecursion (IsShortObject p.units) os
  short_objects [] h = tt
  short_objects (o ∷ os) h = (short_object o h.0, short_objects os h.1)

  short : IsShort p at
  short =
      let o = within.objects in
      record { structs = short_structs p.defs rows.structs; objects = short_objects p.objects rows.objects; units = rows.units; placed = rows.one_each; few = omega arith }

  pub few_steps : table_steps p at + 2 ≤ 10000000
  few_steps = let a = table_takes p at short in let b = within.steps in omega arith

  text_fits : length (table_text p at) ≡ size (table_code p at)
  unfolding table_text
  text_fits = refl

  pub text_within : length (table_text p at) ≤ 16777216
  text_within = let e = text_fits in let f = fits in let b = within.bytes in omega arith

  pub few_in_texts : text_units (table_text p at) + deferred_units p at.functions p.units ≤ (cost_of p).bytes / 8 + 2 * (1 + length p.units)
  few_in_texts =
      let e = text_fits in
      let f = fits in
      let g = holds in
      let d = units_have p at.functions p.units in
      let s = deferred_short p at.functions p.units in
      omega arith

  pub few_units : text_units (table_text p at) + table_made p at ≤ units_of p
  few_units = let a = table_makes p at short in let b = few_in_texts in omega arith
