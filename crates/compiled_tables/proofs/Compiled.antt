-- The table of an accepted program runs.
use Rattle.std.proofs.Common.{◌≡◌, ℕ, zero, suc, ◌+◌, ◌*◌, ◌<◌, ◌≤◌, ◌^◌, List, [], ◌∷◌, length, map, sum, Some, slice_get, sym, ap, ◌∙◌, subst, arith}
use Rattle.std.specs.List.{AllByRecursion}
use Rattle.c_tree.specs.declared.types.CType.{CType}
use Rattle.c_tree.specs.declared.types.StructDef.{StructDef}
use Rattle.c_tree.specs.declared.rows.Program.{Program}
use Rattle.c_tree.specs.declared.rows.UnitRow.{UnitRow}
use Rattle.c_tree.specs.declared.rows.ObjectRow.{ObjectRow}
use Rattle.c_tree.specs.declared.rows.SymbolRow.{SymbolRow}
use Rattle.c_tree.specs.declared.rows.Function.{Function}
use Rattle.c_tree.specs.declared.rows.Point.{Point}
use Rattle.c_tree.specs.declared.rows.Referent.{Referent}
use Rattle.c_tree.specs.declared.rows.Referent.TheVariants as refers
use Rattle.c_typing.specs.Written.{IsFormed}
use Rattle.c_typing.specs.Programs.{KeepsRules}
use Rattle.c_symbol.specs.declared.terminal.Terminal.{Terminal}
use Rattle.c_trees.specs.declared.unit.External.{External}
use Rattle.c_tokens.specs.Identifiers.{IsIdentifier, HasIdentifiers}
use Rattle.c_tokens.specs.Units.{AreSpelled, terminals_in}
use Rattle.c_file.specs.Programs.{Well, at_first, AllFiles}
use Rattle.c_linkage.specs.FileTags.{tags_of}
use Rattle.c_linkage.specs.Names.{Defining}
use Rattle.c_file.specs.Files.{State}
use Rattle.c_file.specs.Made as made
use Rattle.slot_formed.specs.Tokens.{program_tokens}
use Rattle.ps_scan.specs.Grammar.{AllRegular}
use Rattle.ps_emit.specs.declared.placement.Placement.{Placement}
use Rattle.ps_emit.specs.Places.{file_in}
use Rattle.ps_emit.specs.Bounds.{all, of_named, of_symbol}
use Rattle.ps_emit.specs.Lengths.{IsName}
use Rattle.ps_tables.specs.Runnable.{RunsType, RunsRow}
use Rattle.ps_tables.specs.Rows.{IsObject, IsPlaced, HasRows, OwnNames, IsBuiltIn, IsParted}
use Rattle.ps_tables.specs.Within.{IsWithin, HasTypes}
use Rattle.ldb_cc.specs.declared.aim.Aim.{Aim}
use Rattle.ldb_cc.specs.declared.aim.Aim.TheVariants.{Mips, Sparc}
use Rattle.ldb_cc.specs.Table.{target_byte}
use Rattle.compiled_tables.specs.Conditions.{AreFileNames, IsAffordable}
use Rattle.compiled_tables.proofs.Identifiers.{regular, named}
use Rattle.compiled_tables.proofs.Tokens.{sum_more, few_structs, few_members}
use Rattle.compiled_tables.proofs.Types.{type_words, structs_are_rows, symbols_are_rows}
use Rattle.compiled_tables.proofs.Files.{stop_count}
use Rattle.compiled_tables.proofs.FileRows.{all_cost}
use Rattle.compiled_tables.proofs.Parts.{as_many, points_long, functions_parted, points_parted}
use Rattle.compiled_tables.proofs.Units.{units_fit}
use Rattle.compiled_tables.specs.Weights.{Rates, AreCovered, total}
use Rattle.compiled_tables.proofs.Costs.{of_defined}
use Rattle.compiled_tables.proofs.Affordable.{few_tokens_weigh}

-- ---- strings have room in the static data

strings_fit : (q : State) (n : ℕ) (ts : List (List ℕ)) → sum (map (made.string_room q) ts) ≤ n → n < 2 ^ 30 → AllByRecursion (λ t. length t < 2 ^ 30) ts
strings_fit q n [] h l = tt
strings_fit q n (t ∷ ts) h l = let s = sum_more (made.string_room q) t ts in (omega arith, strings_fit q n ts (omega arith) l)

-- ---- files

pub files_short : (q : State) (u : ℕ) (names : List (List ℕ)) (us : List UnitRow) → made.AreUnits q u names us → AreFileNames names → AllByRecursion (λ (r : UnitRow). length r.file ≤ 255) us
files_short q u [] [] h s = tt
files_short q u [] (r ∷ us) h s = absurd h
files_short q u (n ∷ ns) [] h s = absurd h
files_short q u (n ∷ ns) (r ∷ us) h s = (let e : length r.file ≡ length n = ap (λ (l : List ℕ). length l) h.0 in let b : length n ≤ 255 = s.0 in omega arith, files_short q (suc u) ns us h.2 s.1)

pub file_short : (us : List UnitRow) (i : ℕ) → AllByRecursion (λ (r : UnitRow). length r.file ≤ 255) us → length (file_in (slice_get us i)) ≤ 255
file_short [] i h = omega arith
file_short (r ∷ us) zero h = h.0
file_short (r ∷ us) (suc i) h = file_short us i h.1

-- ---- names

tags_regular : (ds : List StructDef) → AllByRecursion (λ (d : StructDef). IsIdentifier d.tag × AllByRecursion (λ m. IsIdentifier m.name) d.members) ds → AllByRecursion (λ (d : StructDef). AllRegular d.tag) ds
tags_regular [] h = tt
tags_regular (d ∷ ds) h = (regular d.tag h.0.0, tags_regular ds h.1)

functions_named : (fs : List Function) → AllByRecursion (λ (f : Function). IsIdentifier f.name) fs → AllByRecursion (λ (f : Function). IsName f.name) fs
functions_named [] h = tt
functions_named (f ∷ fs) h = (named f.name h.0, functions_named fs h.1)

objects_are_rows : (p : Program) (few : length p.defs ≤ 40000) (files : AllByRecursion (λ (r : UnitRow). length r.file ≤ 255) p.units) (os : List ObjectRow)
    → AllByRecursion (λ (o : ObjectRow). RunsType p.defs o.ctype) os → AllByRecursion (λ (o : ObjectRow). IsIdentifier o.name) os → AllByRecursion (IsObject p.units) os
objects_are_rows p few files [] t n = tt
objects_are_rows p few files (o ∷ os) t n =
    (record { name = named o.name n.0; ctype = type_words p.defs o.ctype few t.0; file = file_short p.units o.unit files }, objects_are_rows p few files os t.1 n.1)

-- ---- how many there are

symbols_cost : (ss : List SymbolRow) → 70 * length ss ≤ (all (map of_symbol ss)).bytes
symbols_cost [] = omega arith
symbols_cost (s ∷ ss) = let a = symbols_cost ss in let b = one s.refers s.ctype in omega arith
  where
    one : (r : Referent) (t : CType) → 70 ≤ (of_named r t).bytes
    one (refers.Object o) t = omega arith
    one (refers.Local x) t = omega arith
    one (refers.Function f) t = omega arith
    one refers.Declared t = omega arith

pub few_symbols : (p : Program) → IsAffordable p → length p.symbols < 900000
few_symbols p h = let a = symbols_cost p.symbols in let b = h.bytes in omega arith

-- static objects, strings, functions and points are tokens

abbrev items : Rates
items = record { constructor = 0; object = 1; object_symbol = 0; symbol = 0; point = 1; function = 1; struct = 0; member = 0; string = 1; token = 1 }

items_covered : AreCovered items
items_covered = record { string = omega arith; struct = omega arith; constructor = omega arith; point = omega arith; local = omega arith; member = omega arith; object = omega arith; declared = omega arith; function = omega arith }

objects_counted : (q : State) (ds : List Defining) → total (of_defined items q) ds ≡ length ds
objects_counted q [] = omega arith
objects_counted q (d ∷ ds) = omega (arith, objects_counted q ds)

pub few_items : (q : State) (names : List (List ℕ)) (p : Program) (rows : made.HasRows q names p) (us : List (List External)) (tss : List (List Terminal)) → AreSpelled us tss
    → AllFiles (tags_of us) (at_first (tags_of us)) us Well q → length p.objects + length p.strings + length p.functions + length p.points ≤ terminals_in tss
few_items q names p rows us tss s h =
    let a = few_tokens_weigh items items_covered q us h tss (terminals_in tss) s (omega arith) in
    let b = objects_counted q (made.objects q) in
    let c = as_many (made.IsObjectOf q) (made.objects q) p.objects rows.objects in
    let d : length p.strings ≡ length q.strings = ap (λ (l : List (List ℕ)). length l) rows.strings in
    let e = as_many (made.IsFunctionOf q) q.bodies p.functions rows.functions in
    let f : length p.points ≡ stop_count q.bodies = ap (λ (l : List Point). length l) rows.points ∙ points_long q 0 q.bodies in
    let g = (all_cost items items_covered us q h).points in
    omega (arith, a, b, c, d, e, f, g)

module _ (q : State) (names : List (List ℕ)) (p : Program) (at : Placement) (rows : made.HasRows q names p) (keeps : KeepsRules p) (tokens : program_tokens p ≤ 40000)
    (runs_types : (defs : List StructDef) (t : CType) → IsFormed defs t → RunsType defs t) (runs_structs : AllByRecursion (RunsRow p.defs) p.defs)
    (runs_objects : AllByRecursion (λ (o : ObjectRow). RunsType p.defs o.ctype) p.objects)
    (files : AreFileNames names) (identifiers : HasIdentifiers p) (affordable : IsAffordable p) (statics : length p.objects + length p.strings ≤ 40000) where
  abbrev few : length p.defs ≤ 40000
  few = few_structs p tokens

  pub within : IsWithin p
  within = record {
    bytes = affordable.bytes;
    units = units_fit p affordable.bytes;
    steps = let s = affordable.steps in omega arith;
    structs = few;
    members = few_members p tokens;
    objects = statics;
  }

  pub types : HasTypes p
  types = record { structs = runs_structs; objects = runs_objects; tags = tags_regular p.defs identifiers.tags }

  pub parted : ((s : ℕ) (row : SymbolRow) → s < 3 → slice_get p.symbols s ≡ Some row → IsBuiltIn p s row) → OwnNames p 3 p.units → IsParted p
  parted built_ins own = record { functions = functions_parted q names p rows; points = points_parted q names p rows; built_ins = built_ins; names = own }

  units_short : AllByRecursion (λ (r : UnitRow). length r.file ≤ 255) p.units
  units_short = files_short q 0 names p.units rows.units files

  pub has_rows : AllByRecursion (λ a. a.1 < 2 ^ 32) at.anchors → AllByRecursion IsPlaced at.functions → length at.anchors ≡ length p.objects + length p.strings → HasRows p at
  has_rows anchors placed one =
      let o = statics in
      let f = few in
      let many : length p.symbols < 2 ^ 32 = let l = few_symbols p affordable in omega arith in
      let room = rows.room in
      let strings : AllByRecursion (λ t. length t < 2 ^ 30) q.strings = strings_fit q 1048576 q.strings (omega arith) (omega arith) in
      record {
        structs = structs_are_rows p keeps few runs_structs identifiers;
        objects = objects_are_rows p few units_short p.objects runs_objects identifiers.objects;
        strings = subst (AllByRecursion (λ t. length t < 2 ^ 30)) (sym rows.strings) strings;
        functions = functions_named p.functions identifiers.functions;
        symbols = symbols_are_rows p few many (omega arith) (runs_types p.defs) keeps identifiers;
        units = units_short;
        anchors = anchors;
        placed = placed;
        one_each = one;
        few_structs = omega arith;
        few_objects = omega arith;
        few_symbols = many;
      }

-- ---- targets

pub low_byte : (aim : Aim) → 1 ≤ target_byte aim
low_byte Mips = omega arith
low_byte Sparc = omega arith

pub high_byte : (aim : Aim) → target_byte aim ≤ 2
high_byte Mips = omega arith
high_byte Sparc = omega arith
