use Rattle.std.proofs.Common.{◌≡◌, ◌∙◌, ◌+◌, ◌≤◌, List, [], ◌∷◌, length, arith}
use Rattle.std.specs.List.{AllByRecursion}
use Rattle.obj_file.specs.declared.object.FunctionRow.{FunctionRow}
use Rattle.c_lex.specs.Grammar.{start}
use Rattle.c_tree.specs.declared.rows.Program.{Program}
use Rattle.c_tree.specs.declared.rows.UnitRow.{UnitRow}
use Rattle.c_typing.specs.Programs.{KeepsRules}
use Rattle.c_linkage.specs.FileTags.{tags_of}
use Rattle.ldb_cc.specs.Sources.{IsTree}
use Rattle.ldb_cc.specs.Table.{placement_of}
use Rattle.slot_formed.specs.Tokens.{program_tokens}
use Rattle.c_tokens.specs.Identifiers.{IsOfText, HasIdentifiers}
use Rattle.ldb_cc.proofs.Lengths.{as_many, of_texts, spelled_shortly}
use Rattle.unit_tables.specs.Conditions.{FunctionsFollowed}
use Rattle.compiled_tables.proofs.Tokens.{few_structs}
use Rattle.compiled_tables.proofs.Placed.{anchors_are_words, rows_are_placed}
use Rattle.compiled_tables.proofs.Framed.{are_framed}
use Rattle.compiled_tables.proofs.Programs.{names_are_own, built_ins_are}
use Rattle.compiled_tables.proofs.Followed.{functions_are_followed}
use Rattle.compiled_tables.proofs.Compiled.{few_items, within, parted, has_rows}
use Rattle.compiled_tables.proofs.UnitRows.{units_run, few_functions, short_rows}
use Rattle.compiled_tables.proofs.laws.compiled_units_run.Goals as goal

-- both of each unit
both : (p : Program) (fs : List FunctionRow) (us : List UnitRow) → AllByRecursion (λ (u : UnitRow). FunctionsFollowed p fs 0 u.functions) us → AllByRecursion (λ (u : UnitRow). length u.functions ≤ 40000) us
    → AllByRecursion (λ (u : UnitRow). FunctionsFollowed p fs 0 u.functions × (length u.functions ≤ 40000)) us
both p fs [] h k = tt
both p fs (u ∷ us) h k = ((h.0, k.0), both p fs us h.1 k.1)

pub returns : goal.returns
returns c aim names texts image table built long sixteen files =
    let p = built.program in
    let is = built.is_program in
    let q = is.2.1.behind in
    let rows = is.2.1.rows in
    let as_long : length names ≡ length is.0 = long ∙ as_many IsTree texts is.0 is.1.trees in
    let keeps : KeepsRules p = c.checked_programs_are_accepted.ensures names is.0 p is.2 as_long (of_texts _ (c.files_are_texts.ensures start) texts is.0 is.1.trees) in
    let identifiers : HasIdentifiers p = c.names_are_identifiers.ensures names is.0 p (of_texts IsOfText (λ text ts u h lexes unit. (text, ts, h, lexes, unit)) texts is.0 is.1.trees) is.2 in
    let short = spelled_shortly c.programs_have_few_tokens.ensures.joined c.one_reading.ensures.tokens texts is.0 is.1.few.0 40000 is.1.trees is.1.few.1.tokens is.1.few.2 in
    let affordable = c.programs_are_affordable.ensures names is.0 short.0 p short.1 is.2 sixteen short.2 in
    let tokens : program_tokens p ≤ 40000 = omega (arith, c.programs_have_few_tokens.ensures.fewest names is.0 short.0 p short.1 is.2, short.2) in
    let items : length p.objects + length p.strings + length p.functions + length p.points ≤ 40000 = omega (arith, few_items q names p rows is.0 short.0 short.1 is.2.1.files, short.2) in
    let statics : length p.objects + length p.strings ≤ 40000 = omega (arith, items) in
    let at = placement_of aim built.rows in
    let linked = built.image_of.linked in
    let framed = are_framed aim p image built.rows built.image_of in
    let structs = c.accepted_types_run.ensures.structs p keeps in
    let objects = c.accepted_types_run.ensures.objects p keeps in
    let has = has_rows q names p at rows keeps tokens c.accepted_types_run.ensures.types structs objects files identifiers affordable statics
    (anchors_are_words built.image_of.object image built.rows linked) (rows_are_placed built.image_of.object image built.rows linked c.placed_word_by_word.ensures.text framed) built.image_of.one_each in
    let parts = parted q names p at rows keeps tokens c.accepted_types_run.ensures.types structs objects files identifiers affordable statics
    (built_ins_are q names p rows (tags_of is.0) is.0 is.2.1.files) (names_are_own q names p rows (tags_of is.0) is.0 is.2.1.files as_long) in
    let runs = units_run q names p at rows identifiers items keeps (c.accepted_types_run.ensures.types p.defs) affordable (few_structs p tokens) framed in
    let is_within = within q names p at rows keeps tokens c.accepted_types_run.ensures.types structs objects files identifiers affordable statics in
    let brief = short_rows q names p at rows identifiers items files built.image_of.one_each in
    record {
      runs = runs;
      followed = both p at.functions p.units (functions_are_followed p at.functions q names rows (tags_of is.0) is.0 is.2.1.files as_long) (few_functions q names p at rows identifiers items);
      bytes = c.counted_tables_run.ensures.bytes p at has parts is_within;
      units = omega (arith, affordable.units, c.counted_tables_run.ensures.texts p at has parts is_within, c.units_are_bounded.ensures.made p at has parts brief runs.placed);
      steps = omega (arith, affordable.steps, c.units_are_bounded.ensures.steps p at has parts brief runs.placed);
    }
