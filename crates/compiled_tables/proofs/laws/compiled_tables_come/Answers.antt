use Rattle.std.proofs.Common.{◌≡◌, ◌∙◌, sym, subst, ℕ, ◌+◌, ◌≤◌, List, length, arith}
use Rattle.c_lex.specs.Grammar.{start}
use Rattle.c_typing.specs.Programs.{KeepsRules}
use Rattle.table_ends.specs.Joined.{MakesTable}
use Rattle.c_linkage.specs.FileTags.{tags_of}
use Rattle.ldb_cc.specs.Sources.{IsTree}
use Rattle.ldb_cc.specs.Table.{placement_of}
use Rattle.ps_emit.specs.Table.{table_text}
use Rattle.slot_formed.specs.Tokens.{program_tokens}
use Rattle.c_tokens.specs.Identifiers.{IsOfText, HasIdentifiers}
use Rattle.ldb_cc.proofs.Lengths.{as_many, of_texts, spelled_shortly}
use Rattle.compiled_tables.proofs.Placed.{anchors_are_words, rows_are_placed}
use Rattle.compiled_tables.proofs.Framed.{are_framed}
use Rattle.compiled_tables.proofs.Programs.{names_are_own, built_ins_are}
use Rattle.compiled_tables.proofs.Compiled.{few_items, within, types, parted, has_rows, low_byte, high_byte}
use Rattle.compiled_tables.proofs.laws.compiled_tables_come.Goals as goal

pub returns : goal.returns
returns c aim names texts image table built long sixteen files =
    let p = built.program in
    let is = built.is_program in
    let q = is.2.1.behind in
    let rows = is.2.1.rows in
    let as_long : length names ≡ length is.0 = long ∙ as_many IsTree texts is.0 is.1.trees in
    let keeps : KeepsRules p = c.checked_programs_are_accepted.ensures names is.0 p is.2 as_long (of_texts _ (c.files_are_texts.ensures start) texts is.0 is.1.trees) in
    let identifiers : HasIdentifiers p = c.names_are_identifiers.ensures names is.0 p (of_texts IsOfText (λ text ts u h lexes unit. (text, ts, h, lexes, unit)) texts is.0 is.1.trees) is.2 in
    let short = spelled_shortly c.programs_have_few_tokens.ensures.joined c.one_reading.ensures.tokens texts is.0 is.1.few.0 40000 is.1.trees is.1.few.1.tokens is.1.few.2 in
    let affordable = c.programs_are_affordable.ensures names is.0 short.0 p short.1 is.2 sixteen short.2 in
    let tokens : program_tokens p ≤ 40000 = omega (arith, c.programs_have_few_tokens.ensures.fewest names is.0 short.0 p short.1 is.2, short.2) in
    let statics : length p.objects + length p.strings ≤ 40000 = omega (arith, few_items q names p rows is.0 short.0 short.1 is.2.1.files, short.2) in
    let at = placement_of aim built.rows in
    let linked = built.image_of.linked in
    let runs_structs = c.accepted_types_run.ensures.structs p keeps in
    let runs_objects = c.accepted_types_run.ensures.objects p keeps in
    let come = c.counted_tables_come.ensures p at
    (has_rows q names p at rows keeps tokens c.accepted_types_run.ensures.types runs_structs runs_objects files identifiers affordable statics
    (anchors_are_words built.image_of.object image built.rows linked) (rows_are_placed built.image_of.object image built.rows linked c.placed_word_by_word.ensures.text (are_framed aim p image built.rows built.image_of)) built.image_of.one_each)
    (parted q names p at rows keeps tokens c.accepted_types_run.ensures.types runs_structs runs_objects files identifiers affordable statics
    (built_ins_are q names p rows (tags_of is.0) is.0 is.2.1.files) (names_are_own q names p rows (tags_of is.0) is.0 is.2.1.files as_long))
    (types q names p at rows keeps tokens c.accepted_types_run.ensures.types runs_structs runs_objects files identifiers affordable statics)
    (within q names p at rows keeps tokens c.accepted_types_run.ensures.types runs_structs runs_objects files identifiers affordable statics)
    (low_byte aim) (high_byte aim) in
    let target = built.image_of.is_for.target in
    subst (λ (text : List ℕ). MakesTable text image.target) (sym built.table_is) (subst (MakesTable (table_text p at)) (sym target) come)
