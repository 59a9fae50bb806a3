use Rattle.std.proofs.Common.{◌≡◌, ◌∙◌, sym, map, length}
use Rattle.std.proofs.lemmas.List.{length-map}
use Rattle.ldb_cc.specs.Scanning.{items_of}
use Rattle.ldb_cc.proofs.compiling.compile.Goals as goal

pub build-requires-clause-rules : goal.build-requires-clause-rules
build-requires-clause-rules c =
    c.programs_of_sources.ensures.rules c.args.names.now (map items_of c.args.texts.now) c.in_ok-program.program (c.requires ∙ sym (length-map c.args.texts.now items_of)) c.in_ok-program.ensures

pub build-requires-clause-few : goal.build-requires-clause-few
build-requires-clause-few c = c.programs_of_sources.ensures.few c.args.names.now (map items_of c.args.texts.now) c.in_ok-program.program c.in_ok-program.ensures

pub returns : goal.returns
returns c = record {
  program = c.in_ok-program.program;
  is_program = c.in_ok-program.ensures;
  rows = _;
  image_of = c.in_ok-image.ensures;
  table_is = c.in_ok-table.ensures;
}
