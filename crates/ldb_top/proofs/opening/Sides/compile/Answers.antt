use Rattle.std.proofs.Common.{◌∙◌, map, sym}
use Rattle.std.proofs.lemmas.List.{length-map}
use Rattle.ldb_cc.specs.Scanning.{items_of}
use Rattle.ldb_top.proofs.Opened.{built_then}
use Rattle.ldb_top.proofs.opening.Sides.compile.Goals as goal

pub returns-in-Ok-clause-builds : goal.returns-in-Ok-clause-builds
returns-in-Ok-clause-builds c =
    let names = c.args.names.now in
    let texts = map items_of c.args.texts.now in
    let image = c.in-Ok.built.image in
    let text = c.in-Ok.built.table in
    let made = c.compiled_tables_come.ensures c.args.aim names texts image text c.in-Ok.ensures (c.requires.one_each ∙ sym (length-map c.args.texts.now items_of)) c.requires.named.few c.requires.named.short in
    built_then c.args.aim names texts image text c.as_bytes.result.now c.add.result c.in-Ok.ensures made.only c.as_bytes.ensures c.add.ensures.told

pub returns-in-Err-clause-builds : goal.returns-in-Err-clause-builds
returns-in-Err-clause-builds c = c.refusal.ensures (map items_of c.args.texts.now) c.in-Err.ensures
