use Rattle.std.proofs.Common.{subst, ◌<◌}
use Rattle.ldb_cc.specs.Sources.{HasTokens}
use Rattle.ldb_cc.specs.Scanning.{items_of}
use Rattle.ldb_cc.proofs.Parsed.{length_beside, parsed_read, cause_read}
use Rattle.ldb_cc.proofs.parsing.parse_all.Goals as goal

pub bounds-all-i : goal.bounds-all-i
bounds-all-i c = subst (λ n. c.loop-i.i < n) (length_beside items_of items_of HasTokens c.args.texts.now c.args.all.now c.requires.tokens.0.tokens) c.loop-i-test.true

pub returns-in-Err : goal.returns-in-Err
returns-in-Err c =
    cause_read c.args.texts.now c.args.all.now c.loop-i.i c.index-texts-i.result c.index-all-i.result c.deref.result.now c.deref-in-loop-i.result.now c.in-Ok.unit c.loop-i.trees c.loop-i-test.true c.index-texts-i.is c.index-all-i.is c.deref.ensures.value c.deref-in-loop-i.ensures.value c.in-Ok.ensures.1
    c.requires.tokens.0.tokens c.loop-i.invariant c.one_reading.ensures.tokens c.in-Err.fault c.requires.few c.in-Err.ensures

pub loop-i-preserved : goal.loop-i-preserved
loop-i-preserved c =
    parsed_read c.args.texts.now c.args.all.now c.loop-i.i c.index-texts-i.result c.index-all-i.result c.deref.result.now c.deref-in-loop-i.result.now c.in-Ok.unit c.loop-i.trees c.loop-i-test.true c.index-texts-i.is c.index-all-i.is c.deref.ensures.value c.deref-in-loop-i.ensures.value c.in-Ok.ensures.1
    c.requires.tokens.0.tokens c.loop-i.invariant c.in-Ok-add_tree.grown c.in-Ok-add_tree.ensures
