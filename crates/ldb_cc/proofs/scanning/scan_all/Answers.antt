use Rattle.std.proofs.Common.{refl}
use Rattle.ldb_cc.proofs.Firsts.{short_read}
use Rattle.ldb_cc.proofs.Counted.{scanned_none, scanned_found, lex_cause, too_many, all_seen}
use Rattle.ldb_cc.proofs.scanning.scan_all.Goals as goal

pub loop-i-init : goal.loop-i-init
loop-i-init c = scanned_none _ c.new.ensures.items refl refl

pub tokens_of-requires : goal.tokens_of-requires
tokens_of-requires c = short_read c.args.texts.now c.loop-i.i c.index-texts-i.result c.deref.result.now c.loop-i-test.true c.index-texts-i.is c.deref.ensures.value c.requires

pub returns-then-scanned : goal.returns-then-scanned
returns-then-scanned c = too_many c.args.texts.now c.loop-i.i c.loop-i.scanned c.requires c.loop-i-test.false c.loop-i.invariant c.if-scanned.true

pub returns : goal.returns
returns c = all_seen c.args.texts.now c.loop-i.i c.loop-i.scanned c.requires c.loop-i-test.false c.loop-i.invariant c.if-scanned.false

pub returns-in-Err : goal.returns-in-Err
returns-in-Err c =
    lex_cause c.args.texts.now c.loop-i.i c.index-texts-i.result c.in-Ok.unit c.deref.result.now c.loop-i.scanned c.in-Err.fault c.requires c.loop-i-test.true c.index-texts-i.is c.deref.ensures.value c.in-Ok.ensures.1 c.loop-i.invariant c.in-Err.ensures

pub loop-i-preserved : goal.loop-i-preserved
loop-i-preserved c =
    scanned_found c.args.texts.now c.loop-i.i c.index-texts-i.result c.in-Ok.unit c.deref.result.now c.in-Ok-tokens_of.found c.loop-i.scanned c.add_tokens.new.scanned c.loop-i-test.true c.index-texts-i.is c.deref.ensures.value c.loop-i.invariant
    c.in-Ok-tokens_of.ensures c.in_ok-add_tokens-in-Ok-tokens_of.ensures.scans c.add_tokens.ensures.few
