use Rattle.std.proofs.Common.{◌∙◌, Ok, ap, subst}
use Rattle.std.specs.FinMap as map
use Rattle.cc_call.specs.Found.{IsFound}
use Rattle.cc_call.proofs.Named.{name_read}
use Rattle.cc_call.proofs.ReadAll.{missing_read, read_more, one_longer}
use Rattle.cc_call.proofs.reading.read_all.Goals as goal

pub returns-in-Ok-None-clause-found : goal.returns-in-Ok-None-clause-found
returns-in-Ok-None-clause-found g c = λ known h.
    missing_read known c.args.names.now c.loop-i.i c.index-names-i.result c.as_str.result.now c.loop-i.texts.items c.loop-i-test.true c.index-names-i.is c.as_str.ensures.value (c.loop-i.invariant.read_so_far known h)
    (subst (IsFound (map.get known c.as_str.result.now)) c.in-Ok-None.field-0-is (c.in-Ok-None.ensures.found known (c.loop-i.invariant.same ∙ h)))

pub returns-in-Ok-None-clause-missed : goal.returns-in-Ok-None-clause-missed
returns-in-Ok-None-clause-missed g c =
    subst (g.F.Files.missed c.read_source.new.files)
    (c.as_str.ensures.value ∙ name_read c.args.names.now c.loop-i.i c.index-names-i.result c.loop-i-test.true c.index-names-i.is)
    (c.in-Ok-None.ensures.missed (ap Ok c.in-Ok-None.field-0-is))

pub loop-i-preserved : goal.loop-i-preserved
loop-i-preserved g c = record {
  read_so_far = λ known h.
      read_more known c.args.names.now c.loop-i.i c.index-names-i.result c.as_str.result.now c.loop-i.texts.items c.push.new.self.items c.in-Ok-Some.text c.loop-i-test.true c.index-names-i.is c.as_str.ensures.value c.in_ok-push-in-Ok-Some.ensures.items
      (c.loop-i.invariant.read_so_far known h) (subst (IsFound (map.get known c.as_str.result.now)) c.in-Ok-Some.field-0-is (c.in-Ok-Some.ensures.found known (c.loop-i.invariant.same ∙ h)));
  count = one_longer c.loop-i.texts.items c.push.new.self.items c.in-Ok-Some.text c.loop-i.i c.in_ok-push-in-Ok-Some.ensures.items c.loop-i.invariant.count;
  same = c.read_source.ensures.same ∙ c.loop-i.invariant.same;
  read = c.in-Ok-Some.ensures.cause ∙ c.loop-i.invariant.read;
  write = c.read_source.ensures.write_faults ∙ c.loop-i.invariant.write;
}
