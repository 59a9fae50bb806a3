use Rattle.std.proofs.Common.{◌∙◌, length, map, string_bytes, refl, sym, ap, subst}
use Rattle.cc_call.specs.Words.{seen}
use Rattle.cc_call.specs.Lines.{missing_line}
use Rattle.cc_call.specs.Found.{AreFound, IsFoundOf, IsMissedOf}
use Rattle.cc_call.specs.declared.call.Answer.TheVariants.{Missing}
use Rattle.cc_call.proofs.Outcomes.{leaves_nothing, leaves_line, misses, misses_one}
use Rattle.cc_call.proofs.call.compile_files.Goals as goal

pub returns-in-Err-clause-leaves : goal.returns-in-Err-clause-leaves
returns-in-Err-clause-leaves g c = λ known h. leaves_nothing (seen c.args.request.now) known _ _ _ _ refl (c.read_all.ensures.same ∙ h)

pub returns-in-Ok-Missing-clause-leaves : goal.returns-in-Ok-Missing-clause-leaves
returns-in-Ok-Missing-clause-leaves g c = λ known h.
    let sources = c.args.request.now.sources.now in
    let below = subst (IsFoundOf (length sources)) c.in-Ok-Missing.field-0-is c.in-Ok-Missing.ensures.count in
    let missing = subst (AreFound known (map string_bytes sources)) c.in-Ok-Missing.field-0-is (c.in-Ok-Missing.ensures.found known h) in
    leaves_line (seen c.args.request.now) known Missing (missing_line c.as_str.result.now) _ _ _ c.miss.result
    (misses (seen c.args.request.now) known sources c.in-Ok-Missing.number c.index-request-number.result c.as_str.result.now refl below c.index-request-number.is (c.as_str.ensures.value ∙ ap string_bytes (sym c.index-request-number.is)) missing)
    (c.read_all.ensures.same ∙ h) c.miss.ensures.said

pub returns-in-Ok-Missing-clause-missed : goal.returns-in-Ok-Missing-clause-missed
returns-in-Ok-Missing-clause-missed g c = λ r.
    let sources = c.args.request.now.sources.now in
    let below = subst (IsFoundOf (length sources)) c.in-Ok-Missing.field-0-is c.in-Ok-Missing.ensures.count in
    let missed = subst (IsMissedOf (g.F.Files.missed c.read_all.new.files) (map string_bytes sources)) c.in-Ok-Missing.field-0-is c.in-Ok-Missing.ensures.missed in
    misses_one _ sources c.in-Ok-Missing.number c.index-request-number.result c.as_str.result.now _ _ c.miss.result below c.index-request-number.is (c.as_str.ensures.value ∙ ap string_bytes (sym c.index-request-number.is)) missed c.miss.ensures.said r
