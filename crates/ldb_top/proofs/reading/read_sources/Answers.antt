use Rattle.std.proofs.Common.{◌∙◌, length, map, string_bytes, sym, subst}
use Rattle.cc_call.specs.Found.{AreFound, IsFoundOf, IsMissedOf}
use Rattle.ldb_top.proofs.Fronted.{all_there, source_stop}
use Rattle.ldb_top.proofs.Stopped.{missing_stops, name_read}
use Rattle.ldb_top.proofs.reading.read_sources.Goals as goal

pub returns-in-Ok-Missing-clause-cause : goal.returns-in-Ok-Missing-clause-cause
returns-in-Ok-Missing-clause-cause g c =
    let names = c.args.names.now in
    let missed = g.F.Files.missed c.read_all.new.files in
    let below = subst (IsFoundOf (length names)) c.in-Ok-Missing.field-0-is c.in-Ok-Missing.ensures.count in
    let told = subst (IsMissedOf missed (map string_bytes names)) c.in-Ok-Missing.field-0-is c.in-Ok-Missing.ensures.missed in
    let name = c.as_str.ensures.value ∙ name_read names c.in-Ok-Missing.number c.index-names-number.result below c.index-names-number.is in
    λ input. missing_stops missed input _ _ c.as_str.result.now c.missing.result c.missing.ensures (subst missed (sym name) told) c.in-Ok-Missing.ensures.cause

pub returns-in-Ok-All-clause-finds : goal.returns-in-Ok-All-clause-finds
returns-in-Ok-All-clause-finds g c = λ known h.
    let names = map string_bytes c.args.names.now in
    let read = subst (AreFound known names) c.in-Ok-All.field-0-is (c.in-Ok-All.ensures.found known h) in
    (all_there known names _ read, read)

pub returns-in-Ok-Missing-clause-finds : goal.returns-in-Ok-Missing-clause-finds
returns-in-Ok-Missing-clause-finds g c = λ known h.
    let names = c.args.names.now in
    let below = subst (IsFoundOf (length names)) c.in-Ok-Missing.field-0-is c.in-Ok-Missing.ensures.count in
    let name = c.as_str.ensures.value ∙ name_read names c.in-Ok-Missing.number c.index-names-number.result below c.index-names-number.is in
    source_stop known (map string_bytes names) c.in-Ok-Missing.number c.as_str.result.now c.missing.result name c.missing.ensures
    (subst (AreFound known (map string_bytes names)) c.in-Ok-Missing.field-0-is (c.in-Ok-Missing.ensures.found known h))
