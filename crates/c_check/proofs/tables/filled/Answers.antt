use Rattle.c_check.proofs.FilledTables.{from_slices, all_made}
use Rattle.c_check.proofs.tables.filled.Goals as goal

pub returns : goal.returns
returns c = λ n q st k f.
    let d = c.args.defined.now in
    let t = c.in_ok-tables.ensures q (from_slices c.args.state.now q d.objects.items c.as_slice-objects.result.now d.bodies.items c.as_slice-bodies.result.now d.types.items c.as_slice-types.result.now
    c.as_slice-objects.ensures.value c.as_slice-bodies.ensures.value c.as_slice-types.ensures.value f) in
    all_made n c.args.state.now q c.args.names.now _ c.as_slice-functions.result.now c.as_slice-texts.result.now st k (t.objects, t.symbols) c.in_ok-units.ensures.files c.in_ok-units.ensures.functions
    c.as_slice-functions.ensures.value c.in_ok-strings.ensures c.as_slice-texts.ensures.value
