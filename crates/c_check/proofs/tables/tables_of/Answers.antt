use Rattle.std.proofs.Common.{◌∙◌, ap, map}
use Rattle.c_linkage.specs.Wanted.{started}
use Rattle.c_rows.specs.Symbols.{symbols_by}
use Rattle.c_check.proofs.RowsMade.{objects_made, symbols_made}
use Rattle.c_check.proofs.tables.tables_of.Goals as goal

pub returns : goal.returns
returns c = λ q f.
    let h = c.in_ok-places.ensures q (c.rows.ensures.rows ∙ f.names) f.objects f.bodies in
    let k = c.in_ok-starts.ensures q (c.as_slice-defs.ensures.value ∙ f.others) (ap (map started) c.as_slice-of.ensures.value ∙ f.starts) in
    record {
      objects = objects_made c.in_ok-places.places c.in_ok-starts.starts q c.args.objects.now c.args.types.now c.in_ok-objects.objects.items h k f.objects f.types c.in_ok-objects.ensures;
      symbols = symbols_made c.in_ok-places.places q c.args.state.now.here.table.symbols c.args.state.now.here.table.parameters c.args.state.now.here.table.links c.in_ok-symbols.symbols.items h
          c.symbols-names.ensures.aligned.parameters c.symbols-names.ensures.aligned.links (ap (λ v. v.names) f.here)
          (c.in_ok-symbols.ensures ∙ (λ i. symbols_by c.in_ok-places.places (c.symbols-names.ensures.symbols i) (c.links-links.ensures i)));
    }
