use Rattle.slot_gen.proofs.Begun.{object_made}
use Rattle.slot_gen.proofs.rows.lower_object.Goals as goal

pub returns : goal.returns
returns c = λ o.
    object_made c.args.program.now o c.args.row.now c.in_ok-name.name c.as_bytes.result.now c.in_ok-size.size c.in_ok-start.start c.as_slice-3.result.now _ c.as_slice-4.result.now c.as_slice.result.now c.as_slice-2.result.now c.in_ok-name.ensures c.as_bytes.ensures c.as_slice.ensures c.in_ok-size.ensures c.as_slice-2.ensures c.in_ok-leaves.ensures c.as_slice-3.ensures c.as_slice-4.ensures c.in_ok-start.ensures
