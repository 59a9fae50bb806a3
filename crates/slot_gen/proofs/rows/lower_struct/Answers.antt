use Rattle.slot_gen.proofs.Begun.{struct_made}
use Rattle.slot_gen.proofs.rows.lower_struct.Goals as goal

pub returns : goal.returns
returns c =
    struct_made c.args.program.now c.args.number c.args.def.now _ c.as_slice-2.result.now _ c.as_slice.result.now c.as_slice-2.ensures c.in_ok-members.ensures c.as_slice.ensures c.in_ok-leaves.ensures
