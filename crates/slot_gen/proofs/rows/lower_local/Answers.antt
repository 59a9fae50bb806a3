use Rattle.slot_gen.proofs.Begun.{local_made}
use Rattle.slot_gen.proofs.rows.lower_local.Goals as goal

pub returns : goal.returns
returns c =
    local_made c.args.program.now c.args.registers.now c.args.x c.args.local.now c.in_ok-home.home c.access_of.result c.in_ok-size.size c.in_ok-leaves.leaves c.as_slice.result.now c.as_slice-2.result.now c.in_ok-home.ensures c.access_of.ensures c.as_slice.ensures c.in_ok-size.ensures c.as_slice-2.ensures c.in_ok-leaves.ensures
