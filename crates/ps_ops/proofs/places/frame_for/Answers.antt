use Rattle.ps_ops.proofs.places.frame_for.Goals as goal

pub returns-in-Registers-clause-looks : goal.returns-in-Registers-clause-looks
returns-in-Registers-clause-looks g c = rw c.in-Registers.is c.frame_of.ensures.looks
