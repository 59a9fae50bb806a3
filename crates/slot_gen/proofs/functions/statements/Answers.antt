use Rattle.slot_gen.proofs.Forms.{statements_same}
use Rattle.slot_gen.proofs.functions.statements.Goals as goal

pub returns-in-Block : goal.returns-in-Block
returns-in-Block c = statements_same _ _ _ _ _ _ _ c.in-Block.is c.deref.ensures.value
