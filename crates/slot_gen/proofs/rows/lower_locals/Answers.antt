use Rattle.std.proofs.Common.{◌∙◌}
use Rattle.slot_gen.proofs.Begun.{each_same}
use Rattle.slot_gen.proofs.rows.lower_locals.Goals as goal

pub returns : goal.returns
returns c = each_same c.lower_each.result c.args.program.now _ _ c.args.locals.now (c.deref.ensures.value ∙ c.in_ok-registers.ensures) c.lower_each.ensures
