use Rattle.std.proofs.Common.{◌∙◌}
use Rattle.slot_gen.proofs.Begun.{kept_same}
use Rattle.slot_gen.proofs.rows.leaves_of.Goals as goal

pub returns-in-Ok : goal.returns-in-Ok
returns-in-Ok c = c.from_vec.ensures ∙ c.in-Ok.ensures.1 ∙ kept_same 0 _ _ c.in-Ok.ensures.0 (c.leaves_ascend.ensures c.args.defs.now c.args.t.now c.requires)
