use Rattle.std.proofs.Common.{refl, sym, ◌∙◌}
use Rattle.ps_emit.specs.Types.{struct_code, each_struct}
use Rattle.ps_emit.proofs.Followed.{one_more, none_left}
use Rattle.ps_emit.proofs.types.add_each_struct.Goals as goal

pub loop-def-preserved : goal.loop-def-preserved
loop-def-preserved c =
    one_more each_struct each_struct (struct_code c.def-item.result) c.args.defs.now c.loop-def.def-index c.def-item.result c.loop-def-test.true c.def-item.is refl c.in_ok-add_struct.ensures
    ∙ c.loop-def.invariant

pub returns : goal.returns
returns c = record { text = sym (none_left each_struct c.args.defs.now c.loop-def.def-index c.loop-def.text refl c.loop-def-test.false) ∙ c.loop-def.invariant }
