use Rattle.std.proofs.Common.{refl, sym, ◌∙◌}
use Rattle.expr_serve.specs.Types.{filled_struct, filled_structs}
use Rattle.ps_emit.proofs.Followed.{counted_more, none_left}
use Rattle.expr_serve.proofs.types.fill_structs.Goals as goal

pub loop-def-preserved : goal.loop-def-preserved
loop-def-preserved c =
    counted_more (filled_structs c.args.defs.now) c.loop-def.s c.in_ok-s.s (filled_struct c.args.defs.now c.loop-def.s c.def-item.result) c.args.defs.now c.loop-def.def-index c.def-item.result c.in_ok-s.ensures c.loop-def-test.true c.def-item.is refl
    c.in_ok-fill_struct.ensures
    ∙ c.loop-def.invariant

pub returns : goal.returns
returns c = record { text = sym (none_left (filled_structs c.args.defs.now c.loop-def.s) c.args.defs.now c.loop-def.def-index c.loop-def.text refl c.loop-def-test.false) ∙ c.loop-def.invariant }
