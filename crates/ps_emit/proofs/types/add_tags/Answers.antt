use Rattle.std.proofs.Common.{refl, sym, ◌∙◌}
use Rattle.ps_emit.specs.Types.{tag_code, tags_code}
use Rattle.ps_emit.proofs.Followed.{counted_more, none_left}
use Rattle.ps_emit.proofs.types.add_tags.Goals as goal

pub loop-def-preserved : goal.loop-def-preserved
loop-def-preserved c =
    counted_more (tags_code) c.loop-def.s c.in_ok-s.s (tag_code c.loop-def.s c.def-item.result) c.args.defs.now c.loop-def.def-index c.def-item.result c.in_ok-s.ensures c.loop-def-test.true c.def-item.is refl c.in_ok-add_tag.ensures
    ∙ c.loop-def.invariant

pub returns : goal.returns
returns c = record { text = sym (none_left ((tags_code) c.loop-def.s) c.args.defs.now c.loop-def.def-index c.loop-def.text refl c.loop-def-test.false) ∙ c.loop-def.invariant }
