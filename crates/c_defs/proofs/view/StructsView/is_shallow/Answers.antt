use Rattle.std.proofs.Common.{ap, sym, ◌∙◌, arith}
use Rattle.c_typing.specs.Plain.{plain}
use Rattle.c_defs.specs.Depths.{deepest, is_within}
use Rattle.c_defs.proofs.view.StructsView.is_shallow.Goals as goal

pub returns : goal.returns
unfolding deepest
returns c = sym (c.depth.ensures.within 64 (omega arith)) ∙ ap (λ ds. is_within ds 64 (plain c.args.t.now)) c.self.view_is
