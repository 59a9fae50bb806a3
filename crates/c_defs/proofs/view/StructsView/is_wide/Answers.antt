use Rattle.std.proofs.Common.{ap, sym, ◌∙◌}
use Rattle.c_tree.specs.Layout.{alignment_of}
use Rattle.c_defs.proofs.view.StructsView.is_wide.Goals as goal

pub returns : goal.returns
returns c = ap (λ ds. alignment_of ds c.args.t.now) (sym c.self.view_is) ∙ c.is_wide.ensures
