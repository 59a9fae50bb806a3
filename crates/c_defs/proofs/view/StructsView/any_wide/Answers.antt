use Rattle.std.proofs.Common.{ap, sym, ◌∙◌}
use Rattle.c_tree.specs.Layout.{alignment_of, alignment_of_members}
use Rattle.c_defs.proofs.view.StructsView.any_wide.Goals as goal

pub returns : goal.returns
returns c = ap (λ ds. alignment_of_members (alignment_of ds) c.args.members.now) (sym c.self.view_is) ∙ c.any_wide.ensures
