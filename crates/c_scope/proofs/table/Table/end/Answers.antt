use Rattle.std.proofs.Common.{◌≤◌, [], length, sym, subst}
use Rattle.c_scope.specs.Table.{AreBelow}
use Rattle.c_scope.specs.Tabled.{visible_from}
use Rattle.c_scope.proofs.Hiding.{outermost_below}
use Rattle.c_scope.proofs.table.Table.end.Goals as goal

pub invariant_of-self : goal.invariant_of-self
invariant_of-self c = record {
  finds = c.rewind.ensures.finds;
  hide = c.rewind.ensures.hide;
  below = subst (AreBelow (length c.self.inside.symbols.items)) (sym c.rewind.ensures.visible) (outermost_below c.args.mark.height _ (visible_from [] c.self.inside.shadowing.items) c.self.invariant.below);
  parameters = c.self.invariant.parameters;
  links = c.self.invariant.links;
  start = subst (λ t. c.args.mark.start ≤ length t.symbols) (sym c.self.view_is) c.requires;
}
