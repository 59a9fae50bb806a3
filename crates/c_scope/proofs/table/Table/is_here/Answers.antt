use Rattle.std.proofs.Common.{[], sym, ap, ◌∙◌}
use Rattle.c_scope.specs.Table.{names_from}
use Rattle.c_scope.specs.Tabled.{visible_from}
use Rattle.c_typing.specs.Declarations.{is_named}
use Rattle.c_scope.proofs.Hiding.{here_none, here_some}
use Rattle.c_scope.proofs.table.Table.is_here.Goals as goal

pub returns-in-None : goal.returns-in-None
returns-in-None c = sym (ap (λ t. is_named (names_from t.start t.visible) c.args.name.now) (sym c.self.view_is)
    ∙ here_none c.self.inside.start _ (visible_from [] c.self.inside.shadowing.items) c.args.name.now c.self.invariant.below (sym (c.self.invariant.finds c.args.name.now) ∙ (sym c.find.ensures ∙ c.in-None.is)))

pub returns-in-Some : goal.returns-in-Some
returns-in-Some c = sym (ap (λ t. is_named (names_from t.start t.visible) c.args.name.now) (sym c.self.view_is)
    ∙ here_some c.self.inside.start _ (visible_from [] c.self.inside.shadowing.items) c.args.name.now c.in-Some.n c.self.invariant.below (sym (c.self.invariant.finds c.args.name.now) ∙ (sym c.find.ensures ∙ c.in-Some.is)))
