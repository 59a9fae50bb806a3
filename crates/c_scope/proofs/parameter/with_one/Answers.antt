use Rattle.std.proofs.Common.{sym, ap, ◌∙◌}
use Rattle.c_scope.specs.Shapes.{any_called}
use Rattle.c_scope.proofs.Parametric.{taken_is, free_is, nameless_is, adds_gives}
use Rattle.c_scope.proofs.parameter.with_one.Goals as goal

pub returns-then-any_called : goal.returns-then-any_called
returns-then-any_called c = taken_is c.args.parameters.items c.args.p c.args.at c.in-Some.name c.in-Some.is
    (ap (λ l. any_called c.in-Some.name.now l) (sym c.deref.ensures.value) ∙ (sym c.any_called.ensures ∙ c.if-any_called.true))

pub returns-in-None : goal.returns-in-None
returns-in-None c = adds_gives c.args.parameters.items c.args.p _ c.pushed.result (nameless_is c.args.parameters.items c.args.p c.args.at c.in-None.is) c.pushed.ensures

pub returns-else-any_called : goal.returns-else-any_called
returns-else-any_called c = adds_gives c.args.parameters.items c.args.p _ c.pushed-in-Some.result
    (free_is c.args.parameters.items c.args.p c.args.at c.in-Some.name c.in-Some.is
    (ap (λ l. any_called c.in-Some.name.now l) (sym c.deref.ensures.value) ∙ (sym c.any_called.ensures ∙ c.if-any_called.false)))
    c.pushed-in-Some.ensures
