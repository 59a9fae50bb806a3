use Rattle.std.proofs.Common.{sym, ◌∙◌, ap}
use Rattle.c_trees.specs.Declarators.{begins, Function}
use Rattle.c_trees.specs.DeclarationView.{tree_of}
use Rattle.c_declaration.proofs.Pushed.{begins_with}
use Rattle.c_declaration.proofs.grown.begins.Goals as goal

pub returns-in-Function : goal.returns-in-Function
returns-in-Function c =
    sym (begins_with (Function c.in-Function.place c.in-Function.field-1.value) c.in-Function.field-2.items)
    ∙ ap (λ n. begins (tree_of n)) (sym c.in-Function.is)
    ∙ ap begins c.d.view_is
