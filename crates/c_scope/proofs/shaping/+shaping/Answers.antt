use Rattle.std.proofs.Common.{[], map, sym, ap, ◌∙◌, subst}
use Rattle.c_trees.specs.Declarators.{Array}
use Rattle.c_trees.specs.DeclarationView.{tree_of}
use Rattle.c_typing.specs.Plain.{plain}
use Rattle.c_judge.specs.Answers.{◌then◌}
use Rattle.c_judge.specs.Judges.{Gives, IsFault}
use Rattle.c_scope.specs.Declarators.{is_name, function, shape, bounded}
use Rattle.c_scope.specs.Gathered.{gathered}
use Rattle.c_scope.specs.Here.{environment_of}
use Rattle.c_scope.specs.Shapes.{parameter_of, shape_of}
use Rattle.c_scope.proofs.Thens.{gives, fails}
use Rattle.c_scope.proofs.Applied.{shape_function}
use Rattle.c_scope.proofs.shaping.+shaping.Goals as goal

pub at_function-returns-in-Ok : goal.at_function-returns-in-Ok
at_function-returns-in-Ok t c =
    let v = environment_of c.args.here.now in
    let d = c.args.d.now in
    let ps = c.args.ps.now in
    subst (λ j. Gives shape_of j c.function.result) (sym (shape_function v c.args.at d ps (plain c.args.t)))
    (gives shape_of (gathered v [] ps) (map parameter_of c.in-Ok.taken.items) (function (is_name d) c.args.at.at (plain c.args.t)) c.function.result c.in-Ok.ensures
    (subst (λ b. Gives shape_of (function b c.args.at.at (plain c.args.t) (map parameter_of c.in-Ok.taken.items)) c.function.result) c.is_name.ensures c.function.ensures))

pub at_function-returns-in-Err : goal.at_function-returns-in-Err
at_function-returns-in-Err t c =
    let v = environment_of c.args.here.now in
    let d = c.args.d.now in
    let ps = c.args.ps.now in
    subst (λ j. IsFault j c.in-Err.f) (sym (shape_function v c.args.at d ps (plain c.args.t)))
    (fails (gathered v [] ps) (function (is_name d) c.args.at.at (plain c.args.t)) c.in-Err.f c.in-Err.ensures)

pub shape-returns-in-Some : goal.shape-returns-in-Some
shape-returns-in-Some t c =
    let v = environment_of c.args.here.now in
    let b = bounded v c.in-Some.e (plain c.args.t) in
    let e = subst (λ d. Gives shape_of (b then shape v d) c.at_array.result) c.deref-in-Some.ensures (c.at_array.ensures b c.with_bound.ensures) in
    subst (λ x. Gives shape_of (shape v x (plain c.args.t)) c.at_array.result) (ap (Array c.in-Array.at c.in-Array.d.value) (sym c.in-Some.is) ∙ (ap tree_of (sym c.in-Array.is) ∙ c.d.view_is)) e
