use Rattle.std.proofs.Common.{◌≡◌, ◌∙◌, sym, ap, Option, Some, None, option_map}
use Rattle.table_points.specs.declared.named.NamedFunction.{NamedFunction}
use Rattle.table_points.specs.Naming.{named_of, choice_of, chosen_by}
use Rattle.table_points.proofs.Naming.{point_fails, point_none, point_some}
use Rattle.table_points.proofs.named.point_among.Goals as goal

pub returns-in-Err : goal.returns-in-Err
returns-in-Err c = sym (point_fails c.args.store.now c.args.name.now c.args.units.now c.in-Err.lack (sym c.in-Err.ensures))

pub returns-in-None : goal.returns-in-None
returns-in-None c =
    let is : chosen_by (choice_of c.in-Ok.meant) ≡ None = sym c.chosen.ensures ∙ ap (λ (o : Option NamedFunction). option_map named_of o) c.in-None.is in
    sym (point_none c.args.store.now c.args.name.now c.args.units.now (choice_of c.in-Ok.meant) (sym c.in-Ok.ensures) is)

pub returns-in-Some : goal.returns-in-Some
returns-in-Some c =
    let is : chosen_by (choice_of c.in-Ok.meant) ≡ Some (named_of c.in-Some.function) = sym c.chosen.ensures ∙ ap (λ (o : Option NamedFunction). option_map named_of o) c.in-Some.is in
    c.first_point.ensures ∙ sym (point_some c.args.store.now c.args.name.now c.args.units.now (choice_of c.in-Ok.meant) (named_of c.in-Some.function) (sym c.in-Ok.ensures) is)
