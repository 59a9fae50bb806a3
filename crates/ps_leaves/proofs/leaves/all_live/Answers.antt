use Rattle.std.proofs.Common.{◌≡◌, sym, ap, ◌∙◌, Ok}
use Rattle.ps_step.specs.Results.{◌>>=◌}
use Rattle.table_model.specs.Reading.{Walked}
use Rattle.table_types.specs.Offsets.{checked_found, type_live}
use Rattle.ps_leaves.specs.declared.leaves.Access.TheVariants.{OfType}
use Rattle.ps_leaves.specs.Leaves.{access_live, all_live}
use Rattle.ps_leaves.proofs.leaves.all_live.Goals as goal

pub returns-in-OfType : goal.returns-in-OfType
returns-in-OfType c =
    let s = c.args.store.now in
    let t = c.in-OfType.t in
    let shallow : checked_found s c.args.found ≡ Ok c.in_ok-check_found.field-0 = sym c.check_found.ensures ∙ c.in_ok-check_found.was in
    c.type_live.ensures
    ∙ (ap (λ i. type_live s c.args.found 64 t i) c.offset_of-in-OfType.ensures
    ∙ (sym (ap (λ (o : Walked (Unit {0})). o >>= λ u. access_live s c.args.found (OfType t)) shallow)
    ∙ ap (λ a. all_live s c.args.found a) (sym c.in-OfType.is)))
